use Rattle.std.proofs.Common.{◌≡◌, ◌*◌, ◌++◌, vec_items}
use Rattle.bits.specs.Sets.{holds}
use Rattle.codec.specs.Writing.{row_bytes}
use Rattle.codec.proofs.write.write_row.Given as goal

abbrev pub invariant-loop-c : goal.invariant-loop-c
invariant-loop-c l = vec_items l.out ≡ vec_items l.initial.out ++ row_bytes l.r (holds l.targets) (64 * l.c)
