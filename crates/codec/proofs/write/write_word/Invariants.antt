use Rattle.std.proofs.Common.{◌≡◌, ◌++◌, vec_items}
use Rattle.model.specs.Bit.{bit}
use Rattle.model.specs.Bounded.{count_below}
use Rattle.codec.proofs.Written.{word_bytes}
use Rattle.codec.proofs.write.write_word.Given as goal

-- What is left of the word is still to be written.
abbrev pub invariant-loop-b : goal.invariant-loop-b
invariant-loop-b l = vec_items l.out ++ word_bytes l.r l.c 64 (bit l.rest) ≡ vec_items l.initial.out ++ word_bytes l.r l.c 64 (bit l.initial.rest)

abbrev pub decreases-loop-b : goal.decreases-loop-b
decreases-loop-b l = count_below 64 (bit l.rest)
