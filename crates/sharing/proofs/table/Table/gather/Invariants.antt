use Rattle.std.proofs.Common.{ℕ}
use Rattle.bits.specs.Sets.{among}
use Rattle.spans.specs.Sets.{in_sets}
use Rattle.sharing.specs.Filling.{about}
use Rattle.sharing.specs.Table.{held_by}
use Rattle.sharing.proofs.Gathered.{Gathered, from_word}
use Rattle.sharing.proofs.table.Table.gather.Given as goal

abbrev pub invariant-loop-c : goal.invariant-loop-c
invariant-loop-c g l =
    let s = about g.row.W l.self in
    (r : ℕ) → Gathered s r (held_by s (among g.row.W l.set) r) (in_sets l.held r) (from_word l.c (among g.row.W l.set))
