use Rattle.std.proofs.Common.{ℕ, ◌||◌}
use Rattle.model.specs.Bit.{bit}
use Rattle.model.specs.Bounded.{count_below}
use Rattle.spans.specs.Sets.{in_sets}
use Rattle.sharing.specs.Filling.{about, in_word}
use Rattle.sharing.specs.Table.{held_by}
use Rattle.sharing.proofs.Gathered.{Gathered}
use Rattle.sharing.proofs.table.Table.gather_word.Given as goal

abbrev pub invariant-loop-b : goal.invariant-loop-b
invariant-loop-b g l =
    let s = about g.row.W l.self in
    (r : ℕ) → Gathered s r (λ y. in_sets l.initial.held r y || held_by s (in_word l.c l.word) r y) (in_sets l.held r) (in_word l.c l.rest)

abbrev pub decreases-loop-b : goal.decreases-loop-b
decreases-loop-b g l = count_below 64 (bit l.rest)
