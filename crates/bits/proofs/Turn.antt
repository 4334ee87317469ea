-- A turn of a walk through a set leaves fewer members.
use Rattle.std.proofs.Common.{ℕ, ◌*◌, ◌≤◌, Option, Some, None}
use Rattle.std.specs.Iterator.{MakesProgress, at_most}
use Rattle.model.specs.Bounded.{count_below}
use Rattle.bits.specs.Members.{TakesLowest, left}
use Rattle.bits.specs.Sets.{among}
use Rattle.bits.specs.declared.members.Members.{Members}
use Rattle.bits.proofs.Holds.{among_below}
use Rattle.bits.proofs.Walk.{fewer}

pub goes :
    (w : ℕ) (s : Members w) (r : Option ℕ) (t : Members w) → w ≤ 4 → TakesLowest (among w (left s)) r (among w (left t)) →
    MakesProgress (λ _. w ≤ 4) (λ s. at_most (count_below (64 * w) (among w (left s)))) s r t
goes w s None t h e = record { on = λ _. tt; keeps = tt; rests = λ _. tt }
goes w s (Some v) t h e = record {
  on = λ _. (h, tt, fewer (among w (left s)) (among w (left t)) v e.2 (64 * w) (among_below w (left s) v e.0) e.0);
  keeps = h;
  rests = λ _. tt;
}
