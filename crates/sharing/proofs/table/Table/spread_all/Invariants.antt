use Rattle.std.proofs.Common.{◌≡◌, ℕ, ◌<◌, T}
use Rattle.bits.specs.Sets.{among}
use Rattle.model.specs.Bounded.{count_below}
use Rattle.model.specs.State.{is_subject}
use Rattle.sharing.specs.Filling.{about, cells}
use Rattle.sharing.proofs.Spreading.{Spreading}
use Rattle.sharing.proofs.table.Table.spread_all.Given as goal

abbrev pub invariant-loop-l : goal.invariant-loop-l
invariant-loop-l g l =
    let s = about g.row.W l.initial.self in
    (l.self.graph ≡ l.initial.self.graph)
    × ((p : ℕ) → T (among g.row.W l.rest p) → T (is_subject s p))
    × ((x : ℕ) → T (among g.row.W l.left x) → x < s.size)
    × Spreading s (cells g.row.W l.self) (among g.row.W l.rest) (among g.row.W l.left)

abbrev pub decreases-loop-l : goal.decreases-loop-l
decreases-loop-l g l = count_below 256 (among g.row.W l.rest)
