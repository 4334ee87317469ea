-- What a changing graph stands for: the state of its graph. And its rows, as they stand in its words.
use Rattle.std.specs.Prelude.{◌≡◌, ℕ, Bool}
use Rattle.model.specs.State.{State}
use Rattle.graph.specs.Graphs.{state}
use Rattle.changing.specs.Rows.{in_rows}
use Rattle.changing.specs.declared.kept.ChangingGraph.{ChangingGraph}

abbrev pub tracked : ChangingGraph → State
tracked c = state c.graph

-- Has row x the number y?
abbrev pub kept_row : ChangingGraph → ℕ → ℕ → Bool
kept_row c x y = in_rows c.rows x y

-- The graph and the words of all rows are as they were.
abbrev pub Untouched : ChangingGraph → ChangingGraph → Type 0
Untouched was is = (is.graph ≡ was.graph) × (is.rows ≡ was.rows)
