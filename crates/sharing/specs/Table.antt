-- The table of answers: a row for each right to each vertex, those to vertex y at 8 y to 8 y + 7, with a bit for whoever can come to have it.
use Rattle.std.specs.Prelude.{ℕ, ◌*◌, ◌/◌, ◌%◌, Bool, ◌&&◌, ◌||◌}
use Rattle.model.specs.State.{State, grant_right}
use Rattle.model.specs.Bounded.{some_below}
use Rattle.model.specs.Sharing.{can_share}
use Rattle.graph.specs.Table.{row_width}

-- Has x the right that row i is for?
unfoldable pub has_row : State → ℕ → ℕ → Bool
has_row s i x = s.has x (i % 8) (i / 8)

-- Can x come to have it?
unfoldable pub shares_row : State → ℕ → ℕ → Bool
shares_row s i x = can_share s x (i % 8) (i / 8)

-- Has one of the set `out` right r to y?
unfoldable pub held_by : State → (ℕ → Bool) → ℕ → ℕ → Bool
held_by s out r y = some_below s.size (λ t. out t && s.has t r y)

-- Does x get what an island brings: is it of the island, or granted to from where that reaches?
unfoldable pub gets : State → (ℕ → Bool) → (ℕ → Bool) → ℕ → Bool
gets s inner out x = inner x || held_by s out grant_right x

-- What an island adds to row i: whoever gets what it brings, if one where it reaches has the right.
unfoldable pub spreads : State → (ℕ → Bool) → (ℕ → Bool) → ℕ → ℕ → Bool
spreads s inner out i x = gets s inner out x && held_by s out (i % 8) (i / 8)

-- The words of the table for so many vertices.
unfoldable pub table_words : ℕ → ℕ
table_words n = 8 * n * row_width n
