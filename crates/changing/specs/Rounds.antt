-- Rounds of a closure over some rows alone.
use Rattle.std.specs.Prelude.{◌≡◌, ℕ, zero, suc, Bool, true, false, not, ◌&&◌, ◌||◌}
use Rattle.model.specs.State.{State}
use Rattle.model.specs.Spans.{can_take}
use Rattle.spans.specs.Paths.{step_from}
use Rattle.changing.specs.Reached.{of_some}

-- The first k of the rounds over the rows of A, where all rows start as e: in round k, each row of A that has k gets what row k has.
unfoldable pub rounds_of : (ℕ → Bool) → (ℕ → ℕ → Bool) → ℕ → ℕ → ℕ → Bool
rounds_of A e zero x y = e x y
rounds_of A e (suc k) x y = rounds_of A e k x y || (A x && (rounds_of A e k x k && rounds_of A e k k y))

-- What a row of A begins as: its vertex, whom that has take to, and what those of them lead to that are not in A, whose rows are whole.
unfoldable pub begun_row : State → (ℕ → Bool) → (ℕ → ℕ → Bool) → ℕ → ℕ → Bool
begun_row s A rows x y = step_from s x y || of_some (λ w. can_take s x w && not (A w)) rows y

-- A row of A that has a number outside A has all that the row of that number has.
abbrev pub Shut : (ℕ → Bool) → (ℕ → ℕ → Bool) → Type 0
Shut A rows = (x k y : ℕ) → A x ≡ true → A k ≡ false → rows x k ≡ true → rows k y ≡ true → rows x y ≡ true
