-- Rows of take paths: what a row starts as, and how rounds of a closure make it grow.
use Rattle.std.specs.Prelude.{ℕ, zero, suc, Bool, ◌&&◌, ◌||◌, ◌==◌, nat_lt}
use Rattle.model.specs.State.{State, is_vertex}
use Rattle.model.specs.Bounded.{some_below}
use Rattle.model.specs.Spans.{take_path, can_take, can_grant}

-- A take path leads from the vertex x to y.
unfoldable pub path_from : State → ℕ → ℕ → Bool
path_from s x y = is_vertex s x && take_path s x y

-- p is x, or a take path leads from the vertex p to something that has grant to x.
unfoldable pub back_from : State → ℕ → ℕ → Bool
back_from s x p = p == x || some_below s.size (λ u. path_from s p u && can_grant s u x)

-- A take path of at most one step leads from the vertex x to y.
unfoldable pub step_from : State → ℕ → ℕ → Bool
step_from s x y = is_vertex s x && (y == x || can_take s x y)

-- The first k of the rounds over n rows, which start as e: in round k, each row that has k gets what row k has.
unfoldable pub rounds : ℕ → (ℕ → ℕ → Bool) → ℕ → ℕ → ℕ → Bool
rounds n e zero x y = e x y
rounds n e (suc k) x y = rounds n e k x y || (nat_lt x n && (rounds n e k x k && rounds n e k k y))
