-- Take paths, bridges, connected subjects, and spans: each as a test (in lower case), which the code is held to, and as a relation without bounds
-- (in capitals). The two say the same of a well-formed state.
use Rattle.std.specs.Prelude.{◌≡◌, ℕ, Bool, ◌&&◌, ◌||◌, T, ◌==◌}
use Rattle.model.specs.State.{State, is_subject, take_right, grant_right}
use Rattle.model.specs.Bounded.{some_below}
use Rattle.model.specs.Closure.{within, Star}

abbrev pub can_take : State → ℕ → ℕ → Bool
can_take s x y = s.has x take_right y

abbrev pub can_grant : State → ℕ → ℕ → Bool
can_grant s x y = s.has x grant_right y

-- A take path: zero or more take rights, head to tail.
unfoldable pub take_path : State → ℕ → ℕ → Bool
take_path s = within s.size s.size (can_take s)

abbrev pub TakePath : State → ℕ → ℕ → Type 0
TakePath s = Star (λ x y. T (can_take s x y))

-- Take paths lead from p and from q to two vertices of which one has grant to the other.
unfoldable pub meet : State → ℕ → ℕ → Bool
meet s p q =
    some_below s.size (λ u. take_path s p u && some_below s.size (λ v. take_path s q v && (can_grant s u v || can_grant s v u)))

-- A bridge joins two subjects: a take path leads from one to the other, or their take paths meet at a grant.
unfoldable pub bridge : State → ℕ → ℕ → Bool
bridge s p q = is_subject s p && (is_subject s q && (take_path s p q || (take_path s q p || meet s p q)))

pub data Joins (s : State) (p q : ℕ) : Type 0 where
  ahead : TakePath s p q → Joins s p q
  back : TakePath s q p → Joins s p q
  over : (u v : ℕ) → TakePath s p u → TakePath s q v → T (can_grant s u v) → Joins s p q
  under : (u v : ℕ) → TakePath s p u → TakePath s q v → T (can_grant s v u) → Joins s p q

pub record Bridge (s : State) (p q : ℕ) : Type 0 where
  pub one : T (is_subject s p)
  pub other : T (is_subject s q)
  pub joins : Joins s p q

-- Connected: a row of bridges leads from one to the other, or they are one.
unfoldable pub connected : State → ℕ → ℕ → Bool
connected s = within s.size s.size (bridge s)

abbrev pub Connected : State → ℕ → ℕ → Type 0
Connected s = Star (Bridge s)

-- A subject spans initially to x if it is x, or a take path leads from it to something that has grant to x.
unfoldable pub initial_span : State → ℕ → ℕ → Bool
initial_span s p x = is_subject s p && (p == x || some_below s.size (λ u. take_path s p u && can_grant s u x))

pub data Grants (s : State) (p x : ℕ) : Type 0 where
  itself : p ≡ x → Grants s p x
  through : (u : ℕ) → TakePath s p u → T (can_grant s u x) → Grants s p x

pub record InitialSpan (s : State) (p x : ℕ) : Type 0 where
  pub acts : T (is_subject s p)
  pub grants : Grants s p x

-- A subject spans terminally to t if a take path leads from it to t.
unfoldable pub terminal_span : State → ℕ → ℕ → Bool
terminal_span s q t = is_subject s q && take_path s q t

pub record TerminalSpan (s : State) (q t : ℕ) : Type 0 where
  pub acts : T (is_subject s q)
  pub takes : TakePath s q t
