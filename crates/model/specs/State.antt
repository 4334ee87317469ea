-- A protection state: who has which right to what.
use Rattle.std.specs.Prelude.{ℕ, ◌<◌, Bool, ◌&&◌, T, nat_lt}

-- Vertices are 0 to size - 1. What `subject` says of a number from `size` on means nothing.
pub record State : Type 0 where
  pub size : ℕ
  pub subject : ℕ → Bool
  pub has : ℕ → ℕ → ℕ → Bool

-- The two rights that mean something to the rules.
abbrev pub take_right : ℕ
take_right = 0

abbrev pub grant_right : ℕ
grant_right = 1

abbrev pub is_vertex : State → ℕ → Bool
is_vertex s p = nat_lt p s.size

abbrev pub is_subject : State → ℕ → Bool
is_subject s p = is_vertex s p && s.subject p

-- Rights are only between vertices.
pub record WellFormed (s : State) : Type 0 where
  pub holder : (p r q : ℕ) → T (s.has p r q) → p < s.size
  pub target : (p r q : ℕ) → T (s.has p r q) → q < s.size
