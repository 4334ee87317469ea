-- Who applies the rules of a row, and the state in which only some can.
use Rattle.std.specs.Prelude.{ℕ, Bool, true, false, not, ◌&&◌, List, [], ◌∷◌, ◌==◌, nat_lt}
use Rattle.model.specs.State.{State}
use Rattle.model.specs.Bounded.{implies}
use Rattle.model.specs.declared.Rule.{Rule}
use Rattle.model.specs.declared.Rule.TheVariants.{Take, Grant, Create, Remove}

-- Subjects outside S become objects.
abbrev pub restricted : (ℕ → Bool) → State → State
restricted S s = record { size = s.size; subject = λ p. S p && s.subject p; has = s.has }

-- One subject becomes an object.
abbrev pub retired : ℕ → State → State
retired p s = restricted (λ q. not (q == p)) s

-- Who applies the rule.
abbrev pub actor : Rule → ℕ
actor (Take t) = t.who
actor (Grant g) = g.who
actor (Create c) = c.who
actor (Remove d) = d.who

-- Every rule of the row is applied by one of a set.
unfoldable pub all_by : (ℕ → Bool) → List Rule → Bool
all_by by [] = true
all_by by (a ∷ more) = by (actor a) && all_by by more

-- Of the n vertices that are there at the start, only those of S apply rules. Vertices created since then may.
abbrev pub only_by : (ℕ → Bool) → ℕ → List Rule → Bool
only_by S n rules = all_by (λ p. implies (nat_lt p n) (S p)) rules

-- A rule that takes no right away.
abbrev pub adds : Rule → Bool
adds (Take t) = true
adds (Grant g) = true
adds (Create c) = true
adds (Remove d) = false
