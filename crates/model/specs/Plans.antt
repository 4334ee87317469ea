-- Plans: rows of rules, each applicable when its turn comes, that bring something about. How many rules they are, how many vertices they create,
-- and who applies them.
use Rattle.std.specs.Prelude.{ℕ, ◌+◌, ◌≤◌, Bool, ◌||◌, T, List, [], ◌∷◌, length, ◌==◌}
use Rattle.model.specs.State.{State, WellFormed, is_subject}
use Rattle.model.specs.Rules.{after, all_applicable}
use Rattle.model.specs.Spans.{bridge}
use Rattle.model.specs.Restricted.{all_by}
use Rattle.model.specs.declared.Rule.{Rule}
use Rattle.model.specs.declared.Rule.TheVariants.{Take, Grant, Create, Remove}

-- c is well-formed, and has all vertices, subjects and rights of b.
pub record Grown (b c : State) : Type 0 where
  pub well_formed : WellFormed c
  pub vertices : b.size ≤ c.size
  pub subjects : (p : ℕ) → T (is_subject b p) → T (is_subject c p)
  pub rights : (p r q : ℕ) → T (b.has p r q) → T (c.has p r q)

-- How many vertices a rule, and a row of rules, creates.
unfoldable pub creation : Rule → ℕ
creation (Take t) = 0
creation (Grant g) = 0
creation (Create c) = 1
creation (Remove d) = 0

unfoldable pub creations : List Rule → ℕ
creations [] = 0
creations (a ∷ more) = creation a + creations more

-- A row of at most `most` rules applied by those of `by`, which creates at most `fresh` vertices, loses nothing, and reaches the goal.
pub record Plan (by : ℕ → Bool) (s : State) (most fresh : ℕ) (Goal : State → Type 0) : Type 0 where
  pub rules : List Rule
  pub applicable : T (all_applicable s rules)
  pub applied : T (all_by by rules)
  pub short : length rules ≤ most
  pub few : creations rules ≤ fresh
  pub grown : Grown s (after s rules)
  pub reached : Goal (after s rules)

-- The goal that x has r to y.
abbrev pub Has : ℕ → ℕ → ℕ → State → Type 0
Has x r y s = T (s.has x r y)

-- Two subjects with a bridge can exchange whatever either has: in a state of n vertices by at most `most n` rules, which these two alone apply
-- and which create at most `fresh` vertices. Then both have it.
abbrev pub Exchange : (ℕ → ℕ) → ℕ → Type 0
Exchange most fresh =
    (s : State) → WellFormed s → (p q r y : ℕ) → T (bridge s p q) → T (s.has p r y || s.has q r y) →
    Plan (λ w. (w == p) || w == q) s (most s.size) fresh (λ d. T (d.has p r y) × T (d.has q r y))
