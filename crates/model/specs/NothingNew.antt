-- What rules leave as it was, said of a test of what can come about: of `can_share`, and of `can_get`.
use Rattle.std.specs.Prelude.{◌≡◌, ℕ, ◌<◌, Bool, false, T, List}
use Rattle.model.specs.State.{State, WellFormed}
use Rattle.model.specs.Spans.{take_path}
use Rattle.model.specs.Rules.{step, after}
use Rattle.model.specs.Restricted.{restricted}
use Rattle.model.specs.declared.Rule.{Rule}
use Rattle.model.specs.declared.Rule.TheVariants.{Remove}
use Rattle.model.specs.declared.Remove.{Remove as Removal}

-- Rules keep a state well-formed.
abbrev pub StayWellFormed : Type 0
StayWellFormed = (rules : List Rule) (s : State) → WellFormed s → WellFormed (after s rules)

-- No rule makes it newly so of vertices that were there,
abbrev pub NothingNew : (State → ℕ → ℕ → ℕ → Bool) → Type 0
NothingNew test =
    (s : State) → WellFormed s → (x r y : ℕ) → x < s.size → y < s.size → (a : Rule) → T (test (step s a) x r y) → T (test s x r y)

-- nor does any row of rules.
abbrev pub NothingEverNew : (State → ℕ → ℕ → ℕ → Bool) → Type 0
NothingEverNew test =
    (s : State) → WellFormed s → (x r y : ℕ) → x < s.size → y < s.size →
    (rules : List Rule) → T (test (after s rules) x r y) → T (test s x r y)

-- Some rules leave exactly what was so of vertices that were there. Those that add do: takes, grants and creations.
abbrev pub RulesLeave : (Rule → Bool) → (State → ℕ → ℕ → ℕ → Bool) → Type 0
RulesLeave some test =
    (s : State) → WellFormed s → (x r y : ℕ) → x < s.size → y < s.size →
    (a : Rule) → T (some a) → test (step s a) x r y ≡ test s x r y

-- Removals, and subjects' becoming objects, only take away.
abbrev pub RemovingTakesAway : (State → ℕ → ℕ → ℕ → Bool) → Type 0
RemovingTakesAway test =
    (s : State) → WellFormed s → (x r y : ℕ) (d : Removal) → T (test (step s (Remove d)) x r y) → T (test s x r y)

abbrev pub RetiringTakesAway : (State → ℕ → ℕ → ℕ → Bool) → Type 0
RetiringTakesAway test = (S : ℕ → Bool) (s : State) → WellFormed s → (x r y : ℕ) → T (test (restricted S s) x r y) → T (test s x r y)

-- After a rule take paths are as they were from whatever had none to one vertex: the one whose rights the rule changes.
abbrev pub PathsUnchanged : (Rule → ℕ) → Type 0
PathsUnchanged vertex =
    (s : State) → WellFormed s → (a : Rule) (x y : ℕ) → take_path s x (vertex a) ≡ false → take_path (step s a) x y ≡ take_path s x y
