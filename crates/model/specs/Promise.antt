-- The promise: what can come about is exactly what a test of the state says. For rows of rules by any subjects, and for rows by some alone.
use Rattle.std.specs.Prelude.{◌≡◌, ℕ, ◌+◌, ◌*◌, ◌<◌, ◌≤◌, Bool, false, T, List, length}
use Rattle.model.specs.State.{State, WellFormed, is_subject}
use Rattle.model.specs.Rules.{after, all_applicable}
use Rattle.model.specs.Sharing.{can_share}
use Rattle.model.specs.Restricted.{restricted, all_by, only_by}
use Rattle.model.specs.Plans.{creations}
use Rattle.model.specs.declared.Rule.{Rule}

-- No witness for a state of n vertices is longer.
abbrev pub longest_witness_len : ℕ → ℕ
longest_witness_len n = 8 * (n + 2) * (n + 2)

-- A witness that x can come to have r to y: a row of rules, applied by those of `by` alone and each applicable when its turn comes,
-- with fewer creations than there are vertices, after which x has r to y.
pub record Witness (by : ℕ → Bool) (s : State) (x r y : ℕ) : Type 0 where
  pub rules : List Rule
  pub applicable : T (all_applicable s rules)
  pub applied : T (all_by by rules)
  pub short : length rules ≤ longest_witness_len s.size
  pub few : creations rules < s.size
  pub brings : T ((after s rules).has x r y)

-- The answer to whether x can come to have r to y: a yes has a witness by subjects that are there; after a no, x has r to y after no row of rules,
-- of any length, by any subjects, created ones included. Rules of the row that may not be applied change nothing.
pub record Decided (s : State) (x r y : ℕ) (answer : Bool) : Type 0 where
  pub reached : T answer → Witness (is_subject s) s x r y
  pub never : answer ≡ false → (rules : List Rule) → (after s rules).has x r y ≡ false

-- The promise of a test: its answer is so of every well-formed state and any x and y in it. The test is `can_share`.
abbrev pub Promise : (State → ℕ → ℕ → ℕ → Bool) → Type 0
Promise test = (s : State) → WellFormed s → (x r y : ℕ) → x < s.size → y < s.size → Decided s x r y (test s x r y)

-- The answer to whether x can come to have r to y by rules of S: a yes has a witness by those of S alone; after a no, x has r to y after no row
-- of rules, of any length, that only those of S and vertices created since then apply.
pub record DecidedFor (S : ℕ → Bool) (s : State) (x r y : ℕ) (answer : Bool) : Type 0 where
  pub reached : T answer → Witness S s x r y
  pub never : answer ≡ false → (rules : List Rule) → T (only_by S s.size rules) → (after s rules).has x r y ≡ false

-- Rows by S bring about exactly what can be shared in another state, `limited S s`. That state is `restricted S s`: all outside S are objects.
abbrev pub PromiseFor : ((ℕ → Bool) → State → State) → Type 0
PromiseFor limited =
    (S : ℕ → Bool) (s : State) → WellFormed s → (x r y : ℕ) → x < s.size → y < s.size → DecidedFor S s x r y (can_share (limited S s) x r y)

-- A row that is applicable once all outside S are objects is a row by S, is applicable as things are, and does the same.
pub record ByThese (S : ℕ → Bool) (s : State) (rules : List Rule) : Type 0 where
  pub by : T (only_by S s.size rules)
  pub applies : T (all_applicable s rules)
  pub does : (after s rules).has ≡ (after (restricted S s) rules).has

abbrev pub RestrictedRows : Type 0
RestrictedRows = (S : ℕ → Bool) (s : State) (rules : List Rule) → T (all_applicable (restricted S s) rules) → ByThese S s rules
