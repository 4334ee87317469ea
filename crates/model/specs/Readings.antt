-- What is proved of closures and of the tests of a state: they say what the relations without bounds say, and connected goes both ways.
use Rattle.std.specs.Prelude.{◌≡◌, ℕ, ◌<◌, Bool, false, T}
use Rattle.model.specs.State.{State, WellFormed, is_subject}
use Rattle.model.specs.Closure.{within, Star}
use Rattle.model.specs.Spans.{can_grant}

-- A test says what a relation says.
pub record Agree (test : Bool) (Relation : Type 0) : Type 0 where
  pub to : T test → Relation
  pub from : Relation → T test

-- A closure over n vertices is complete after so many rounds. Fewer than n do.
abbrev pub ClosureComplete : (ℕ → ℕ) → Type 0
ClosureComplete rounds = (n : ℕ) (e : ℕ → ℕ → Bool) (k x y : ℕ) → x < n → T (within k n e x y) → T (within (rounds n) n e x y)

-- After n rounds it leads wherever any row of steps to vertices below n leads.
abbrev pub ClosureIs : Type 0
ClosureIs = (n : ℕ) (e : ℕ → ℕ → Bool) (x y : ℕ) → Agree (within n n e x y) (Star (λ a b. (b < n) × T (e a b)) x y)

-- A set of vertices that holds x, is closed under e, and holds only what a row of steps from x leads to, is the closure of x.
abbrev pub ClosedIs : Type 0
ClosedIs =
    (n : ℕ) (e : ℕ → ℕ → Bool) → ((a b : ℕ) → T (e a b) → b < n) → (S : ℕ → Bool) (x : ℕ) → x < n → T (S x) →
    ((a b : ℕ) → a < n → b < n → T (S a) → T (e a b) → T (S b)) → ((y : ℕ) → y < n → T (S y) → Star (λ a b. T (e a b)) x y) →
    (y : ℕ) → y < n → S y ≡ within n n e x y

-- In every well-formed state a test of two vertices, or of a vertex and its right to another, says what a relation says.
abbrev pub Says : (State → ℕ → ℕ → Bool) → (State → ℕ → ℕ → Type 0) → Type 0
Says test Relation = (s : State) → WellFormed s → (x y : ℕ) → Agree (test s x y) (Relation s x y)

abbrev pub SaysOfRights : (State → ℕ → ℕ → ℕ → Bool) → (State → ℕ → ℕ → ℕ → Type 0) → Type 0
SaysOfRights test Relation = (s : State) → WellFormed s → (x r y : ℕ) → Agree (test s x r y) (Relation s x r y)

-- A test of two vertices goes both ways.
abbrev pub BothWays : (State → ℕ → ℕ → Bool) → Type 0
BothWays test = (s : State) → WellFormed s → (p q : ℕ) → test s p q ≡ test s q p

-- By a test of what can come about: an object to which nobody has grant comes to have only what it has.
abbrev pub PassiveObject : (State → ℕ → ℕ → ℕ → Bool) → Type 0
PassiveObject test =
    (s : State) → WellFormed s → (x r y : ℕ) → is_subject s x ≡ false → ((p : ℕ) → can_grant s p x ≡ false) → test s x r y ≡ s.has x r y
