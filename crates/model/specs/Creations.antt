-- Just after a creation: who can come to have which right to the new vertex.
use Rattle.std.specs.Prelude.{◌≡◌, ℕ, Bool, ◌&&◌, T}
use Rattle.model.specs.State.{State, WellFormed}
use Rattle.model.specs.Bounded.{some_below}
use Rattle.model.specs.Spans.{connected, initial_span}
use Rattle.model.specs.Rules.{applicable, applied}
use Rattle.model.specs.declared.Rule.TheVariants.{Create}
use Rattle.model.specs.declared.Create.{Create as Creation}

-- The creator has r to the vertex, and some subject that is connected with the creator spans initially to x.
unfoldable pub through_creator : State → ℕ → ℕ → ℕ → ℕ → Bool
through_creator s creator x r new =
    s.has creator r new && some_below s.size (λ p. connected s creator p && initial_span s p x)

-- A test of what can come about says so of the new vertex, in the state just after the creation.
abbrev pub NewlyShared : (State → ℕ → ℕ → ℕ → Bool) → Type 0
NewlyShared test =
    (s : State) → WellFormed s → (c : Creation) → T (applicable s (Create c)) → (x r : ℕ) →
    test (applied s (Create c)) x r s.size ≡ through_creator (applied s (Create c)) c.who x r s.size
