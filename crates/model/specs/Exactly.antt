-- What is proved of the exact witness: it is a witness, wherever there is one.
use Rattle.std.specs.Prelude.{◌≡◌, ℕ, ◌*◌, ◌<◌, false, T, List, [], ◌++◌}
use Rattle.model.specs.State.{State, WellFormed, is_subject}
use Rattle.model.specs.Rules.{after}
use Rattle.model.specs.Sharing.{can_share}
use Rattle.model.specs.Readings.{Agree}
use Rattle.model.specs.Promise.{Witness}
use Rattle.model.specs.Exact.{exact_work, exact_witness}
use Rattle.model.specs.declared.Rule.{Rule}

-- It is a witness by subjects that are there from the start. It is empty exactly if x has r to y; if not, it leads to the state that was worked in.
-- On the way there are fewer than 2n vertices: the highest number is at most 2n - 2.
pub record Exactly (s : State) (x r y : ℕ) : Type 0 where
  pub witness : Witness (is_subject s) s x r y
  pub is : witness.rules ≡ exact_witness s x r y
  pub empty : Agree (s.has x r y) (exact_witness s x r y ≡ [])
  pub worked : s.has x r y ≡ false → after s (exact_witness s x r y) ≡ (exact_work s x r y).state
  pub small : (done rest : List Rule) → done ++ rest ≡ exact_witness s x r y → (after s done).size < 2 * s.size

abbrev pub ExactIsWitness : Type 0
ExactIsWitness = (s : State) → WellFormed s → (x r y : ℕ) → T (can_share s x r y) → Exactly s x r y
