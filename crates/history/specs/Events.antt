-- A history, as a chamber would tell it: acts and questions one after the other.
use Rattle.std.specs.Prelude.{ℕ, ◌<◌, ◌≤◌, T, List, [], ◌∷◌}
use Rattle.std.specs.List.{flat_map}
use Rattle.model.specs.State.{State}
use Rattle.model.specs.Rules.{applicable, applied}
use Rattle.model.specs.declared.Rule.{Rule}
use Rattle.model.specs.declared.Question.{Question}
use Rattle.codec.specs.Acts.{act_bytes}
use Rattle.codec.specs.Played.{InRange}
use Rattle.history.specs.Posed.{Posed}

pub data Event : Type 0 where
  act : Rule → Event
  ask : Question → Event

abbrev pub question_bytes : Question → List ℕ
question_bytes q = 6 ∷ q.holder ∷ q.right ∷ q.target ∷ []

abbrev pub event_bytes : Event → List ℕ
event_bytes (act a) = act_bytes a
event_bytes (ask q) = question_bytes q

abbrev pub events_bytes : List Event → List ℕ
events_bytes es = flat_map event_bytes es

-- An act that names what is there may be done, and makes no 256th vertex.
pub record Doable (s : State) (a : Rule) : Type 0 where
  pub range : InRange s.size a
  pub may : T (applicable s a)
  pub room : (applied s a).size < 256

-- A question names what is there, in a state of at most 128 vertices.
pub record Askable (s : State) (q : Question) : Type 0 where
  pub few : s.size ≤ 128
  pub holder : q.holder < s.size
  pub right : q.right < 8
  pub target : q.target < s.size

-- Each in its turn.
unfoldable pub Goes : State → List Event → Type 0
Goes s [] = Unit {0}
Goes s (act a ∷ more) = Doable s a × Goes (applied s a) more
Goes s (ask q ∷ more) = Askable s q × Goes s more

-- The questions, each with the state after the acts before it.
unfoldable pub questions_in : State → List Event → List Posed
questions_in s [] = []
questions_in s (act a ∷ more) = questions_in (applied s a) more
questions_in s (ask q ∷ more) = record { about = s; question = q } ∷ questions_in s more
