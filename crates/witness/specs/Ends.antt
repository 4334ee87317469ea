-- Whom the right goes over, as it is chosen.
use Rattle.std.specs.Prelude.{◌≡◌, false, T, Ok, Err, Result}
use Rattle.model.specs.State.{State}
use Rattle.model.specs.declared.Question.{Question}
use Rattle.model.specs.Sharing.{can_get}
use Rattle.model.specs.Exact.{holder_for, last_for, first_for}
use Rattle.spans.specs.Barriers.{Round}
use Rattle.spans.specs.declared.barrier.Barrier.{Barrier}
use Rattle.witness.specs.declared.ends.Ends.{Ends}

-- Those of the exact witness.
pub record Exact (s : State) (q : Question) (e : Ends) : Type 0 where
  pub gets : T (can_get s q.holder q.right q.target)
  pub holder : e.holder ≡ holder_for s q.holder q.right q.target
  pub last : e.last ≡ last_for s q.holder e.holder
  pub first : e.first ≡ first_for s q.holder e.last

-- There are none exactly if the holder can't get the right; the barrier then shows it.
abbrev pub Chosen : State → Question → Result Ends Barrier → Type 0
Chosen s q (Ok e) = Exact s q e
Chosen s q (Err b) = (can_get s q.holder q.right q.target ≡ false) × Round s q.holder b
