-- Islands: the subjects inside the least barrier round a subject are those that are connected with it.
use Rattle.std.proofs.Common.{◌≡◌, ℕ, T, refl, subst, eqb→eq}
use lib.Dec.{eqb_refl}
use Rattle.model.specs.State.{State, WellFormed, is_subject}
use Rattle.model.specs.Bounded.{only}
use Rattle.model.specs.Closure.{here}
use Rattle.model.specs.Spans.{over, connected, Connected, Grants, itself, through, InitialSpan}
use Rattle.model.specs.Certificates.{inner_of}
use Rattle.model.proofs.Tests.{same}
use Rattle.model.proofs.Stars.{append, one_step}
use Rattle.model.proofs.Readings.{subject_vertex, connected_to, connected_from}
use Rattle.model.proofs.Symmetry.{connected_turns}
use Rattle.model.proofs.Barrier.{Inner}
use Rattle.model.proofs.Right.{In}
use Rattle.model.proofs.Sets.{inner_of-to, inner_of-from}

module _ (s : State) (wf : WellFormed s) where
  -- Who spans initially to a subject is connected with it.
  pub spans_connected : (p l : ℕ) → T (is_subject s l) → InitialSpan s p l → Connected s p l
  spans_connected p l a i = by i.grants
    where
      by : Grants s p l → Connected s p l
      by (itself e) = subst (λ z. Connected s p z) e here
      by (through u w g) = one_step (record { one = i.acts; other = a; joins = over u l w here g })

  module _ (l : ℕ) (acts : T (is_subject s l)) where
    pub inner_connected : (p : ℕ) → Inner s (In s.size (only l)) p → Connected s l p
    inner_connected p h =
        append (connected_turns s (spans_connected h.first l acts (subst (λ z. InitialSpan s h.first z) (eqb→eq h.holder l h.is.1) h.initial))) h.joined

    pub connected_inner : (p : ℕ) → Connected s l p → Inner s (In s.size (only l)) p
    connected_inner p v =
        record {
          holder = l;
          first = l;
          is = (subject_vertex s l acts, eqb_refl l);
          initial = record { acts = acts; grants = itself refl };
          joined = v;
        }

    pub island_is : (p : ℕ) → inner_of s (only l) p ≡ connected s l p
    island_is p =
        same _ _ (λ t. connected_from s wf l p (inner_connected p (inner_of-to s (only l) p t)))
        (λ t. inner_of-from s wf (only l) p (connected_inner p (connected_to s l p t)))
