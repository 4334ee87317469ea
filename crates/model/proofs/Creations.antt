-- Just after a creation only the creator has a right to the new vertex, so whoever can get one gets it from the creator.
use Rattle.std.proofs.Common.{◌≡◌, ℕ, T, sym, subst, inl, inr, arith}
use Rattle.model.specs.State.{State, WellFormed, is_subject}
use Rattle.model.specs.Closure.{here}
use Rattle.model.specs.Spans.{TakePath, ahead, connected, Connected, initial_span, InitialSpan, itself}
use Rattle.model.specs.Sharing.{can_share, CanGet, CanShare}
use Rattle.model.specs.Rules.{applied}
use Rattle.model.specs.Creations.{through_creator, NewlyShared}
use Rattle.model.specs.declared.Rule.TheVariants.{Create}
use Rattle.model.proofs.Tests.{both, parts, same, SomeBoth, some_both, both_from}
use Rattle.model.proofs.Stars.{append, one_step}
use Rattle.model.proofs.Readings.{subject_vertex, connected_to, connected_from, initial_span-to, initial_span-from, can_share-to, can_share-from}
use Rattle.model.proofs.Symmetry.{connected_turns}
use Rattle.model.proofs.Steps.{created_has, created_subject_had, applied_well}

-- Of a state in which one subject alone has rights to a vertex.
module _ (t : State) (wf : WellFormed t) (who new : ℕ) (acts : T (is_subject t who)) (sole : (p r : ℕ) → T (t.has p r new) → p ≡ who) where
  through_from : (x r p : ℕ) → T (t.has who r new) → Connected t who p → InitialSpan t p x → T (through_creator t who x r new)
  unfolding through_creator
  through_from x r p h v i =
      both (t.has who r new) _ h
      (both_from t.size (connected t who) (λ q. initial_span t q x) p (subject_vertex t p i.acts) (connected_from t wf who p v) (initial_span-from t wf p x i))

  through : (x r : ℕ) → CanShare t x r new → T (through_creator t who x r new)
  through x r (inl h) =
      let e = sole x r h in
      through_from x r who (subst (λ z. T (t.has z r new)) e h) here (record { acts = acts; grants = itself (sym e) })
  through x r (inr g) =
      through_from x r g.first (subst (λ z. T (t.has z r new)) e g.holds)
      (connected_turns t (append g.joined (one_step (record { one = g.terminal.acts; other = acts; joins = ahead takes })))) g.initial
    where
      e : g.holder ≡ who
      e = sole g.holder r g.holds

      takes : TakePath t g.last who
      takes = subst (λ z. TakePath t g.last z) e g.terminal.takes

  gets : (x r : ℕ) → T (through_creator t who x r new) → CanGet t x r new
  unfolding through_creator
  gets x r h =
      let u = parts (t.has who r new) _ h in
      got u.0 (some_both t.size (connected t who) (λ p. initial_span t p x) u.1)
    where
      got : T (t.has who r new) → SomeBoth t.size (connected t who) (λ p. initial_span t p x) → CanGet t x r new
      got holds k =
          record {
            holder = who;
            first = k.at;
            last = who;
            holds = holds;
            initial = initial_span-to t k.at x k.other;
            terminal = record { acts = acts; takes = here };
            joined = connected_turns t (connected_to t who k.at k.one);
          }

  sole_shared : (x r : ℕ) → can_share t x r new ≡ through_creator t who x r new
  sole_shared x r = same _ _ (λ h. through x r (can_share-to t x r new h)) (λ h. can_share-from t wf x r new (inr (gets x r h)))

pub newly_shared : NewlyShared can_share
newly_shared s wf c h x r =
    sole_shared (applied s (Create c)) (applied_well s (Create c) h wf) c.who s.size
    (created_subject_had c.who c.subject c.rights s c.who h) only_creator x r
  where
    only_creator : (p k : ℕ) → T ((applied s (Create c)).has p k s.size) → p ≡ c.who
    only_creator p k t =
        elim (created_has c.who c.subject c.rights s p k s.size t) [
          | inl e ↦ e.0
          | inr u ↦ absurd (omega (arith, wf.target p k s.size u))
        ]
