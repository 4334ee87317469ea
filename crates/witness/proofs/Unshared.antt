-- Where the right never comes about, the exact witness can't be performed: nobody is there to begin it.
use Rattle.std.proofs.Common.{◌≡◌, ℕ, ◌<◌, false, ◌&&◌, T, List, [], ◌∷◌, ◌⊎◌, sym, refl, ap, ◌∙◌, subst, inl, inr, arith}
use Rattle.std.proofs.lemmas.Bool.{cond-false}
use Rattle.model.specs.State.{State, WellFormed, is_subject, take_right}
use Rattle.model.specs.Bounded.{only}
use Rattle.model.specs.Certificates.{out_of}
use Rattle.model.specs.Closure.{here, next}
use Rattle.model.specs.Rules.{applicable, all_applicable}
use Rattle.model.specs.Sharing.{can_get}
use Rattle.model.specs.Spans.{TakePath, bridge, can_take, terminal_span}
use Rattle.model.specs.Exact.{Work, carried, doing, exact_work, first_for, handed_to, holder_for, last_for, over_row, reaching, shortest_row_of, taking, taking_along, taking_to}
use Rattle.model.specs.declared.Question.{Question}
use Rattle.model.specs.declared.Rule.{Rule}
use Rattle.model.proofs.ExactChoices.{lowest_none}
use Rattle.model.proofs.Readings.{subject_vertex, take_path-to}
use Rattle.model.proofs.Tests.{is_false, parts, some_from}
use Rattle.witness.specs.Answers.{witness_of}
use Rattle.witness.specs.Plans.{performable}
use Rattle.witness.proofs.Choosing.{get_is, holder_is}
use Rattle.witness.proofs.Crossing.{grows_handed, grows_row}
use Rattle.witness.proofs.Exactly.{begun, witness_is}
use Rattle.witness.proofs.Going.{Grows, grows_not}
use Rattle.witness.proofs.Performed.{performed_applicable, performed_front}
use Rattle.witness.proofs.Walked.{stays_put}

module _ (b : State) (wf : WellFormed b) (x r y : ℕ) (never : can_get b x r y ≡ false) where
  -- Nobody has the right who could pass it on, so the number of vertices stands in the holder's place,
  no_holder : holder_for b x r y ≡ b.size
  no_holder =
      sym (holder_is b wf x r y)
      ∙ lowest_none b.size (λ t. b.has t r y && out_of b (only x) t)
      (λ t l h. subst T (sym (get_is b wf x r y) ∙ never) (some_from b.size (λ t. b.has t r y && out_of b (only x) t) t l h))

  -- and in that of the last who gets at it.
  leads_to : {p q : ℕ} → TakePath b p q → (p ≡ q) ⊎ (q < b.size)
  leads_to here = inl refl
  leads_to {p} (next {z = z} t v) = elim (leads_to v) [ inl e ↦ inr (subst (λ k. k < b.size) e (wf.target p take_right z t)) | inr h ↦ inr h ]

  no_last : last_for b x b.size ≡ b.size
  unfolding terminal_span
  no_last =
      lowest_none b.size (reaching b x b.size)
      (λ q l h.
      let path = (parts (is_subject b q) _ (parts (terminal_span b q b.size) _ h).0).1 in
      elim (leads_to (take_path-to b q b.size path)) [ inl e ↦ omega arith | inr k ↦ omega arith ])

  -- It is no vertex, and its first act is to take the right from itself.
  abbrev first_act : Rule
  first_act = taking b.size b.size r y

  begins : taking_to b b.size b.size r y (begun b) ≡ doing first_act (begun b)
  unfolding taking_along
  begins =
      ap (λ (path : List ℕ). taking_along b.size b.size path r y (begun b)) (stays_put b.size (can_take b) b.size)
      ∙ cond-false (b.has b.size r y) _ _ (is_false _ (λ t. let l = wf.holder b.size r y t in omega arith))

  goes_on : Grows (doing first_act (begun b)) (exact_work b x r y)
  unfolding exact_work
  goes_on =
      subst (λ (t : ℕ). Grows (doing first_act (begun b)) (carried b x r y t (last_for b x t) (first_for b x (last_for b x t)) (begun b))) (sym no_holder)
      (subst (λ (q : ℕ). Grows (doing first_act (begun b)) (carried b x r y b.size q (first_for b x q) (begun b))) (sym no_last)
      (subst (λ (w : Work). Grows (doing first_act (begun b)) (handed_to b (first_for b x b.size) x r y (over_row b b.size (shortest_row_of b.size (bridge b) b.size (first_for b x b.size)) r y w)))
      (sym begins)
      (grows_handed b _ _ (first_for b x b.size) x r y (grows_row b _ _ b.size (shortest_row_of b.size (bridge b) b.size (first_for b x b.size)) r y (grows_not (doing first_act (begun b)))))))

  nobody_acts : T (all_applicable b (first_act ∷ [])) → ⊥
  unfolding all_applicable
  nobody_acts t =
      let l = subject_vertex b b.size (parts (is_subject b b.size) _ (parts (applicable b first_act) _ t).0).0 in omega arith

pub never_performed : (b : State) → WellFormed b → (q : Question) → false ≡ b.has q.holder q.right q.target → can_get b q.holder q.right q.target ≡ false →
    T (performable b (witness_of b q)) → ⊥
never_performed b wf q lacks never t =
    let g = goes_on b wf q.holder q.right q.target never in
    nobody_acts b wf q.holder q.right q.target never
    (performed_applicable b _ (performed_front b _ g.more (subst (λ (rs : List Rule). T (performable b rs)) (witness_is b q lacks ∙ g.behind) t)))
