-- The questions that were read name only vertices that are there, so the promise holds of each.
use Rattle.std.proofs.Common.{◌≡◌, ℕ, zero, suc, ◌<◌, not, eqb, ltb, List, [], ◌∷◌, length, Ok, ap, ◌∙◌, subst, inl, inr}
use Rattle.model.specs.State.{State, WellFormed}
use Rattle.model.proofs.ExactLaws.{exact_is_witness}
use Rattle.model.proofs.Laws.{promise_kept}
use Rattle.model.proofs.Least.{certificate_decides}
use Rattle.model.proofs.Tests.{from_true}
use Rattle.codec.specs.declared.fault.Fault.TheVariants.{UnknownKind}
use Rattle.model.specs.declared.Question.{Question}
use Rattle.codec.specs.Reading.{◌then◌, onward, below_at}
use Rattle.codec.specs.Questions.{question_at}
use Rattle.codec.proofs.Inverted.{byte_ok, below_ok, cond_ways, onward_ok, ok_same, never_ok}
use Rattle.answers.specs.Asked.{questions_at}
use Rattle.answers.specs.Inside.{Inside, AllInside}
use Rattle.answers.specs.Promised.{AllDecided}
use Rattle.answers.specs.Records.{Each, DecidedSo, Shown}

pub question_inside : (bs : List ℕ) (size at : ℕ) (q : Question) (next : ℕ) → question_at bs size at ≡ Ok (q, next) → Inside size q
question_inside bs size at q next e =
    let k = byte_ok bs at _ (q, next) e in
    elim (cond_ways (eqb k.0 6) _ _ _ k.2) [ inl w ↦ numbers _ w.1 | inr w ↦ never_ok (UnknownKind at) (q, next) w.1 ]
  where
    numbers : (at1 : ℕ) → (below_at bs at1 size then λ x at2. below_at bs at2 8 then λ r at3. below_at bs at3 size then λ y after. Ok (record { holder = x; right = r; target = y }, after)) ≡ Ok (q, next) → Inside size q
    numbers at1 g =
        let x = below_ok bs at1 size _ (q, next) g in
        let r = below_ok bs _ 8 _ (q, next) x.3 in
        let y = below_ok bs _ size _ (q, next) r.3 in
        let is = ap (λ p. p.0) (ok_same _ (q, next) y.3) in
        record { holder = subst (λ (p : Question). p.holder < size) is x.2; target = subst (λ (p : Question). p.target < size) is y.2 }

pub questions_inside : (m : ℕ) (bs : List ℕ) (size at : ℕ) (qs : List Question) → questions_at m bs size at ≡ Ok qs → AllInside size qs
unfolding questions_at Each
questions_inside zero bs size at qs e = subst (AllInside size) (ok_same [] qs e) tt
questions_inside (suc m) bs size at qs e =
    elim (cond_ways (ltb at (length bs)) _ _ _ e) [
      | inl w ↦ some (λ at1 more g. questions_inside m bs size at1 more g) w.1
      | inr w ↦ subst (AllInside size) (ok_same [] qs w.1) tt
    ]
  where
    some : ((at1 : ℕ) (more : List Question) → questions_at m bs size at1 ≡ Ok more → AllInside size more) → (onward (question_at bs size at) λ q. onward (questions_at m bs size q.1) λ more. Ok (q.0 ∷ more)) ≡ Ok qs → AllInside size qs
    some rest g =
        let a = onward_ok (question_at bs size at) _ qs g in
        let b = onward_ok (questions_at m bs size a.0.1) _ qs a.2 in
        subst (AllInside size) (ok_same _ qs b.2) (question_inside bs size at a.0.0 a.0.1 a.1, rest a.0.1 b.0 b.1)

-- What holds of every question inside holds of each of these.
pub each_inside : (size : ℕ) (P : Question → Type 0) → ((q : Question) → Inside size q → P q) → (qs : List Question) → AllInside size qs → Each P qs
unfolding Each
each_inside size P f [] h = tt
each_inside size P f (q ∷ more) h = (f q h.0, each_inside size P f more h.1)

module _ (s : State) (wf : WellFormed s) (q : Question) (h : Inside s.size q) where
  pub decided_so : DecidedSo s q
  decided_so = promise_kept s wf q.holder q.right q.target h.holder h.target

  pub shown : Shown s q
  shown =
      record {
        plan = exact_is_witness s wf q.holder q.right q.target;
        sheet = λ e. from_true _ (certificate_decides s wf q.holder q.right q.target h.holder h.target ∙ ap not e);
      }

pub all_decided : (s : State) → WellFormed s → (qs : List Question) → AllInside s.size qs → AllDecided s qs
unfolding Each AllDecided
all_decided s wf [] h = tt
all_decided s wf (q ∷ more) h = (decided_so s wf q h.0, all_decided s wf more h.1)
