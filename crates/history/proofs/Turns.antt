-- What is left of the input to answer: before one act or question, and after it.
use Rattle.std.proofs.Common.{◌≡◌, ℕ, zero, suc, ◌+◌, ◌<◌, ◌≤◌, cond, eqb, ltb, List, [], length, get_or, Ok, Err, Result, sym, refl, ap, ◌∙◌, ap₂, arith}
use Rattle.std.proofs.lemmas.Bool.{lt-ltb, le-ltb, cond-true, cond-false, eq-eqb, ne_eqb}
use Rattle.model.specs.State.{State}
use Rattle.codec.specs.declared.fault.Fault.{Fault}
use Rattle.model.specs.declared.Question.{Question}
use Rattle.codec.specs.Reading.{Read, onward}
use Rattle.codec.specs.Questions.{narrow_book_at}
use Rattle.codec.specs.Replay.{performed_at}
use Rattle.codec.specs.RoundTrips.{AreBytes}
use Rattle.codec.proofs.RoundTrips.{some_bytes}
use Rattle.codec.proofs.Running.{done_act}
use Rattle.history.specs.Left.{first}
use Rattle.history.specs.Posed.{Posed, posed_question_at, posed_at, posed}
use Rattle.history.proofs.Told.{question_ok}

-- It is the same how one goes on, if it is the same from all that there may be.
onward_same : {A B : Type 0} (r : Result A Fault) (f g : A → Result B Fault) → ((a : A) → r ≡ Ok a → f a ≡ g a) → onward r f ≡ onward r g
onward_same (Ok a) f g h = h a refl
onward_same (Err d) f g h = refl

module _ (bs : List ℕ) (bytes : AreBytes bs) where
  -- What is asked or done there, with so many turns after it.
  asked : ℕ → ℕ → ℕ → State → Result (List Posed) Fault
  asked m at i s = onward (posed_question_at bs at s.size) λ q. first (record { about = s; question = q.0 }) (posed_at m bs q.1 i s)

  acted : ℕ → ℕ → ℕ → State → Result (List Posed) Fault
  acted m at i s = onward (performed_at bs at i s) λ t. posed_at m bs t.1 (i + 1) t.0

  -- Whatever the number of turns, if it is enough.
  same_turns : (m n at i : ℕ) (s : State) → length bs ≤ at + m → length bs ≤ at + n → posed_at m bs at i s ≡ posed_at n bs at i s
  unfolding posed_at
  same_turns zero zero at i s l k = refl
  same_turns zero (suc n) at i s l k = sym (cond-false (ltb at (length bs)) _ _ (le-ltb at (length bs) (omega arith)))
  same_turns (suc m) zero at i s l k = cond-false (ltb at (length bs)) _ _ (le-ltb at (length bs) (omega arith))
  same_turns (suc m) (suc n) at i s l k =
      ap₂ (λ a b. cond (ltb at (length bs)) (cond (eqb (get_or bs at 0) 6) a b) (Ok []))
      (onward_same (posed_question_at bs at s.size) _ _ (λ q e.
      let h = (question_ok bs s at q.0 q.1 e).ends in ap (first (record { about = s; question = q.0 })) (same_turns m n q.1 i s (omega arith) (omega arith))))
      (onward_same (performed_at bs at i s) _ _ (λ t e.
      let d = done_act bs bytes at i s t e in
      let h = d.2.ends in
      let b = some_bytes d.0 in same_turns m n t.1 (i + 1) t.0 (omega arith) (omega arith)))

  pub nothing_left : (at i : ℕ) (s : State) → length bs ≤ at → posed_at (length bs) bs at i s ≡ Ok []
  unfolding posed_at
  nothing_left at i s l = same_turns (length bs) zero at i s (omega arith) (omega arith)

  module _ (at i : ℕ) (s : State) (l : at < length bs) where
    one_turn : posed_at (length bs) bs at i s ≡ cond (eqb (get_or bs at 0) 6) (asked (length bs) at i s) (acted (length bs) at i s)
    unfolding posed_at asked acted
    one_turn = same_turns (length bs) (suc (length bs)) at i s (omega arith) (omega arith) ∙ cond-true (ltb at (length bs)) _ _ (lt-ltb at (length bs) l)

    -- A question.
    module _ (six : get_or bs at 0 ≡ 6) where
      ask_turn : posed_at (length bs) bs at i s ≡ asked (length bs) at i s
      ask_turn = one_turn ∙ cond-true (eqb (get_or bs at 0) 6) _ _ (eq-eqb (get_or bs at 0) 6 six)

      pub ask_broken : (f : Fault) → ◌≡◌ {A = Read Question} (Err f) (posed_question_at bs at s.size) → posed_at (length bs) bs at i s ≡ Err f
      unfolding asked
      ask_broken f e = ask_turn ∙ sym (ap (λ r. onward r λ q. first (record { about = s; question = q.0 }) (posed_at (length bs) bs q.1 i s)) e)

      pub ask_on :
          (q : Question) (next : ℕ) → ◌≡◌ {A = Read Question} (Ok (q, next)) (posed_question_at bs at s.size) →
          posed_at (length bs) bs at i s ≡ first (record { about = s; question = q }) (posed_at (length bs) bs next i s)
      unfolding asked
      ask_on q next e = ask_turn ∙ sym (ap (λ r. onward r λ p. first (record { about = s; question = p.0 }) (posed_at (length bs) bs p.1 i s)) e)

    -- An act.
    module _ (other : get_or bs at 0 ≡ 6 → ⊥) where
      act_turn : posed_at (length bs) bs at i s ≡ acted (length bs) at i s
      act_turn = one_turn ∙ cond-false (eqb (get_or bs at 0) 6) _ _ (ne_eqb (get_or bs at 0) 6 other)

      pub act_broken : (f : Fault) → ◌≡◌ {A = Read State} (Err f) (performed_at bs at i s) → posed_at (length bs) bs at i s ≡ Err f
      unfolding acted
      act_broken f e = act_turn ∙ sym (ap (λ r. onward r λ t. posed_at (length bs) bs t.1 (i + 1) t.0) e)

      pub act_on : (t : State) (next : ℕ) → ◌≡◌ {A = Read State} (Ok (t, next)) (performed_at bs at i s) → posed_at (length bs) bs at i s ≡ posed_at (length bs) bs next (i + 1) t
      unfolding acted
      act_on t next e = act_turn ∙ sym (ap (λ r. onward r λ u. posed_at (length bs) bs u.1 (i + 1) u.0) e)

-- The whole input.
module _ (bs : List ℕ) where
  pub no_book : (f : Fault) → ◌≡◌ {A = Read State} (Err f) (narrow_book_at bs) → posed bs ≡ Err f
  unfolding posed
  no_book f e = ap (λ r. onward r λ b. posed_at (length bs) bs b.1 0 b.0) (sym e)

  pub book_posed : (s : State) (at : ℕ) → ◌≡◌ {A = Read State} (Ok (s, at)) (narrow_book_at bs) → posed_at (length bs) bs at 0 s ≡ posed bs
  unfolding posed
  book_posed s at e = ap (λ r. onward r λ b. posed_at (length bs) bs b.1 0 b.0) e
