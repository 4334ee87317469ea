-- One turn of the loop that reads questions, and the whole input.
use Rattle.std.proofs.Common.{◌≡◌, ℕ, zero, suc, ◌+◌, ◌-◌, ◌<◌, ◌≤◌, cond, ltb, List, [], ◌∷◌, ◌++◌, length, Ok, Err, Result, sym, refl, ap, ◌∙◌, append_assoc, append-nil, arith}
use Rattle.std.proofs.lemmas.Bool.{lt-ltb, le-ltb, cond-false}
use Rattle.model.specs.State.{State}
use Rattle.codec.specs.declared.fault.Fault.{Fault}
use Rattle.codec.specs.declared.fault.Fault.TheVariants.{UnknownKind}
use Rattle.model.specs.declared.Question.{Question}
use Rattle.codec.specs.Reading.{Read, onward}
use Rattle.codec.specs.Questions.{question_at, narrow_book_at}
use Rattle.codec.specs.declared.error.InputError.{InputError}
use Rattle.codec.specs.declared.error.InputError.TheVariants.{Input, NoMemory}
use Rattle.answers.specs.AskErrors.{IsRefusedSo}
use Rattle.answers.specs.Asked.{asked, book_alone, questions_at}

-- What is left to read, behind what was read.
abbrev pub behind : List Question → Result (List Question) Fault → Result (List Question) Fault
behind qs r = onward r λ more. Ok (qs ++ more)

module _ (bs : List ℕ) (size at : ℕ) (qs : List Question) (i : ℕ) {R : Result (List Question) Fault} (inv : behind qs (questions_at (length bs - i) bs size at) ≡ R) where
  pub questions_done : length bs ≤ at → Ok qs ≡ R
  unfolding questions_at
  questions_done l = sym (ap (λ r. behind qs r) (none_left (length bs - i)) ∙ ap (λ t. Ok t) (append-nil qs)) ∙ inv
    where
      none_left : (m : ℕ) → questions_at m bs size at ≡ Ok []
      none_left zero = refl
      none_left (suc m) = cond-false (ltb at (length bs)) _ _ (le-ltb at (length bs) l)

  module _ (l : at < length bs) (h : i ≤ at) where
    step : behind qs (onward (question_at bs size at) λ q. onward (questions_at (length bs - (i + 1)) bs size q.1) λ more. Ok (q.0 ∷ more)) ≡ R
    unfolding questions_at
    step =
        ap (λ b. behind qs (cond b (onward (question_at bs size at) λ q. onward (questions_at (length bs - (i + 1)) bs size q.1) λ more. Ok (q.0 ∷ more)) (Ok []))) (sym (lt-ltb at (length bs) l)) ∙
        (let e : suc (length bs - (i + 1)) ≡ length bs - i = omega arith in ap (λ m. behind qs (questions_at m bs size at)) e ∙ inv)

    pub question_broken : (f : Fault) → ◌≡◌ {A = Read Question} (Err f) (question_at bs size at) → Err f ≡ R
    question_broken f e = ap (λ r. behind qs (onward r λ q. onward (questions_at (length bs - (i + 1)) bs size q.1) λ more. Ok (q.0 ∷ more))) e ∙ step

    pub question_on : (q : Question) (next : ℕ) → ◌≡◌ {A = Read Question} (Ok (q, next)) (question_at bs size at) → behind (qs ++ (q ∷ [])) (questions_at (length bs - (i + 1)) bs size next) ≡ R
    question_on q next e =
        moved (questions_at (length bs - (i + 1)) bs size next) ∙
        (ap (λ r. behind qs (onward r λ p. onward (questions_at (length bs - (i + 1)) bs size p.1) λ more. Ok (p.0 ∷ more))) e ∙ step)
      where
        moved : (r : Result (List Question) Fault) → behind (qs ++ (q ∷ [])) r ≡ behind qs (onward r λ more. Ok (q ∷ more))
        moved (Ok more) = ap (λ t. Ok t) (append_assoc qs (q ∷ []) more)
        moved (Err f) = refl

-- The whole input.
module _ (bs : List ℕ) where
  pub no_book : (f : Fault) → ◌≡◌ {A = Read State} (Err f) (narrow_book_at bs) → asked bs ≡ Err f
  unfolding asked
  no_book f e = ap (λ r. onward r λ b. onward (questions_at (length bs) bs b.0.size b.1) λ qs. Ok (record { about = b.0; questions = qs })) (sym e)

  pub book_asked : (s : State) (at : ℕ) → ◌≡◌ {A = Read State} (Ok (s, at)) (narrow_book_at bs) → (r : Result (List Question) Fault) → r ≡ questions_at (length bs) bs s.size at → asked bs ≡ onward r (λ qs. Ok (record { about = s; questions = qs }))
  unfolding asked
  book_asked s at e r g =
      ap (λ x. onward x λ b. onward (questions_at (length bs) bs b.0.size b.1) λ qs. Ok (record { about = b.0; questions = qs })) (sym e) ∙
      ap (λ x. onward x λ qs. Ok (record { about = s; questions = qs })) (sym g)

  pub no_book_alone : (f : Fault) → ◌≡◌ {A = Read State} (Err f) (narrow_book_at bs) → book_alone bs ≡ Err f
  unfolding book_alone
  no_book_alone f e = ap (λ r. onward r λ b. cond (ltb b.1 (length bs)) (Err (UnknownKind b.1)) (Ok b.0)) (sym e)

  pub book_alone-law : (s : State) (at : ℕ) → ◌≡◌ {A = Read State} (Ok (s, at)) (narrow_book_at bs) → book_alone bs ≡ cond (ltb at (length bs)) (Err (UnknownKind at)) (Ok s)
  unfolding book_alone
  book_alone-law s at e = ap (λ r. onward r λ b. cond (ltb b.1 (length bs)) (Err (UnknownKind b.1)) (Ok b.0)) (sym e)

-- A refusal of the questions is one of the input.
pub refused_asked : (bs : List ℕ) (s : State) (at : ℕ) → ◌≡◌ {A = Read State} (Ok (s, at)) (narrow_book_at bs) → (e : InputError) → IsRefusedSo e (questions_at (length bs) bs s.size at) → IsRefusedSo e (asked bs)
refused_asked bs s at g (Input f) h = book_asked bs s at g (Err f) (sym h)
refused_asked bs s at g NoMemory h = tt
