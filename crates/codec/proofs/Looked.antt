-- Reading looks at the bytes one after the other: what two inputs have alike is read alike, and a fault is told at a byte that was looked at.
use Rattle.std.proofs.Common.{◌≡◌, ℕ, ◌+◌, ◌<◌, ◌≤◌, Bool, true, false, cond, ltb, ◌⊎◌, List, length, get_or, take, drop, Ok, Err, Result, sym, refl, ap, ◌∙◌, subst, inl, inr, arith}
use Rattle.std.proofs.lemmas.Bool.Decides.{nat_tests}
use Rattle.std.proofs.lemmas.List.{get_or-take, take-take, drop-take}
use Rattle.std.proofs.lemmas.Bool.{ltb-true, cond_both, cases_lt}
use Rattle.codec.specs.declared.fault.Fault.{Fault}
use Rattle.codec.specs.declared.fault.Fault.TheVariants.{UnknownKind, BadFlag, Missing, OutOfRange, NotRising, NotApplicable, Full}
use Rattle.codec.specs.Reading.{Read, onward, ◌then◌, byte_at, below_at}
use Rattle.codec.proofs.Inverted.{cond_ok, byte_ok}

-- Two inputs of k bytes or more, of which the first k are alike.
pub record Same (k : ℕ) (bs cs : List ℕ) : Type 0 where
  pub left : k ≤ length bs
  pub right : k ≤ length cs
  pub alike : take k bs ≡ take k cs

pub byte_same : (k : ℕ) (bs cs : List ℕ) → Same k bs cs → (j : ℕ) → j < k → byte_at bs j ≡ byte_at cs j
byte_same k bs cs s j h =
    let a = get_or-take k bs j 0 h in
    let b = get_or-take k cs j 0 h in
    let e = ap (λ x. get_or x j 0) s.alike in
    let l = s.left in
    let r = s.right in
    grind (arith, nat_tests)

pub part_same : (k : ℕ) (bs cs : List ℕ) → Same k bs cs → (at w : ℕ) → at + w ≤ k → take w (drop at bs) ≡ take w (drop at cs)
part_same k bs cs s at w h =
    sym (drop-take at w bs) ∙ (ap (drop at) (sym (take-take (at + w) k bs h) ∙ (ap (take (at + w)) s.alike ∙ take-take (at + w) k cs h)) ∙ drop-take at w cs)

-- The place of a fault was looked at, and is the last of k bytes or comes after them; for missing bytes it is the input's length. A reader tells no other fault.
abbrev pub Later : List ℕ → ℕ → Fault → Type 0
Later bs k (UnknownKind at) = (k ≤ at + 1) × (at < length bs)
Later bs k (BadFlag at) = (k ≤ at + 1) × (at < length bs)
Later bs k (Missing l) = l ≡ length bs
Later bs k (OutOfRange at) = (k ≤ at + 1) × (at < length bs)
Later bs k (NotRising at) = (k ≤ at + 1) × (at < length bs)
Later bs k (NotApplicable act) = ⊥
Later bs k (Full act) = ⊥

-- At least k bytes were looked at.
abbrev pub Past : {A : Type 0} → (A → ℕ) → List ℕ → ℕ → Result A Fault → Type 0
Past off bs k (Ok a) = k ≤ off a
Past off bs k (Err f) = Later bs k f

later_less : (bs : List ℕ) (i j : ℕ) → i ≤ j → (f : Fault) → Later bs j f → Later bs i f
later_less bs i j l (UnknownKind at) h = (let a = h.0 in omega arith, h.1)
later_less bs i j l (BadFlag at) h = (let a = h.0 in omega arith, h.1)
later_less bs i j l (Missing n) h = h
later_less bs i j l (OutOfRange at) h = (let a = h.0 in omega arith, h.1)
later_less bs i j l (NotRising at) h = (let a = h.0 in omega arith, h.1)
later_less bs i j l (NotApplicable act) h = h
later_less bs i j l (Full act) h = h

pub past_less : {A : Type 0} (off : A → ℕ) (bs : List ℕ) (i j : ℕ) → i ≤ j → (r : Result A Fault) → Past off bs j r → Past off bs i r
past_less off bs i j l (Ok a) h = omega arith
past_less off bs i j l (Err f) h = later_less bs i j l f h

abbrev pub behind : {A : Type 0} → A × ℕ → ℕ
behind p = p.1

module _ (bs cs : List ℕ) (k : ℕ) where
  -- What two inputs answer, once so many bytes were looked at: the same, or more than k bytes were looked at.
  pub record Both {A : Type 0} (off : A → ℕ) (j : ℕ) (r r' : Result A Fault) : Type 0 where
    pub past : Past off bs j r
    pub alike : (r ≡ r') ⊎ Past off bs (k + 1) r

  pub done_both : {A : Type 0} (off : A → ℕ) (j : ℕ) (r : Result A Fault) → Past off bs j r → Both off j r r
  done_both off j r h = record { past = h; alike = inl refl }

  pub less_both : {A : Type 0} (off : A → ℕ) (i j : ℕ) (r r' : Result A Fault) → i ≤ j → Both off j r r' → Both off i r r'
  less_both off i j r r' l h = record { past = past_less off bs i j l r h.past; alike = h.alike }

  pub test_both : {A : Type 0} (off : A → ℕ) (j : ℕ) (t : Bool) (x x' y y' : Result A Fault) → Both off j x x' → Both off j y y' → Both off j (cond t x y) (cond t x' y')
  test_both off j true x x' y y' h g = h
  test_both off j false x x' y y' h g = g

  pub onward_both : {A B : Type 0} (off : A → ℕ) (to : B → ℕ) (j : ℕ) (r r' : Result A Fault) (g g' : A → Result B Fault) → Both off j r r' → ((a : A) → r ≡ Ok a → Both to (off a) (g a) (g' a)) → Both to j (onward r g) (onward r' g')
  onward_both off to j (Ok a) r' g g' h f =
      let n = f a refl in
      record {
        past = past_less to bs j (off a) h.past (g a) n.past;
        alike = elim h.alike [
          | inl e ↦ elim n.alike [ inl z ↦ inl (z ∙ ap (λ x. onward x g') e) | inr p ↦ inr p ]
          | inr l ↦ inr (past_less to bs (k + 1) (off a) l (g a) n.past)
        ];
      }
  onward_both off to j (Err d) r' g g' h f = record { past = h.past; alike = elim h.alike [ inl e ↦ inl (ap (λ x. onward x g') e) | inr l ↦ inr l ] }

  pub then_both : {A B : Type 0} (j : ℕ) (r r' : Read A) (g g' : A → ℕ → Read B) → Both behind j r r' → ((a : A) (next : ℕ) → r ≡ Ok (a, next) → Both behind next (g a next) (g' a next)) → Both behind j (r then g) (r' then g')
  then_both j (Ok p) r' g g' h f =
      let n = f p.0 p.1 refl in
      record {
        past = past_less behind bs j p.1 h.past (g p.0 p.1) n.past;
        alike = elim h.alike [
          | inl e ↦ elim n.alike [ inl z ↦ inl (z ∙ ap (λ x. x then g') e) | inr q ↦ inr q ]
          | inr l ↦ inr (past_less behind bs (k + 1) p.1 l (g p.0 p.1) n.past)
        ];
      }
  then_both j (Err d) r' g g' h f = record { past = h.past; alike = elim h.alike [ inl e ↦ inl (ap (λ x. x then g') e) | inr l ↦ inr l ] }

  module _ (same : Same k bs cs) where
    -- One byte, and what is judged of it.
    pub byte_both : (at : ℕ) → Both behind (at + 1) (byte_at bs at) (byte_at cs at)
    byte_both at =
        record {
          past = looked;
          alike = elim (cases_lt at k) [ inl l ↦ inl (byte_same k bs cs same at l) | inr l ↦ inr (past_less behind bs (k + 1) (at + 1) (omega arith) (byte_at bs at) looked) ];
        }
      where
        looked : Past behind bs (at + 1) (byte_at bs at)
        looked = cond_both (ltb at (length bs)) _ _ (Past behind bs (at + 1)) (λ _. omega arith) (λ _. refl)

    pub byte_then : {B : Type 0} (at : ℕ) (g g' : ℕ → ℕ → Read B) → ((b : ℕ) → at < length bs → Both behind (at + 1) (g b (at + 1)) (g' b (at + 1))) → Both behind (at + 1) (byte_at bs at then g) (byte_at cs at then g')
    byte_then at g g' f = then_both (at + 1) (byte_at bs at) (byte_at cs at) g g' (byte_both at) (λ b next e. read b next (cond_ok (ltb at (length bs)) (get_or bs at 0, at + 1) (b, next) (Missing (length bs)) e))
      where
        read : (b next : ℕ) → (ltb at (length bs) ≡ true) × (◌≡◌ {A = ℕ × ℕ} (get_or bs at 0, at + 1) (b, next)) → Both behind next (g b next) (g' b next)
        read b next h = subst (λ (m : ℕ). Both behind m (g b m) (g' b m)) (ap (λ (x : ℕ × ℕ). x.1) h.1) (f b (ltb-true at (length bs) h.0))

    pub below_both : (at n : ℕ) → Both behind (at + 1) (below_at bs at n) (below_at cs at n)
    below_both at n = byte_then at _ _ (λ b l. test_both behind (at + 1) (ltb b n) _ _ _ _ (done_both behind (at + 1) (Ok (b, at + 1)) (omega arith)) (done_both behind (at + 1) (Err (OutOfRange at)) (omega arith, l)))

    pub below_then : {B : Type 0} (at n : ℕ) (g g' : ℕ → ℕ → Read B) → ((b : ℕ) → at < length bs → Both behind (at + 1) (g b (at + 1)) (g' b (at + 1))) → Both behind (at + 1) (below_at bs at n then g) (below_at cs at n then g')
    below_then at n g g' f =
        then_both (at + 1) (below_at bs at n) (below_at cs at n) g g' (below_both at n) λ b next e.
        let q = byte_ok bs at (λ x m. cond (ltb x n) (Ok (x, m)) (Err (OutOfRange at))) (b, next) e in
        let c = cond_ok (ltb q.0 n) (q.0, at + 1) (b, next) (OutOfRange at) q.2 in
        subst (λ (m : ℕ). Both behind m (g b m) (g' b m)) (ap (λ (x : ℕ × ℕ). x.1) c.1) (f b q.1.there)
