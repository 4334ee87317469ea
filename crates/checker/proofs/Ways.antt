-- What an answer that went well says of its steps, and steps that went well.
use Rattle.std.proofs.Common.{◌≡◌, ℕ, ◌+◌, ◌<◌, Bool, true, false, cond, eqb, ◌⊎◌, List, Ok, Err, Result, refl, ap, subst, inl, inr}
use Rattle.codec.specs.Questions.{question_at}
use Rattle.codec.specs.declared.fault.Fault.{Fault}
use Rattle.codec.proofs.Inverted.{passed, ok_same, byte_ok, below_ok}
use Rattle.model.specs.declared.Question.{Question}
use Rattle.checker.specs.Reading.{Checked, reading, checking}

pub reading_ok : {A B : Type 0} (r : Result A Fault) (f : A → Checked B) (b : B) → reading r f ≡ Ok b → (a : A) × (r ≡ Ok a) × (f a ≡ Ok b)
reading_ok (Ok a) f b e = (a, refl, e)
reading_ok {A} {B} (Err d) f b e = cc

pub checking_ok : {A B : Type 0} (r : Checked A) (f : A → Checked B) (b : B) → checking r f ≡ Ok b → (a : A) × (r ≡ Ok a) × (f a ≡ Ok b)
checking_ok (Ok a) f b e = (a, refl, e)
checking_ok {A} {B} (Err d) f b e = cc

-- One of two kinds, and else a fault.
pub one_of : {A E : Type 0} (t u : Bool) (r s : Result A E) (d : E) (b : A) → cond t r (cond u s (Err d)) ≡ Ok b → ((t ≡ true) × (r ≡ Ok b)) ⊎ ((u ≡ true) × (s ≡ Ok b))
one_of true u r s d b e = inl (refl, e)
one_of false u r s d b e = inr (passed u s d b e)

pub reading_on : {A B : Type 0} (r : Result A Fault) (f : A → Checked B) (a : A) → r ≡ Ok a → reading r f ≡ f a
reading_on r f a e = ap (λ x. reading x f) e

pub checking_on : {A B : Type 0} (r : Checked A) (f : A → Checked B) (a : A) → r ≡ Ok a → checking r f ≡ f a
checking_on r f a e = ap (λ x. checking x f) e

-- The holder and the target of a question are vertices.
pub question_there : (bs : List ℕ) (n at : ℕ) (q : Question) (next : ℕ) → question_at bs n at ≡ Ok (q, next) → (q.holder < n) × (q.target < n)
question_there bs n at q next e =
    let kind = byte_ok bs at _ (q, next) e in
    let asks = passed (eqb kind.0 6) _ _ (q, next) kind.2 in
    let x = below_ok bs (at + 1) n _ (q, next) asks.1 in
    let r = below_ok bs (at + 1 + 1) 8 _ (q, next) x.3 in
    let y = below_ok bs (at + 1 + 1 + 1) n _ (q, next) r.3 in
    subst (λ (v : Question × ℕ). (v.0.holder < n) × (v.0.target < n)) (ok_same _ (q, next) y.3) (x.2, y.2)
