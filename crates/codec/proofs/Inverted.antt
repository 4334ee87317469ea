-- What an answer that went well says of its steps, and steps that go well.
use Rattle.std.proofs.Common.{◌≡◌, ℕ, ◌+◌, ◌<◌, Bool, true, false, cond, ltb, ◌⊎◌, List, length, get_or, Ok, Err, Result, sym, refl, ap, ◌∙◌, subst, inl, inr, arith, eqb, ap₂, ne_eqb}
use Rattle.std.proofs.lemmas.Bool.{ltb-true, lt-ltb, cond-true, cond-false}
use Rattle.codec.specs.declared.fault.Fault.{Fault}
use Rattle.codec.specs.declared.fault.Fault.TheVariants.{Missing, OutOfRange, UnknownKind}
use Rattle.codec.specs.Reading.{Read, onward, ◌then◌, byte_at, below_at}
use Rattle.codec.specs.declared.kind.Kind.{Kind}
use Rattle.codec.specs.Kinds.{kind_number, IsNoKind, IsNoKindAt}

pub ok_same : {A : Type 0} (a b : A) → ◌≡◌ {A = Result A Fault} (Ok a) (Ok b) → a ≡ b
ok_same a b e = cc

pub never_ok : {A C : Type 0} (f : Fault) (a : A) → ◌≡◌ {A = Result A Fault} (Err f) (Ok a) → C
never_ok f a e = absurd (let z : ◌≡◌ {A = ℕ} 0 1 = cc in omega arith)

pub err_same : {A : Type 0} (f d : Fault) → ◌≡◌ {A = Result A Fault} (Err f) (Err d) → f ≡ d
err_same f d e = cc

pub never_err : {A C : Type 0} (a : A) (f : Fault) → ◌≡◌ {A = Result A Fault} (Ok a) (Err f) → C
never_err a f e = absurd (let z : ◌≡◌ {A = ℕ} 0 1 = cc in omega arith)

pub onward_ok : {A B : Type 0} (r : Result A Fault) (f : A → Result B Fault) (b : B) → onward r f ≡ Ok b → (a : A) × (r ≡ Ok a) × (f a ≡ Ok b)
onward_ok (Ok a) f b e = (a, refl, e)
onward_ok {A} {B} (Err d) f b e = never_ok d b e

-- And one that went wrong: where it did.
pub onward_err : {A B : Type 0} (r : Result A Fault) (f : A → Result B Fault) (d : Fault) → onward r f ≡ Err d → (r ≡ Err d) ⊎ ((a : A) × (r ≡ Ok a) × (f a ≡ Err d))
onward_err (Ok a) f d e = inr (a, refl, e)
onward_err {A} {B} (Err g) f d e = inl (ap (λ h. Err h) (err_same {A = B} g d e))

pub then_ok : {A B : Type 0} (r : Read A) (f : A → ℕ → Read B) (b : B × ℕ) → (r then f) ≡ Ok b → (a : A × ℕ) × (r ≡ Ok a) × (f a.0 a.1 ≡ Ok b)
then_ok (Ok a) f b e = (a, refl, e)
then_ok {A} {B} (Err d) f b e = never_ok d b e

pub cond_ok : {A : Type 0} (t : Bool) (a b : A) (d : Fault) → cond t (Ok a) (Err d) ≡ Ok b → (t ≡ true) × (a ≡ b)
cond_ok true a b d e = (refl, cc)
cond_ok false a b d e = never_ok d b e

-- A test that was passed, and one that would have refused.
pub passed : {A E : Type 0} (t : Bool) (r : Result A E) (d : E) (b : A) → cond t r (Err d) ≡ Ok b → (t ≡ true) × (r ≡ Ok b)
passed true r d b e = (refl, e)
passed {A} {E} false r d b e = cc

pub refused_not : {A E : Type 0} (t : Bool) (d : E) (r : Result A E) (b : A) → cond t (Err d) r ≡ Ok b → (t ≡ false) × (r ≡ Ok b)
refused_not {A} {E} true d r b e = cc
refused_not false d r b e = (refl, e)

-- A condition that led to an answer: by which way.
pub cond_ways : {A : Type 0} (t : Bool) (x y z : A) → cond t x y ≡ z → ((t ≡ true) × (x ≡ z)) ⊎ ((t ≡ false) × (y ≡ z))
cond_ways true x y z e = inl (refl, e)
cond_ways false x y z e = inr (refl, e)

-- Going on after a step that went well.
pub onward_on : {A B : Type 0} {r : Result A Fault} (a : A) (f : A → Result B Fault) {z : Result B Fault} → r ≡ Ok a → f a ≡ z → onward r f ≡ z
onward_on a f e g = ap (λ x. onward x f) e ∙ g

pub then_on : {A B : Type 0} {r : Read A} (a : A) (at : ℕ) (f : A → ℕ → Read B) {z : Read B} → r ≡ Ok (a, at) → f a at ≡ z → (r then f) ≡ z
then_on a at f e g = ap (λ x. x then f) e ∙ g

-- The input has this byte at this offset.
pub record Byte (bs : List ℕ) (at b : ℕ) : Type 0 where
  pub there : at < length bs
  pub is : get_or bs at 0 ≡ b

pub byte_read : (bs : List ℕ) (at b : ℕ) → Byte bs at b → byte_at bs at ≡ Ok (b, at + 1)
byte_read bs at b h = cond-true (ltb at (length bs)) _ _ (lt-ltb at (length bs) h.there) ∙ ap (λ x. Ok (x, at + 1)) h.is

pub below_read : (bs : List ℕ) (at b n : ℕ) → Byte bs at b → b < n → below_at bs at n ≡ Ok (b, at + 1)
below_read bs at b n h l =
    then_on b (at + 1) (λ x next. cond (ltb x n) (Ok (x, next)) (Err (OutOfRange at))) (byte_read bs at b h) (cond-true (ltb b n) _ _ (lt-ltb b n l))

-- What comes after a byte was read well.
pub byte_ok : {B : Type 0} (bs : List ℕ) (at : ℕ) (f : ℕ → ℕ → Read B) (r : B × ℕ) → (byte_at bs at then f) ≡ Ok r → (b : ℕ) × Byte bs at b × (f b (at + 1) ≡ Ok r)
byte_ok bs at f r e =
    let p = then_ok (byte_at bs at) f r e in
    let q = cond_ok (ltb at (length bs)) (get_or bs at 0, at + 1) p.0 (Missing (length bs)) p.1 in
    (get_or bs at 0, record { there = ltb-true _ _ q.0; is = refl }, subst (λ (a : ℕ × ℕ). f a.0 a.1 ≡ Ok r) (sym q.1) p.2)

pub below_ok : {B : Type 0} (bs : List ℕ) (at n : ℕ) (f : ℕ → ℕ → Read B) (r : B × ℕ) → (below_at bs at n then f) ≡ Ok r → (b : ℕ) × Byte bs at b × (b < n) × (f b (at + 1) ≡ Ok r)
below_ok bs at n f r e =
    let p = then_ok (below_at bs at n) f r e in
    let q = byte_ok bs at (λ b next. cond (ltb b n) (Ok (b, next)) (Err (OutOfRange at))) p.0 p.1 in
    let c = cond_ok (ltb q.0 n) (q.0, at + 1) p.0 (OutOfRange at) q.2 in
    (q.0, q.1, ltb-true _ _ c.0, subst (λ (a : ℕ × ℕ). f a.0 a.1 ≡ Ok r) (sym c.1) p.2)

-- The numbers of kinds: each is that of one kind, and a record that begins with none of them is refused, whatever may stand there.
-- Where no kind is, a test for one fails.
pub not_kind : {A : Type 0} (kind : Kind) (n : ℕ) (x y : A) → IsNoKind n → cond (eqb n (kind_number kind)) x y ≡ y
not_kind kind n x y none = cond-false (eqb n (kind_number kind)) x y (ne_eqb n (kind_number kind) (λ e. none kind (sym e)))

pub no_kind : {B : Type 0} (bs : List ℕ) (at : ℕ) (f : Fault) (g : ℕ → ℕ → Read B) → IsNoKindAt bs at f → ((n next : ℕ) → IsNoKind n → g n next ≡ Err (UnknownKind at)) → Err f ≡ (byte_at bs at then g)
no_kind bs at f g h unknown =
    elim h [
      | inl e ↦ ap (λ r. r then g) (sym e)
      | inr k ↦ ap (λ d. Err d) k.3 ∙ sym (then_on k.0.0 k.0.1 g k.1 (unknown k.0.0 k.0.1 k.2))
    ]

pub no_kind_in : {bs cs : List ℕ} {at start : ℕ} {f : Fault} → cs ≡ bs → start ≡ at → IsNoKindAt cs start f → IsNoKindAt bs at f
no_kind_in {f} e g h = subst (λ (x : List ℕ × ℕ). IsNoKindAt x.0 x.1 f) (ap₂ (λ x y. (x, y)) e g) h
