-- The laws of the first below a bound.
use Rattle.std.proofs.Common.{◌≡◌, ℕ, zero, suc, ◌<◌, Bool, true, false, T, Some, None, Option, MatchOption, sym, refl, ap, ◌∙◌, subst, inl, inr, arith}
use Rattle.std.proofs.lemmas.Bool.Decides.{nat_tests}
use Rattle.std.proofs.lemmas.Bool.{cases_eq}
use Rattle.std.specs.Option.{option_map, option_or}
use Rattle.std.specs.Bool.{then_some}
use Rattle.model.proofs.Tests.{from_true}
use Rattle.checker.specs.First.{first_below}

pub or_none : {A : Type 0} (a b : Option A) → option_or a b ≡ None → (a ≡ None) × (b ≡ None)
or_none None b e = (refl, e)
or_none (Some x) b e = cc

pub none_or : {A : Type 0} (a b : Option A) → a ≡ None → b ≡ None → option_or a b ≡ None
none_or a b e h = ap (λ x. option_or x b) e ∙ h

pub when_none : {A : Type 0} (t : Bool) (a : A) → then_some t a ≡ None → T t → ⊥
when_none t a e s = grind (arith, nat_tests)

pub none_when : {A : Type 0} (t : Bool) (a : A) → (T t → ⊥) → then_some t a ≡ None
none_when t a h = grind (arith, nat_tests)

pub none_first : {A : Type 0} (n : ℕ) (f : ℕ → Option A) → ((k : ℕ) → k < n → f k ≡ None) → first_below n f ≡ None
unfolding first_below
none_first zero f h = refl
none_first (suc n) f h = none_or (first_below n f) (f n) (none_first n f (λ k l. h k (omega arith))) (h n (omega arith))

pub first_none : {A : Type 0} (n : ℕ) (f : ℕ → Option A) → first_below n f ≡ None → (k : ℕ) → k < n → f k ≡ None
unfolding first_below
first_none zero f e k l = absurd (omega arith)
first_none (suc n) f e k l =
    let p = or_none (first_below n f) (f n) e in
    let later = first_none n f p.0 k in
    grind arith

pub first_at : {A : Type 0} (n : ℕ) (f : ℕ → Option A) (v : ℕ) (a : A) → v < n → ((k : ℕ) → k < v → f k ≡ None) → f v ≡ Some a → first_below n f ≡ Some a
unfolding first_below
first_at zero f v a l below here = absurd (omega arith)
first_at (suc n) f v a l below here =
    elim (cases_eq v n) [
      | inl q ↦
          ap (λ x. option_or x (f n)) (none_first n f (λ k m. below k (omega arith))) ∙ subst (λ m. f m ≡ Some a) q here
      | inr d ↦ ap (λ x. option_or x (f n)) (first_at n f v a (omega arith) below here)
    ]

-- The lowest of a set, if it has one, is the first of it.
pub first_lowest : {A : Type 0} (n : ℕ) (f g : ℕ → Bool) (a : ℕ → A) (low : Option ℕ) → ((k : ℕ) → f k ≡ g k) → ((k : ℕ) → T (f k) → k < n) → MatchOption low ((k : ℕ) → g k ≡ false) (λ v. (g v ≡ true) × ((k : ℕ) → k < v → g k ≡ false)) → option_map a low ≡ first_below n (λ k. then_some (f k) (a k))
first_lowest n f g a None same below none = sym (none_first n _ (λ k l. ap (λ b. then_some b (a k)) (same k ∙ none k)))
first_lowest n f g a (Some v) same below low =
    sym (first_at n _ v (a v) (below v (from_true (f v) (same v ∙ low.0)))
    (λ k l. ap (λ b. then_some b (a k)) (same k ∙ low.1 k l))
    (ap (λ b. then_some b (a v)) (same v ∙ low.0)))
