-- Tests as facts: what T of a test says, and how to show it.
use Rattle.std.proofs.Common.{◌≡◌, ℕ, zero, suc, ◌<◌, Bool, true, false, ◌&&◌, ◌||◌, T, eqb, ◌⊎◌, sym, refl, subst, inl, inr, arith}
use lib.Dec.{eqb_refl}
use Rattle.std.proofs.lemmas.Bool.{cases_eq}
use Rattle.model.specs.Bounded.{some_below, all_below, implies}

pub both : (a b : Bool) → T a → T b → T (a && b)
both true b s t = t
both false b s t = s

pub parts : (a b : Bool) → T (a && b) → T a × T b
parts true b t = (tt, t)
parts false b t = absurd t

pub cases : (a b : Bool) → T (a || b) → T a ⊎ T b
cases true b t = inl tt
cases false b t = inr t

pub left : (a b : Bool) → T a → T (a || b)
left true b t = tt
left false b t = absurd t

pub right : (a b : Bool) → T b → T (a || b)
right true b t = tt
right false b t = t

pub decide : (a : Bool) → T a ⊎ (T a → ⊥)
decide true = inl tt
decide false = inr (λ t. t)

pub same : (a b : Bool) → (T a → T b) → (T b → T a) → a ≡ b
same true true f g = refl
same true false f g = absurd (f tt)
same false true f g = absurd (g tt)
same false false f g = refl

pub is_true : (a : Bool) → T a → a ≡ true
is_true true t = refl
is_true false t = absurd t

pub is_false : (a : Bool) → (T a → ⊥) → a ≡ false
is_false true f = absurd (f tt)
is_false false f = refl

pub from_true : (a : Bool) → a ≡ true → T a
from_true a e = subst T (sym e) tt

pub from_false : (a : Bool) → a ≡ false → T a → ⊥
from_false a e t = subst T e t

pub eq_test : (m n : ℕ) → m ≡ n → T (eqb m n)
eq_test m n e = subst (λ k. T (eqb m k)) e (eqb_refl m)

pub implied : (a b : Bool) → T (implies a b) → T a → T b
implied true b f t = f
implied false b f t = absurd t

pub implying : (a b : Bool) → (T a → T b) → T (implies a b)
implying true b f = f tt
implying false b f = tt

-- Some number below n passes the test.
pub record Some (n : ℕ) (f : ℕ → Bool) : Type 0 where
  pub at : ℕ
  pub below : at < n
  pub passes : T (f at)

pub some_from : (n : ℕ) (f : ℕ → Bool) (k : ℕ) → k < n → T (f k) → T (some_below n f)
unfolding some_below
some_from zero f k h t = absurd (omega arith)
some_from (suc n) f k h t =
    elim (cases_eq k n) [
      | inl e ↦ left (f n) _ (subst (λ m. T (f m)) e t)
      | inr d ↦ right (f n) _ (some_from n f k (omega arith) t)
    ]

pub some_below-law : (n : ℕ) (f : ℕ → Bool) → T (some_below n f) → Some n f
unfolding some_below
some_below-law zero f t = absurd t
some_below-law (suc n) f t =
    elim (cases (f n) (some_below n f) t) [
      | inl s ↦ record { at = n; below = omega arith; passes = s }
      | inr s ↦ later (some_below-law n f s)
    ]
  where
    later : Some n f → Some (suc n) f
    later s = record { at = s.at; below = omega arith; passes = s.passes }

pub all_from : (n : ℕ) (f : ℕ → Bool) → ((k : ℕ) → k < n → T (f k)) → T (all_below n f)
unfolding all_below
all_from zero f h = tt
all_from (suc n) f h = both (f n) (all_below n f) (h n (omega arith)) (all_from n f (λ k l. h k (omega arith)))

pub all_at : (n : ℕ) (f : ℕ → Bool) → T (all_below n f) → (k : ℕ) → k < n → T (f k)
unfolding all_below
all_at zero f t k h = absurd (omega arith)
all_at (suc n) f t k h =
    elim (cases_eq k n) [
      | inl e ↦ subst (λ m. T (f m)) (sym e) (parts (f n) (all_below n f) t).0
      | inr d ↦ all_at n f (parts (f n) (all_below n f) t).1 k (omega arith)
    ]

-- Some number below n passes both tests.
pub record SomeBoth (n : ℕ) (f g : ℕ → Bool) : Type 0 where
  pub at : ℕ
  pub below : at < n
  pub one : T (f at)
  pub other : T (g at)

pub some_both : (n : ℕ) (f g : ℕ → Bool) → T (some_below n (λ k. f k && g k)) → SomeBoth n f g
some_both n f g t =
    let s = some_below-law n (λ k. f k && g k) t in
    let u = parts (f s.at) (g s.at) s.passes in
    record { at = s.at; below = s.below; one = u.0; other = u.1 }

pub both_from : (n : ℕ) (f g : ℕ → Bool) (k : ℕ) → k < n → T (f k) → T (g k) → T (some_below n (λ k. f k && g k))
both_from n f g k l s t = some_from n (λ k. f k && g k) k l (both (f k) (g k) s t)
