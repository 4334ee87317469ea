-- Walking through a set: whoever is taken out makes it smaller.
use Rattle.std.proofs.Common.{◌≡◌, ℕ, zero, suc, ◌<◌, ◌≤◌, Bool, true, false, cond, not, ◌&&◌, T, eqb, sym, subst, inl, inr, arith, T_not}
use lib.Dec.{eqb_refl}
use Rattle.std.proofs.lemmas.Bool.{cases_eq}
use Rattle.model.specs.Bounded.{count_below}
use Rattle.model.proofs.Tests.{parts, from_true}

-- One number more: how the counts of two sets compare.
more : (a b : Bool) (m n : ℕ) → (T a → T b) → m ≤ n → cond a (suc m) m ≤ cond b (suc n) n
more true true m n h l = omega arith
more true false m n h l = absurd (h tt)
more false true m n h l = omega arith
more false false m n h l = l

more_still : (a b : Bool) (m n : ℕ) → (T a → T b) → m < n → cond a (suc m) m < cond b (suc n) n
more_still true true m n h l = omega arith
more_still true false m n h l = absurd (h tt)
more_still false true m n h l = omega arith
more_still false false m n h l = l

more_now : (a b : Bool) (m n : ℕ) → (T a → ⊥) → T b → m ≤ n → cond a (suc m) m < cond b (suc n) n
more_now true b m n h t l = absurd (h tt)
more_now false true m n h t l = omega arith
more_now false false m n h t l = absurd t

module _ (f g : ℕ → Bool) (part : (k : ℕ) → T (g k) → T (f k)) where
  no_more : (n : ℕ) → count_below n g ≤ count_below n f
  unfolding count_below
  no_more zero = omega arith
  no_more (suc n) = more (g n) (f n) _ _ (part n) (no_more n)

  -- A part of a set that lacks one of it counts less.
  pub less_part : (n v : ℕ) → v < n → T (f v) → (T (g v) → ⊥) → count_below n g < count_below n f
  unfolding count_below
  less_part zero v h t u = absurd (omega arith)
  less_part (suc n) v h t u =
      elim (cases_eq v n) [
        | inl e ↦ more_now (g n) (f n) _ _ (λ s. u (subst (λ k. T (g k)) (sym e) s)) (subst (λ k. T (f k)) e t) (no_more n)
        | inr d ↦ more_still (g n) (f n) _ _ (part n) (less_part n v (omega arith) t u)
      ]

-- The set g is f without v.
abbrev pub Without : ℕ → (ℕ → Bool) → (ℕ → Bool) → Type 0
Without v f g = (k : ℕ) → g k ≡ (not (eqb k v) && f k)

pub fewer : (f g : ℕ → Bool) (v : ℕ) → Without v f g → (n : ℕ) → v < n → f v ≡ true → count_below n g < count_below n f
fewer f g v e n h t =
    less_part f g (λ k u. (parts (not (eqb k v)) _ (subst T (e k) u)).1) n v h (from_true (f v) t)
    (λ u. T_not (eqb v v) (parts (not (eqb v v)) _ (subst T (e v) u)).0 (eqb_refl v))
