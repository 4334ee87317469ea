-- Walking through a set: the rows of those that were taken out are new, all others are as they were.
use Rattle.std.proofs.Common.{◌≡◌, ℕ, Bool, true, false, cond, not, ◌&&◌, ◌||◌, eqb, ap, ◌∙◌, inl, inr, arith}
use Rattle.std.proofs.lemmas.Bool.{cases_eq, ne_eqb}
use Rattle.std.proofs.lemmas.Bool.Decides.{nat_tests}
use Rattle.bits.proofs.Walk.{Without}

-- Those of the set that are not in `rest` were walked through.
abbrev pub Walked : (ℕ → Bool) → (ℕ → ℕ → Bool) → (ℕ → ℕ → Bool) → (ℕ → ℕ → Bool) → (ℕ → Bool) → Type 0
Walked set new old rows rest =
    ((x : ℕ) → (rest x && set x) ≡ rest x) × ((x y : ℕ) → rows x y ≡ cond (set x && not (rest x)) (new x y) (old x y))

module _ (set : ℕ → Bool) (new old rows : ℕ → ℕ → Bool) (rest : ℕ → Bool) (inv : Walked set new old rows rest) where
  -- The row of one outside the set is as it was.
  pub walked_outside : (x y : ℕ) → set x ≡ false → rows x y ≡ old x y
  walked_outside x y h = inv.1 x y ∙ ap (λ a. cond (a && not (rest x)) (new x y) (old x y)) h

  pub walked_more :
      (next : ℕ → ℕ → Bool) (rest' : ℕ → Bool) (v : ℕ) → rest v ≡ true → Without v rest rest' →
      ((x y : ℕ) → next x y ≡ cond (eqb x v) (new x y) (rows x y)) → Walked set new old next rest'
  walked_more next rest' v t w step = (
    λ x. let a = w x in let b = inv.0 x in grind (arith, nat_tests),
    λ x y. let a = w x in let b = inv.0 x in let c = inv.1 x y in let d = step x y in elim (cases_eq x v) [ inl e ↦ let h : rest x ≡ true = ap rest e ∙ t in grind (arith, nat_tests) | inr n ↦ grind (arith, nat_tests) ],
  )

-- A row is put in place of another, and then it gets more.
pub begun_again :
    (was put next : ℕ → ℕ → Bool) (step more : ℕ → Bool) (v : ℕ) → ((x y : ℕ) → put x y ≡ cond (eqb x v) (step y) (was x y)) →
    ((x y : ℕ) → next x y ≡ (put x y || (eqb x v && more y))) → (x y : ℕ) → next x y ≡ cond (eqb x v) (step y || more y) (was x y)
begun_again was put next step more v a b x y = let p = a x y in let q = b x y in grind (arith, nat_tests)

-- All other rows are as they were.
pub others_stand : (was put : ℕ → ℕ → Bool) (step : ℕ → Bool) (v : ℕ) → ((x y : ℕ) → put x y ≡ cond (eqb x v) (step y) (was x y)) → (x y : ℕ) → (x ≡ v → ⊥) → put x y ≡ was x y
others_stand was put step v a x y d = a x y ∙ ap (λ b. cond b (step y) (was x y)) (ne_eqb x v d)
