-- A walk along the first of the shortest rows, of which k steps are left.
use Rattle.std.proofs.Common.{◌≡◌, ℕ, zero, suc, ◌+◌, ◌<◌, Bool, true, false, ◌&&◌, eqb, List, [], ◌∷◌, ◌++◌, sym, refl, ap, ◌∙◌, append_assoc, add-one, arith}
use Rattle.std.proofs.lemmas.Bool.{cond-true}
use lib.Dec.{eqb_refl}
use Rattle.model.specs.Closure.{within}
use Rattle.model.specs.Exact.{lowest, lowest_from, first_row, shortest_row_of}
use Rattle.model.proofs.ExactChoices.{lowest_is, lowest_none}
use Rattle.model.proofs.Tests.{is_true, from_true, from_false}

module _ (n : ℕ) (e : ℕ → ℕ → Bool) (x y k : ℕ) where
  -- Fewer steps don't lead from x to y: so the row has k if these do, or if there is none.
  module _ (missed : (j : ℕ) → j < k → within j n e x y ≡ false) where
    pub arrived : k < n → within k n e x y ≡ true → shortest_row_of n e x y ≡ first_row k n e x y
    unfolding shortest_row_of
    arrived l h =
        ap (λ m. first_row m n e x y)
        (lowest_is n (λ m. within m n e x y) k l (from_true _ h) (λ j b. from_false _ (missed j b)))

    pub nowhere : k ≡ n → shortest_row_of n e x y ≡ first_row k n e x y
    unfolding shortest_row_of
    nowhere d = ap (λ m. first_row m n e x y) (lowest_none n (λ m. within m n e x y) (λ j b. from_false _ (missed j (omega arith))) ∙ sym d)

  pub walked_more :
      (row : List ℕ) (at v : ℕ) → v ≡ lowest n (λ z. e at z && within k n e z y) → row ++ first_row (k + 1) n e at y ≡ shortest_row_of n e x y →
      (row ++ v ∷ []) ++ first_row k n e v y ≡ shortest_row_of n e x y
  unfolding first_row
  walked_more row at v h walked =
      append_assoc row (v ∷ []) (first_row k n e v y)
      ∙ ap (λ t. row ++ t) (ap (λ w. w ∷ first_row k n e w y) h ∙ ap (λ m. first_row m n e at y) (sym (add-one k)))
      ∙ walked

-- No step leads from a vertex to itself.
pub stays_put : (n : ℕ) (e : ℕ → ℕ → Bool) (x : ℕ) → shortest_row_of n e x x ≡ []
unfolding shortest_row_of first_row lowest_from within
stays_put zero e x = refl
stays_put (suc n) e x = ap (λ k. first_row k (suc n) e x x) (cond-true (eqb x x) _ _ (is_true (eqb x x) (eqb_refl x)))
