-- What some of a set have, while the set is walked through.
use Rattle.std.proofs.Common.{◌≡◌, ℕ, ◌<◌, Bool, true, false, not, ◌&&◌, ◌||◌, T, eqb, subst, inl, inr, arith}
use Rattle.std.proofs.lemmas.Bool.{cases_eq}
use Rattle.std.proofs.lemmas.Bool.Decides.{nat_tests}
use Rattle.bits.proofs.Walk.{Without}
use Rattle.model.specs.Bounded.{some_below}
use Rattle.model.proofs.Tests.{parts, cases, left, right, same, from_true, is_true, is_false, SomeBoth, some_both, both_from}

-- One is taken out of those that are left.
pub some_without :
    (n v : ℕ) (f rest rest' : ℕ → Bool) → (T (f v) → v < n) → rest v ≡ true → Without v rest rest' →
    some_below n (λ u. rest u && f u) ≡ (f v || some_below n (λ u. rest' u && f u))
some_without n v f rest rest' l t w = same _ _ to from
  where
    to : T (some_below n (λ u. rest u && f u)) → T (f v || some_below n (λ u. rest' u && f u))
    to h =
        let k = some_both n rest f h in
        elim (cases_eq k.at v) [
          | inl e ↦ left (f v) _ (subst (λ z. T (f z)) e k.other)
          | inr d ↦ right (f v) _ (both_from n rest' f k.at k.below (from_true _ (let a = w k.at in let b = is_true _ k.one in grind (arith, nat_tests))) k.other)
        ]

    from : T (f v || some_below n (λ u. rest' u && f u)) → T (some_below n (λ u. rest u && f u))
    from h =
        elim (cases (f v) _ h) [
          | inl u ↦ both_from n rest f v (l u) (from_true _ t) u
          | inr u ↦ let k = some_both n rest' f u in both_from n rest f k.at k.below (parts (not (eqb k.at v)) _ (subst T (w k.at) k.one)).1 k.other
        ]

-- None are left.
pub some_nobody : (n : ℕ) (f rest : ℕ → Bool) → ((u : ℕ) → rest u ≡ false) → some_below n (λ u. rest u && f u) ≡ false
some_nobody n f rest none = is_false _ (λ t. there (some_both n rest f t))
  where
    there : SomeBoth n rest f → ⊥
    there k = subst T (none k.at) k.one
