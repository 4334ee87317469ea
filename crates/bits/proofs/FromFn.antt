-- An array of what a closure answers at each index.
use Rattle.std.proofs.Common.{◌≡◌, ℕ, zero, suc, ◌+◌, ◌<◌, ◌≤◌, List, slice_index_or, refl, subst, sym, arith, inl, inr}
use Rattle.std.specs.Array.{IsFromFnResult, IsFromFnResultFrom}
use Rattle.std.specs.Fn.{Called}
use Rattle.std.proofs.lemmas.Bool.{cases_eq}
use denote.Param.Members.{Mut}

-- Each element has P, where each call answers what has P and leaves the closure as it was.
module _ {F B : Type 0} (g : Mut F (ℕ × Unit {0}) B) (P : ℕ → B → Type 0) (f : F) (call : (i : ℕ) (y : B) (q : F) → Called g f (i, tt) y q → P i y × (q ≡ f)) where
  each_from : (ys : List B) (e : B) (i n : ℕ) (p : F) → p ≡ f → IsFromFnResultFrom g p ys i n → (k : ℕ) → i ≤ k → k < i + n → P k (slice_index_or ys k e)
  each_from ys e i zero p s h k l m = absurd (omega arith)
  each_from ys e i (suc n) p s h k l m =
      let here = call i h.1 h.0 (subst (λ z. Called g z (i, tt) h.1 h.0) s h.3) in
      elim (cases_eq k i) [
        | inl d ↦ subst (λ j. P j (slice_index_or ys j e)) (sym d) (subst (P i) (sym (h.2.1 e)) here.0)
        | inr d ↦ each_from ys e (i + 1) n h.0 here.1 h.4 k (omega arith) (omega arith)
      ]

  pub each_made : (ys : List B) (e : B) (n : ℕ) → IsFromFnResult g f ys n → (k : ℕ) → k < n → P k (slice_index_or ys k e)
  each_made ys e n h k l = each_from ys e 0 n f refl h.each k (omega arith) (omega arith)
