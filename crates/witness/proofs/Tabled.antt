-- Tables of a row for each number of a vertex, made by `array::from_fn`.
use Rattle.std.proofs.Common.{◌≡◌, ℕ, zero, suc, ◌+◌, ◌<◌, ◌≤◌, Bool, false, T, List, slice_index_or, sym, ◌∙◌, ap, subst, inl, inr, refl, arith}
use Rattle.std.proofs.lemmas.Bool.{cases_eq, cases_lt}
use Rattle.std.specs.Array.{IsFromFnResult, IsFromFnResultFrom}
use denote.Param.Members.{Mut, Called}
use Rattle.bits.specs.Sets.{in_row, VertexSet}
use Rattle.model.proofs.Tests.{is_false, same}

-- Each element is what a call answers, if calls change nothing.
module _ {F B : Type 0} (g : Mut F (ℕ × Unit {0}) B) (P : ℕ → B → Type 0) (f : F) (one : (i : ℕ) (y : B) (f' : F) → Called g f (i, tt) y f' → P i y × (f' ≡ f)) where
  made_from : (n i : ℕ) (h : F) (ys : List B) (e : B) → h ≡ f → IsFromFnResultFrom g h ys i n → (k : ℕ) → i ≤ k → k < i + n → P k (slice_index_or ys k e)
  made_from zero i h ys e s t k a b = absurd (omega arith)
  made_from (suc n) i h ys e s t k a b =
      let c = one i t.1 t.0 (subst (λ z. Called g z (i, tt) t.1 t.0) s t.3) in
      elim (cases_eq k i) [
        | inl d ↦ subst (λ z. P k z) (sym (ap (λ j. slice_index_or ys j e) d ∙ t.2.1 e)) (subst (λ j. P j t.1) (sym d) c.0)
        | inr d ↦ made_from n (i + 1) t.0 ys e c.1 t.4 k (omega arith) (omega arith)
      ]

  pub made_each : (ys : List B) (e : B) (n : ℕ) → IsFromFnResult g f ys n → (k : ℕ) → k < n → P k (slice_index_or ys k e)
  made_each ys e n r k h = made_from n 0 f ys e refl r.each k (omega arith) (omega arith)

-- A table of 256 rows says what a relation says whose steps are from vertices.
pub tabled : (rows : List VertexSet) (e : ℕ → ℕ → Bool) → ((p q : ℕ) → T (e p q) → p < 256) → ((p q : ℕ) → 256 ≤ p → in_row rows p q ≡ false) →
    ((p : ℕ) → p < 256 → (q : ℕ) → in_row rows p q ≡ e p q) → (p q : ℕ) → in_row rows p q ≡ e p q
tabled rows e bound past says p q =
    elim (cases_lt p 256) [
      | inl h ↦ says p h q
      | inr h ↦ past p q h ∙ sym (is_false (e p q) (λ t. let b = bound p q t in omega arith))
    ]

-- Two sets of numbers below n are one if they agree on these.
pub agreed : (n : ℕ) (f g : ℕ → Bool) → ((k : ℕ) → T (f k) → k < n) → ((k : ℕ) → T (g k) → k < n) → ((k : ℕ) → k < n → f k ≡ g k) → (k : ℕ) → f k ≡ g k
agreed n f g a b e k =
    elim (cases_lt k n) [
      | inl h ↦ e k h
      | inr h ↦ same _ _ (λ t. let l = a k t in absurd (omega arith)) (λ t. let l = b k t in absurd (omega arith))
    ]
