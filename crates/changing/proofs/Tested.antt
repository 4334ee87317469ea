-- Tests over sets of vertices: what belongs to one of a set, and those below a number that pass.
use Rattle.std.proofs.Common.{◌≡◌, ℕ, ◌<◌, Bool, false, ◌&&◌, T, ltb, sym, ap, ◌∙◌, inl, inr, arith, ◌≤◌}
use Rattle.std.proofs.lemmas.Bool.{cases_lt, lt-ltb, le-ltb}
use Rattle.bits.specs.Sets.{holds, VertexSet}
use Rattle.bits.proofs.Holds.{holds_past}
use Rattle.model.proofs.Tests.{is_false, from_false, SomeBoth, some_both, both_from}
use Rattle.changing.specs.Reached.{of_some}

pub holds_below : (s : VertexSet) (k : ℕ) → T (holds s k) → k < 256
holds_below s k t = elim (cases_lt k 256) [ inl l ↦ l | inr l ↦ absurd (from_false (holds s k) (holds_past s k l) t) ]

module _ (set : ℕ → Bool) (of : ℕ → ℕ → Bool) (y : ℕ) where
  pub some_to : T (of_some set of y) → SomeBoth 256 set (λ t. of t y)
  unfolding of_some
  some_to h = some_both 256 set (λ t. of t y) h

  pub some_from : (t : ℕ) → t < 256 → T (set t) → T (of t y) → T (of_some set of y)
  unfolding of_some
  some_from t l a b = both_from 256 set (λ k. of k y) t l a b

-- Those below n that pass a test.
module _ (test found : ℕ → Bool) (n : ℕ) (below : (v : ℕ) → T (found v) → v < n) (tested : (v : ℕ) → v < n → found v ≡ test v) where
  none_past : (v : ℕ) → n ≤ v → found v ≡ false
  none_past v l = is_false (found v) (λ t. let h = below v t in omega arith)

  pub listed : (v : ℕ) → found v ≡ (ltb v n && test v)
  listed v =
      elim (cases_lt v n) [
        | inl l ↦ tested v l ∙ sym (ap (λ b. b && test v) (lt-ltb v n l))
        | inr l ↦ none_past v l ∙ sym (ap (λ b. b && test v) (le-ltb v n l))
      ]

  pub listed_all : ((v : ℕ) → T (test v) → v < n) → (v : ℕ) → found v ≡ test v
  listed_all bound v =
      elim (cases_lt v n) [
        | inl l ↦ tested v l
        | inr l ↦ none_past v l ∙ sym (is_false (test v) (λ t. let h = bound v t in omega arith))
      ]
