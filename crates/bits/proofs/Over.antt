-- A row whose words were written over at once.
use Rattle.std.proofs.Common.{◌≡◌, ℕ, ◌+◌, ◌*◌, ◌/◌, ◌%◌, ◌<◌, ◌≤◌, Bool, true, false, cond, not, ◌&&◌, ◌||◌, eqb, ltb, List, length, get_or, take, drop, replicate, sym, refl, ap, ◌∙◌, ap₂, inl, inr, arith}
use borrow.Rule.Slice.PartMut.{put_mid}
use Rattle.std.proofs.lemmas.List.{places, length-replicate}
use Rattle.std.proofs.lemmas.Bool.{cases_eq, cases_lt, le-ltb}
use Rattle.std.proofs.lemmas.Bool.Decides.{nat_tests}
use Rattle.model.specs.Bit.{bit}
use Rattle.bits.specs.Sets.{member}
use Rattle.bits.specs.Rows.{cell}
use Rattle.bits.proofs.Member.{member_past, member_at, member_zeros}
use Rattle.bits.proofs.Cell.{length_row, member_row, rows_order}

module _ (t ws : List ℕ) (a k : ℕ) (fits : a + k ≤ length t) (long : length ws ≡ k) where
  outside_at : (i : ℕ) → (a ≤ i → i < a + k → ⊥) → get_or (put_mid a k t ws) i 0 ≡ get_or t i 0
  outside_at i h =
      elim (cases_lt i a) [
        | inl l ↦ grind (arith, places)
        | inr l ↦ elim (cases_lt i (a + k)) [ inl m ↦ absurd (h l m) | inr m ↦ grind (arith, places) ]
      ]

  inside_at : (i : ℕ) → i < k → get_or (put_mid a k t ws) (a + i) 0 ≡ get_or ws i 0
  inside_at i h = grind (arith, places)

  outside : (p : ℕ) → (64 * a ≤ p → p < 64 * (a + k) → ⊥) → member (put_mid a k t ws) p ≡ member t p
  unfolding member
  outside p h = ap (λ v. bit v (p % 64)) (outside_at (p / 64) (λ l m. h (omega arith) (omega arith)))

  inside : (p : ℕ) → p < 64 * k → member (put_mid a k t ws) (64 * a + p) ≡ member ws p
  inside p h =
      member_at (put_mid a k t ws) (a + p / 64) (64 * a + p) (omega arith)
      ∙ ap (λ v. bit v ((64 * a + p) % 64)) (inside_at (p / 64) (omega arith))
      ∙ ap (bit (get_or ws (p / 64) 0)) (omega arith) ∙ sym (member_at ws (p / 64) p (omega arith))

-- Row x has what the words have, and the others are as they were.
pub cell_over : (t ws : List ℕ) (w x k : ℕ) → x * w + w ≤ length t → k ≡ w → length ws ≡ w → (y j : ℕ) → cell (put_mid (x * w) k t ws) w y j ≡ cond (eqb y x) (member ws j) (cell t w y j)
unfolding cell
cell_over t ws w x k fits e long y j =
    let was = outside t ws (x * w) k (omega arith) (omega arith) (64 * (y * w) + j) in
    elim (cases_lt j (64 * w)) [
      | inl h ↦
          elim (rows_order y x w) [
            | inl f ↦
                let same : y * w ≡ x * w = ap (λ z. z * w) f in
                let row : member (put_mid (x * w) k t ws) (64 * (y * w) + j) ≡ member ws j = ap (λ z. member (put_mid (x * w) k t ws) (64 * z + j)) same ∙ inside t ws (x * w) k (omega arith) (omega arith) j (omega arith) in
                grind (arith, nat_tests)
            | inr o ↦
                elim o [
                  | inl f ↦ let old = was (λ l m. omega arith) in grind (arith, nat_tests)
                  | inr f ↦ let old = was (λ l m. omega arith) in grind (arith, nat_tests)
                ]
          ]
      | inr h ↦
          let none = member_past ws j (omega arith) in
          let past = le-ltb j (64 * w) h in
          grind (arith, nat_tests)
    ]

pub cell_cleared : (t ws : List ℕ) (w x k : ℕ) → x * w + w ≤ length t → k ≡ w → ws ≡ replicate w 0 → (y j : ℕ) → cell (put_mid (x * w) k t ws) w y j ≡ (not (eqb y x) && cell t w y j)
cell_cleared t ws w x k fits e zeros y j =
    cell_over t ws w x k fits e (ap length zeros ∙ length-replicate w 0) y j
    ∙ ap (λ b. cond (eqb y x) b (cell t w y j)) (ap (λ vs. member vs j) zeros ∙ member_zeros w j) ∙ law (eqb y x) (cell t w y j)
  where
    law : (a b : Bool) → cond a false b ≡ (not a && b)
    law true b = refl
    law false b = refl

-- Row x has what the words have too.
pub cell_gained : (t us ws : List ℕ) (w x k : ℕ) → x * w + w ≤ length t → k ≡ w → length us ≡ length (take k (drop (x * w) t)) → ((p : ℕ) → member us p ≡ (member (take k (drop (x * w) t)) p || (ltb p (64 * length (take k (drop (x * w) t))) && member ws p))) → (y j : ℕ) → cell (put_mid (x * w) k t us) w y j ≡ (cell t w y j || (eqb y x && (ltb j (64 * w) && member ws j)))
cell_gained t us ws w x k fits e long step y j =
    let size : length (take k (drop (x * w) t)) ≡ w = ap (λ n. length (take n (drop (x * w) t))) e ∙ length_row t (x * w) w fits in
    let over = cell_over t us w x k fits e (long ∙ size) y j in
    let row : member (take k (drop (x * w) t)) j ≡ cell t w x j = ap (λ n. member (take n (drop (x * w) t)) j) e ∙ member_row t w x j fits in
    let new : member us j ≡ (cell t w x j || (ltb j (64 * w) && member ws j)) = step j ∙ ap₂ (λ a n. a || (ltb j (64 * n) && member ws j)) row size in
    elim (cases_eq y x) [
      | inl f ↦ let same : cell t w y j ≡ cell t w x j = ap (λ z. cell t w z j) f in grind (arith, nat_tests)
      | inr f ↦ grind (arith, nat_tests)
    ]
