-- The laws of a set that is written in words.
use Rattle.std.proofs.Common.{◌≡◌, ℕ, ◌+◌, ◌-◌, ◌*◌, ◌/◌, ◌%◌, ◌^◌, ◌<◌, ◌≤◌, Bool, false, cond, not, ◌&&◌, ◌||◌, eqb, ltb, List, length, get_or, set, replicate, sym, refl, ap, ◌∙◌, ap₂, inl, inr, arith}
use lib.Bits.{bit_and, bit_or}
use Rattle.std.proofs.lemmas.Nat.{one_shl, pow_below}
use Rattle.std.proofs.lemmas.List.{get_or-set_same, get_or-set_other, get_or_past, get_or-replicate, length-replicate}
use Rattle.std.proofs.lemmas.Bool.{cases_eq, cases_lt, cond-true, cond-false, eq-eqb, ne_eqb, lt-ltb, le-ltb}
use Rattle.std.proofs.lemmas.Bool.Decides.{nat_tests}
use Rattle.model.specs.Bit.{bit}
use Rattle.bits.specs.Sets.{member}
use Rattle.bits.proofs.Bit.{bit_zero, bit_or-law, bit_and-law, bit_pow, bit_not}

pub member_past : (ws : List ℕ) (k : ℕ) → 64 * length ws ≤ k → member ws k ≡ false
unfolding member
member_past ws k h = ap (λ w. bit w (k % 64)) (get_or_past ws (k / 64) 0 (omega arith)) ∙ bit_zero (k % 64)

pub member_zeros : (n k : ℕ) → member (replicate n 0) k ≡ false
unfolding member
member_zeros n k =
    elim (cases_lt (k / 64) n) [
      | inl h ↦ ap (λ w. bit w (k % 64)) (get_or-replicate n (k / 64) 0 0 h) ∙ bit_zero (k % 64)
      | inr h ↦ member_past (replicate n 0) k (omega (arith, length-replicate {A = ℕ} n 0))
    ]

pub member_word : (ws : List ℕ) (at i : ℕ) → i < 64 → member ws (64 * at + i) ≡ bit (get_or ws at 0) i
unfolding member
member_word ws at i h =
    let q : (64 * at + i) / 64 ≡ at = omega arith in
    let r : (64 * at + i) % 64 ≡ i = omega arith in
    ap₂ (λ w j. bit (get_or ws w 0) j) q r

pub member_at : (ws : List ℕ) (at k : ℕ) → k / 64 ≡ at → member ws k ≡ bit (get_or ws at 0) (k % 64)
unfolding member
member_at ws at k e = ap (λ w. bit (get_or ws w 0) (k % 64)) e

-- The set after the word at `at` was overwritten.
pub member_set : (ws : List ℕ) (at w k : ℕ) → at < length ws → member (set ws at w) k ≡ cond (eqb (k / 64) at) (bit w (k % 64)) (member ws k)
unfolding member
member_set ws at w k h =
    elim (cases_eq (k / 64) at) [
      | inl e ↦ ap (λ v. bit v (k % 64)) (ap (λ j. get_or (set ws at w) j 0) e ∙ get_or-set_same ws at w 0 h)
          ∙ sym (cond-true (eqb (k / 64) at) (bit w (k % 64)) (member ws k) (eq-eqb (k / 64) at e))
      | inr d ↦ ap (λ v. bit v (k % 64)) (get_or-set_other ws at (k / 64) w 0 d)
          ∙ sym (cond-false (eqb (k / 64) at) (bit w (k % 64)) (member ws k) (ne_eqb (k / 64) at d))
    ]

pub member_insert : (ws : List ℕ) (at i k : ℕ) → at < length ws → i < 64 → member (set ws at (bit_or (get_or ws at 0) (1 * 2 ^ i % 2 ^ 64))) k ≡ (eqb k (64 * at + i) || member ws k)
member_insert ws at i k h l =
    let w : ℕ = get_or ws at 0 in
    let written = member_set ws at (bit_or w (1 * 2 ^ i % 2 ^ 64)) k h in
    let either = bit_or-law w (1 * 2 ^ i % 2 ^ 64) (k % 64) in
    let one : bit (1 * 2 ^ i % 2 ^ 64) (k % 64) ≡ eqb (k % 64) i = ap (λ m. bit m (k % 64)) (one_shl i 64 l) ∙ bit_pow i (k % 64) in
    elim (cases_eq (k / 64) at) [
      | inl e ↦ let was = member_at ws at k e in grind (arith, nat_tests)
      | inr d ↦ grind (arith, nat_tests)
    ]

pub member_remove : (ws : List ℕ) (at i k : ℕ) → at < length ws → i < 64 → member (set ws at (bit_and (get_or ws at 0) (2 ^ 64 - 1 - 1 * 2 ^ i % 2 ^ 64))) k ≡ (not (eqb k (64 * at + i)) && member ws k)
member_remove ws at i k h l =
    let w : ℕ = get_or ws at 0 in
    let o : ℕ = 1 * 2 ^ i % 2 ^ 64 in
    let written = member_set ws at (bit_and w (2 ^ 64 - 1 - o)) k h in
    let both = bit_and-law w (2 ^ 64 - 1 - o) (k % 64) in
    let other : bit (2 ^ 64 - 1 - o) (k % 64) ≡ not (bit o (k % 64)) = bit_not 64 o (k % 64) (omega (arith, one_shl i 64 l, pow_below i 64 l)) (omega arith) in
    let one : bit o (k % 64) ≡ eqb (k % 64) i = ap (λ m. bit m (k % 64)) (one_shl i 64 l) ∙ bit_pow i (k % 64) in
    elim (cases_eq (k / 64) at) [
      | inl e ↦ let was = member_at ws at k e in grind (arith, nat_tests)
      | inr d ↦ grind (arith, nat_tests)
    ]

-- Words that have, bit by bit, what f says.
pub member_made : (f : ℕ → Bool) (ws : List ℕ) (w : ℕ) → length ws ≡ w → ((i : ℕ) → i < w → (j : ℕ) → j < 64 → bit (get_or ws i 0) j ≡ f (64 * i + j)) → (k : ℕ) → member ws k ≡ (ltb k (64 * w) && f k)
member_made f ws w n e k =
    elim (cases_lt k (64 * w)) [
      | inl h ↦
          member_at ws (k / 64) k refl ∙ e (k / 64) (omega arith) (k % 64) (omega arith) ∙ ap f (omega arith)
          ∙ sym (ap (λ b. b && f k) (lt-ltb k (64 * w) h))
      | inr h ↦ member_past ws k (omega arith) ∙ sym (ap (λ b. b && f k) (le-ltb k (64 * w) h))
    ]

-- Words that were joined bit by bit.
pub member_joined :
    (f : Bool → Bool → Bool) (us vs ws : List ℕ) (w : ℕ) → f false false ≡ false → length us ≡ w → length vs ≡ w → length ws ≡ w →
    ((i : ℕ) → i < w → (j : ℕ) → j < 64 → bit (get_or ws i 0) j ≡ f (bit (get_or us i 0) j) (bit (get_or vs i 0) j)) → (k : ℕ) → member ws k ≡ f (member us k) (member vs k)
member_joined f us vs ws w none a b c e k =
    elim (cases_lt k (64 * w)) [
      | inl h ↦
          member_at ws (k / 64) k refl ∙ e (k / 64) (omega arith) (k % 64) (omega arith)
          ∙ sym (ap₂ f (member_at us (k / 64) k refl) (member_at vs (k / 64) k refl))
      | inr h ↦
          member_past ws k (omega arith) ∙ sym none
          ∙ sym (ap₂ f (member_past us k (omega arith)) (member_past vs k (omega arith)))
    ]
