-- How a block is turned round.
use Rattle.std.proofs.Common.{◌≡◌, ℕ, zero, suc, ◌+◌, ◌-◌, ◌*◌, ◌/◌, ◌%◌, ◌^◌, ◌<◌, ◌≤◌, Bool, true, false, cond, not, ◌&&◌, ◌||◌, eqb, ltb, leb, sym, refl, ap, ◌∙◌, subst, inl, inr, mul_assoc, mul_comm, mul-add, arith}
use native.Mathlib.Nat.{add-div_right, div-eq_of_lt}
use lib.Bits.{bit_and, bit_xor}
use Rattle.std.proofs.lemmas.Nat.{div-mul-add}
use Rattle.std.proofs.lemmas.Bool.{cases_eq, cases_lt, eq-eqb, lt-ltb, le-ltb}
use Rattle.std.proofs.lemmas.Bool.Decides.{nat_tests}
use Rattle.model.specs.Bit.{bit}
use Rattle.bits.specs.Blocks.{Mask, strip, exchanged, swapped}
use Rattle.bits.proofs.Bit.{bit_xor-law, bit_and-law, bit_shl, bit_shr, bit_mod}

-- A strip is odd if the one before it is even.
strip_before : (j k : ℕ) → 0 < j → j ≤ k → k / j ≡ (k - j) / j + 1
strip_before j k p h = ap (λ m. m / j) (omega arith) ∙ add-div_right (k - j) p

odd_below : (j k : ℕ) → 0 < j → k / j % 2 ≡ 1 → j ≤ k
odd_below j k p h =
    elim (cases_lt k j) [
      | inl l ↦ absurd (omega (arith, div-eq_of_lt l))
      | inr l ↦ l
    ]

-- What the two words are after they have exchanged.
differing : ℕ → ℕ → ℕ → ℕ → ℕ
differing j mask a b = bit_and (bit_xor (a / 2 ^ j) b) mask

module _ (j mask a b : ℕ) (m : Mask j mask) (h : a < 2 ^ 64) where
  differing_bit : (k : ℕ) → bit (bit_and (bit_xor (a / 2 ^ j) b) mask) k ≡ (cond (bit a (j + k)) (not (bit b k)) (bit b k) && bit mask k)
  differing_bit k = bit_and-law _ mask k ∙ ap (λ c. c && bit mask k) (bit_xor-law (a / 2 ^ j) b k ∙ ap (λ c. cond c (not (bit b k)) (bit b k)) (bit_shr a j k))

  pub high_bit : (k : ℕ) → k < 64 → bit (bit_xor b (bit_and (bit_xor (a / 2 ^ j) b) mask)) k ≡ cond (eqb (k / j % 2) 0) (bit a (k + j)) (bit b k)
  high_bit k l =
      bit_xor-law b _ k ∙ ap (λ c. cond (bit b k) (not c) c) (differing_bit k ∙ ap (λ c. cond (bit a (j + k)) (not (bit b k)) (bit b k) && c) (m.bits k l))
      ∙ law (bit a (j + k)) (bit b k) (eqb (k / j % 2) 0) ∙ ap (λ n. cond (eqb (k / j % 2) 0) (bit a n) (bit b k)) (omega arith)
    where
      law : (x y e : Bool) → cond y (not (cond x (not y) y && e)) (cond x (not y) y && e) ≡ cond e x y
      law true true true = refl
      law true true false = refl
      law true false true = refl
      law true false false = refl
      law false true true = refl
      law false true false = refl
      law false false true = refl
      law false false false = refl

  pub low_bit : (k : ℕ) → k < 64 → bit (bit_xor a (bit_and (bit_xor (a / 2 ^ j) b) mask * 2 ^ j % 2 ^ 64)) k ≡ cond (eqb (k / j % 2) 0) (bit a k) (bit b (k - j))
  low_bit k l =
      bit_xor-law a _ k ∙ ap (λ c. cond (bit a k) (not c) c) (bit_mod 64 _ k l ∙ bit_shl _ j k)
      ∙ elim (cases_eq (k / j % 2) 0) [
        | inl e ↦
            let even : eqb (k / j % 2) 0 ≡ true = eq-eqb (k / j % 2) 0 e in
            ap (λ c. cond (bit a k) (not c) c) (none e) ∙ same (bit a k) ∙ ap (λ c. cond c (bit a k) (bit b (k - j))) (sym even)
        | inr d ↦
            let odd : k / j % 2 ≡ 1 = omega arith in
            let no : eqb (k / j % 2) 0 ≡ false = grind (arith, nat_tests) in
            ap (λ c. cond (bit a k) (not c) c) (some odd) ∙ law (bit a k) (bit b (k - j)) ∙ ap (λ c. cond c (bit a k) (bit b (k - j))) (sym no)
      ]
    where
      same : (x : Bool) → cond x (not false) false ≡ x
      same true = refl
      same false = refl

      law : (x y : Bool) → cond x (not (cond x (not y) y)) (cond x (not y) y) ≡ y
      law true true = refl
      law true false = refl
      law false true = refl
      law false false = refl

      none : k / j % 2 ≡ 0 → (leb j k && bit (bit_and (bit_xor (a / 2 ^ j) b) mask) (k - j)) ≡ false
      none e =
          elim (cases_lt k j) [
            | inl s ↦ grind (arith, nat_tests)
            | inr s ↦
                let before = strip_before j k m.some s in
                let off : bit mask (k - j) ≡ false = m.bits (k - j) (omega arith) ∙ grind (arith, nat_tests) in
                let all = differing_bit (k - j) in
                gone (leb j k) (cond (bit a (j + (k - j))) (not (bit b (k - j))) (bit b (k - j))) _ _ all off
          ]
        where
          gone : (x y z e : Bool) → z ≡ (y && e) → e ≡ false → (x && z) ≡ false
          gone x y z e p q = grind (arith, nat_tests)

      some : k / j % 2 ≡ 1 → (leb j k && bit (bit_and (bit_xor (a / 2 ^ j) b) mask) (k - j)) ≡ cond (bit a k) (not (bit b (k - j))) (bit b (k - j))
      some odd =
          let s = odd_below j k m.some odd in
          let before = strip_before j k m.some s in
          let on : bit mask (k - j) ≡ true = m.bits (k - j) (omega arith) ∙ grind (arith, nat_tests) in
          let all = differing_bit (k - j) in
          let here : bit a (j + (k - j)) ≡ bit a k = ap (bit a) (omega arith) in
          let there : leb j k ≡ true = grind (arith, nat_tests) in
          kept (leb j k) (bit a (j + (k - j))) (bit a k) (bit b (k - j)) _ _ there here all on
        where
          kept : (x c d y z e : Bool) → x ≡ true → c ≡ d → z ≡ (cond c (not y) y && e) → e ≡ true → (x && z) ≡ cond d (not y) y
          kept x c d y z e p q r t = grind (arith, nat_tests)

-- Two rows, one word.
pub exchange_word : (j x i mask a b : ℕ) (e t u : ℕ → ℕ → Bool) → Mask j mask → a < 2 ^ 64 →
    ((c : ℕ) → c < 64 → bit a c ≡ e x (64 * i + c)) → ((c : ℕ) → c < 64 → bit b c ≡ e (x + j) (64 * i + c)) →
    ((r k : ℕ) → t r k ≡ cond (eqb r x && eqb (k / 64) i) (bit (bit_xor a (bit_and (bit_xor (a / 2 ^ j) b) mask * 2 ^ j % 2 ^ 64)) (k % 64)) (e r k)) →
    ((r k : ℕ) → u r k ≡ cond (eqb r (x + j) && eqb (k / 64) i) (bit (bit_xor b (bit_and (bit_xor (a / 2 ^ j) b) mask)) (k % 64)) (t r k)) →
    (r k : ℕ) → u r k ≡ cond (eqb (k / 64) i) (exchanged j x e r k) (e r k)
unfolding exchanged strip
exchange_word j x i mask a b e t u m h low high first second r k =
    let p = first r k in
    let q = second r k in
    let some = m.some in
    elim (cases_eq (k / 64) i) [
      | inr d ↦ grind (arith, nat_tests)
      | inl d ↦
          let lower = low_bit j mask a b m h (k % 64) (omega arith) in
          let upper = high_bit j mask a b m h (k % 64) (omega arith) in
          elim (cases_eq (k % 64 / j % 2) 0) [
            | inl even ↦
                let fits = m.whole (k % 64) (omega arith) even in
                let here : bit a (k % 64) ≡ e x k = low (k % 64) (omega arith) ∙ ap (e x) (omega arith) in
                let there : bit a (k % 64 + j) ≡ e x (k + j) = low (k % 64 + j) fits ∙ ap (e x) (omega arith) in
                grind (arith, nat_tests)
            | inr odd ↦
                let s = odd_below j (k % 64) some (omega arith) in
                let here : bit b (k % 64) ≡ e (x + j) k = high (k % 64) (omega arith) ∙ ap (e (x + j)) (omega arith) in
                let there : bit b (k % 64 - j) ≡ e (x + j) (k - j) = high (k % 64 - j) (omega arith) ∙ ap (e (x + j)) (omega arith) in
                grind (arith, nat_tests)
          ]
    ]

-- A row stays within its words.
exchanged_same : (j x mask : ℕ) (e f : ℕ → ℕ → Bool) (r k : ℕ) → Mask j mask → ((y n : ℕ) → n / 64 ≡ k / 64 → f y n ≡ e y n) → exchanged j x f r k ≡ exchanged j x e r k
unfolding exchanged strip
exchanged_same j x mask e f r k m same =
    let a = same x k refl in
    let b = same (x + j) k refl in
    let c = same r k refl in
    let some = m.some in
    elim (cases_eq (k % 64 / j % 2) 0) [
      | inl even ↦
          let fits = m.whole (k % 64) (omega arith) even in
          let d = same x (k + j) (omega arith) in
          grind (arith, nat_tests)
      | inr odd ↦
          let s = odd_below j (k % 64) some (omega arith) in
          let d = same (x + j) (k - j) (omega arith) in
          grind (arith, nat_tests)
    ]

abbrev pub Exchanging : ℕ → ℕ → (ℕ → ℕ → Bool) → (ℕ → ℕ → Bool) → ℕ → Type 0
Exchanging j x e f i = (r k : ℕ) → f r k ≡ cond (ltb (k / 64) i) (exchanged j x e r k) (e r k)

pub exchanging_none : (j x : ℕ) (e : ℕ → ℕ → Bool) → Exchanging j x e e 0
exchanging_none j x e r k = grind (arith, nat_tests)

pub exchanging_more : (j x mask : ℕ) (e f g : ℕ → ℕ → Bool) (i : ℕ) → Mask j mask →
    ((r k : ℕ) → g r k ≡ cond (eqb (k / 64) i) (exchanged j x f r k) (f r k)) → Exchanging j x e f i → Exchanging j x e g (i + 1)
exchanging_more j x mask e f g i m step inv r k =
    let now = step r k in
    let before = inv r k in
    elim (cases_eq (k / 64) i) [
      | inl d ↦
          let same = exchanged_same j x mask e f r k m (λ y n s. let b = inv y n in grind (arith, nat_tests)) in
          grind (arith, nat_tests)
      | inr d ↦ grind (arith, nat_tests)
    ]

pub exchanging_all : (j x w : ℕ) (e f : ℕ → ℕ → Bool) (i : ℕ) → i ≡ w → Exchanging j x e f i → (r k : ℕ) → k < 64 * w → f r k ≡ exchanged j x e r k
exchanging_all j x w e f i d inv r k h = let all = inv r k in grind (arith, nat_tests)

-- Where the strips of rows lie.
strip_row : (j b i : ℕ) → 0 < j → i < j → ((2 * j * b + i) / j ≡ 2 * b) × ((2 * j * b + i + j) / j ≡ 2 * b + 1)
strip_row j b i p h =
    let place : 2 * j * b ≡ 2 * b * j = mul_assoc 2 j b ∙ ap (λ n. 2 * n) (mul_comm j b) ∙ sym (mul_assoc 2 b j) in
    let low : (2 * j * b + i) / j ≡ 2 * b = ap (λ n. (n + i) / j) place ∙ div-mul-add (2 * b) j i h in
    (low, add-div_right (2 * j * b + i) p ∙ ap (λ n. n + 1) low)

abbrev pub done : ℕ → ℕ → ℕ → ℕ → Bool
done j from i r = (leb from r && ltb r (from + i)) || (leb (from + j) r && ltb r (from + j + i))

abbrev pub Swapping : ℕ → ℕ → ℕ → (ℕ → ℕ → Bool) → (ℕ → ℕ → Bool) → ℕ → Type 0
Swapping j from m e f i = (r k : ℕ) → k < m → f r k ≡ cond (done j from i r) (swapped j e r k) (e r k)

pub swapping_none : (j from m : ℕ) (e : ℕ → ℕ → Bool) → Swapping j from m e e 0
swapping_none j from m e r k h = grind (arith, nat_tests)

exchanged_low : (j x : ℕ) (f : ℕ → ℕ → Bool) (k : ℕ) → exchanged j x f x k ≡ cond (eqb (strip j k) 0) (f x k) (f (x + j) (k - j))
unfolding exchanged
exchanged_low j x f k = let e = eq-eqb x x refl in simp e

exchanged_high : (j x : ℕ) (f : ℕ → ℕ → Bool) (k : ℕ) → 0 < j → exchanged j x f (x + j) k ≡ cond (eqb (strip j k) 0) (f x (k + j)) (f (x + j) k)
unfolding exchanged
exchanged_high j x f k p =
    let e = eq-eqb (x + j) (x + j) refl in
    let d : eqb (x + j) x ≡ false = grind (arith, nat_tests) in
    simp (d, e)

exchanged_other : (j x : ℕ) (f : ℕ → ℕ → Bool) (r k : ℕ) → (r ≡ x → ⊥) → (r ≡ x + j → ⊥) → exchanged j x f r k ≡ f r k
unfolding exchanged
exchanged_other j x f r k a b =
    let c : eqb r x ≡ false = grind (arith, nat_tests) in
    let d : eqb r (x + j) ≡ false = grind (arith, nat_tests) in
    simp (c, d)

swapped_low : (j : ℕ) (e : ℕ → ℕ → Bool) (r k : ℕ) → r / j % 2 ≡ 0 → swapped j e r k ≡ cond (eqb (strip j k) 0) (e r k) (e (r + j) (k - j))
unfolding swapped strip
swapped_low j e r k h = simp h (law (k % 64 / j % 2) (omega arith))
  where
    law : (n : ℕ) → n < 2 → cond (eqb 0 n) (e r k) (e (r + j) (k - j)) ≡ cond (eqb n 0) (e r k) (e (r + j) (k - j))
    law zero l = refl
    law (suc zero) l = refl
    law (suc (suc n)) l = absurd (omega arith)

swapped_high : (j : ℕ) (e : ℕ → ℕ → Bool) (x k : ℕ) → (x + j) / j % 2 ≡ 1 → swapped j e (x + j) k ≡ cond (eqb (strip j k) 0) (e x (k + j)) (e (x + j) k)
unfolding swapped strip
swapped_high j e x k h = simp h (law (k % 64 / j % 2) (omega arith) ∙ ap (λ n. cond (eqb (k % 64 / j % 2) 0) (e n (k + j)) (e (x + j) k)) (omega arith))
  where
    law : (n : ℕ) → n < 2 → cond (eqb 1 n) (e (x + j) k) (e (x + j - j) (k + j)) ≡ cond (eqb n 0) (e (x + j - j) (k + j)) (e (x + j) k)
    law zero l = refl
    law (suc zero) l = refl
    law (suc (suc n)) l = absurd (omega arith)

-- A choice by the strip of a column, where only the choice that is made counts.
by_strip : (j mask k m : ℕ) (a b c d : Bool) → Mask j mask → (k % 64 + j < 64 → a ≡ c) → (j ≤ k % 64 → b ≡ d) → cond (eqb (strip j k) 0) a b ≡ cond (eqb (strip j k) 0) c d
unfolding strip
by_strip j mask k m a b c d w f g =
    elim (cases_eq (k % 64 / j % 2) 0) [
      | inl even ↦ let e = f (w.whole (k % 64) (omega arith) even) in grind (arith, nat_tests)
      | inr odd ↦ let e = g (odd_below j (k % 64) w.some (omega arith)) in grind (arith, nat_tests)
    ]

done_low : (j from i : ℕ) → i < j → (done j from i (from + i) ≡ false) × (done j from (i + 1) (from + i) ≡ true)
done_low j from i h = (grind (arith, nat_tests), grind (arith, nat_tests))

done_high : (j from i : ℕ) → i < j → (done j from i (from + i + j) ≡ false) × (done j from (i + 1) (from + i + j) ≡ true)
done_high j from i h = (grind (arith, nat_tests), grind (arith, nat_tests))

done_other : (j from i r : ℕ) → (r ≡ from + i → ⊥) → (r ≡ from + i + j → ⊥) → done j from (i + 1) r ≡ done j from i r
done_other j from i r a b = grind (arith, nat_tests)

chosen : (c a b : Bool) → c ≡ true → cond c a b ≡ a
chosen c a b e = ap (λ z. cond z a b) e

passed : (c a b : Bool) → c ≡ false → cond c a b ≡ b
passed c a b e = ap (λ z. cond z a b) e

module _ (j b w mask : ℕ) (e f g : ℕ → ℕ → Bool) (i : ℕ) (m : Mask j mask) (h : i < j)
    (step : (r k : ℕ) → k < 64 * w → g r k ≡ exchanged j (2 * j * b + i) f r k) (inv : Swapping j (2 * j * b) (64 * w) e f i) where
  low_row : (k : ℕ) → k < 64 * w → f (2 * j * b + i) k ≡ e (2 * j * b + i) k
  low_row k l = inv _ k l ∙ passed _ _ _ (done_low j (2 * j * b) i h).0

  high_row : (k : ℕ) → k < 64 * w → f (2 * j * b + i + j) k ≡ e (2 * j * b + i + j) k
  high_row k l = inv _ k l ∙ passed _ _ _ (done_high j (2 * j * b) i h).0

  at_low : (k : ℕ) → k < 64 * w → g (2 * j * b + i) k ≡ swapped j e (2 * j * b + i) k
  at_low k l =
      step _ k l ∙ exchanged_low j (2 * j * b + i) f k
      ∙ by_strip j mask k 0 _ _ _ _ m (λ _. low_row k l) (λ s. high_row (k - j) (omega arith))
      ∙ sym (swapped_low j e (2 * j * b + i) k (omega (arith, (strip_row j b i m.some h).0)))

  at_high : (k : ℕ) → k < 64 * w → g (2 * j * b + i + j) k ≡ swapped j e (2 * j * b + i + j) k
  at_high k l =
      step _ k l ∙ exchanged_high j (2 * j * b + i) f k m.some
      ∙ by_strip j mask k 0 _ _ _ _ m (λ s. low_row (k + j) (omega arith)) (λ _. high_row k l)
      ∙ sym (swapped_high j e (2 * j * b + i) k (omega (arith, (strip_row j b i m.some h).1)))

  pub swapping_more : Swapping j (2 * j * b) (64 * w) e g (i + 1)
  swapping_more r k l =
      elim (cases_eq r (2 * j * b + i)) [
        | inl s ↦ subst (λ z. g z k ≡ cond (done j (2 * j * b) (i + 1) z) (swapped j e z k) (e z k)) (sym s) (at_low k l ∙ sym (chosen _ _ _ (done_low j (2 * j * b) i h).1))
        | inr s ↦
            elim (cases_eq r (2 * j * b + i + j)) [
              | inl z ↦ subst (λ z. g z k ≡ cond (done j (2 * j * b) (i + 1) z) (swapped j e z k) (e z k)) (sym z) (at_high k l ∙ sym (chosen _ _ _ (done_high j (2 * j * b) i h).1))
              | inr z ↦
                  step r k l ∙ exchanged_other j (2 * j * b + i) f r k s z ∙ inv r k l
                  ∙ ap (λ c. cond c (swapped j e r k) (e r k)) (sym (done_other j (2 * j * b) i r s z))
            ]
      ]

pub swapping_all : (j from m : ℕ) (e f : ℕ → ℕ → Bool) (i : ℕ) → i ≡ j → Swapping j from m e f i → (r k : ℕ) → k < m → f r k ≡ cond (leb from r && ltb r (from + 2 * j)) (swapped j e r k) (e r k)
swapping_all j from m e f i d inv r k h = let all = inv r k h in grind (arith, nat_tests)

-- All strips of rows before the b-th pair have been swapped.
abbrev pub Swapped : ℕ → ℕ → (ℕ → ℕ → Bool) → (ℕ → ℕ → Bool) → ℕ → Type 0
Swapped j m e f b = (r k : ℕ) → k < m → f r k ≡ cond (ltb r (2 * j * b)) (swapped j e r k) (e r k)

pub swapped_none : (j m : ℕ) (e : ℕ → ℕ → Bool) → Swapped j m e e 0
swapped_none j m e r k h = grind (arith, nat_tests)

-- A row that is odd is at least one strip past an even one.
after_strip : (j b r : ℕ) → 0 < j → 2 * j * b ≤ r → r / j % 2 ≡ 1 → 2 * j * b + j ≤ r
after_strip j b r p h odd =
    elim (cases_lt r (2 * j * b + j)) [
      | inl l ↦
          let d : ℕ = r - 2 * j * b in
          let row : r / j ≡ 2 * b = ap (λ n. n / j) (omega arith) ∙ (strip_row j b (r - 2 * j * b) p (omega arith)).0 in
          absurd (omega arith)
      | inr l ↦ l
    ]

-- Rows from 2 j b on are exchanged among themselves.
swapped_same : (j b w mask : ℕ) (e f : ℕ → ℕ → Bool) (r k : ℕ) → Mask j mask → 2 * j * b ≤ r → k < 64 * w → ((y n : ℕ) → 2 * j * b ≤ y → n < 64 * w → f y n ≡ e y n) → swapped j f r k ≡ swapped j e r k
swapped_same j b w mask e f r k m h l same =
    elim (cases_eq (r / j % 2) 0) [
      | inl even ↦
          swapped_low j f r k even
          ∙ by_strip j mask k 0 _ _ _ _ m (λ _. same r k h l) (λ s. same (r + j) (k - j) (omega arith) (omega arith))
          ∙ sym (swapped_low j e r k even)
      | inr d ↦
          let past = after_strip j b r m.some h (omega arith) in
          let at : r ≡ r - j + j = omega arith in
          let odd : (r - j + j) / j % 2 ≡ 1 = ap (λ n. n / j % 2) (sym at) ∙ omega arith in
          ap (λ n. swapped j f n k) at ∙ swapped_high j f (r - j) k odd
          ∙ by_strip j mask k 0 _ _ _ _ m (λ s. same (r - j) (k + j) (omega arith) (omega arith)) (λ _. same (r - j + j) k (omega arith) l)
          ∙ sym (swapped_high j e (r - j) k odd) ∙ sym (ap (λ n. swapped j e n k) at)
    ]

within : (a d r : ℕ) → a ≤ r → r < d → (leb a r && ltb r d) ≡ true
within a d r h l = grind (arith, nat_tests)

before : (a d r : ℕ) → r < a → (leb a r && ltb r d) ≡ false
before a d r h = grind (arith, nat_tests)

after : (a d r : ℕ) → d ≤ r → (leb a r && ltb r d) ≡ false
after a d r h = grind (arith, nat_tests)

pub swapped_more : (j w mask : ℕ) (e f g : ℕ → ℕ → Bool) (b : ℕ) → Mask j mask →
    ((r k : ℕ) → k < 64 * w → g r k ≡ cond (leb (2 * j * b) r && ltb r (2 * j * b + 2 * j)) (swapped j f r k) (f r k)) →
    Swapped j (64 * w) e f b → Swapped j (64 * w) e g (b + 1)
swapped_more j w mask e f g b m step inv r k l =
    let more : 2 * j * (b + 1) ≡ 2 * j * b + 2 * j = mul-add (2 * j) b 1 ∙ omega arith in
    let now = step r k l in
    elim (cases_lt r (2 * j * b)) [
      | inl s ↦
          now ∙ passed _ _ _ (before (2 * j * b) (2 * j * b + 2 * j) r s) ∙ inv r k l ∙ chosen _ _ _ (lt-ltb r (2 * j * b) s)
          ∙ sym (chosen (ltb r (2 * j * (b + 1))) _ _ (lt-ltb r (2 * j * (b + 1)) (omega arith)))
      | inr s ↦
          let same : (y n : ℕ) → 2 * j * b ≤ y → n < 64 * w → f y n ≡ e y n = λ y n p q. inv y n q ∙ passed _ _ _ (le-ltb y (2 * j * b) p) in
          elim (cases_lt r (2 * j * b + 2 * j)) [
            | inl t ↦
                now ∙ chosen _ _ _ (within (2 * j * b) (2 * j * b + 2 * j) r s t) ∙ swapped_same j b w mask e f r k m s l same
                ∙ sym (chosen (ltb r (2 * j * (b + 1))) _ _ (lt-ltb r (2 * j * (b + 1)) (omega arith)))
            | inr t ↦
                now ∙ passed _ _ _ (after (2 * j * b) (2 * j * b + 2 * j) r t) ∙ same r k s l
                ∙ sym (passed (ltb r (2 * j * (b + 1))) _ _ (le-ltb r (2 * j * (b + 1)) (omega arith)))
          ]
    ]

pub swapped_all : (j m : ℕ) (e f : ℕ → ℕ → Bool) (b n : ℕ) → b ≡ n → 2 * j * n ≡ 64 → Swapped j m e f b → (r k : ℕ) → r < 64 → k < m → f r k ≡ swapped j e r k
swapped_all j m e f b n d whole inv r k h l =
    let all : 2 * j * b ≡ 64 = ap (λ c. 2 * j * c) d ∙ whole in
    inv r k l ∙ chosen _ _ _ (lt-ltb r (2 * j * b) (omega arith))
