-- The laws of a number's bits.
use Rattle.std.proofs.Common.{◌≡◌, ℕ, zero, suc, ◌+◌, ◌-◌, ◌*◌, ◌/◌, ◌%◌, ◌^◌, ◌<◌, ◌≤◌, Bool, true, false, cond, not, ◌&&◌, ◌||◌, eqb, ltb, leb, sym, refl, ap, ◌∙◌, subst, ap₂, inl, inr, pow-suc, mul-one, div-one, one-add, arith}
use lib.Bits.{bit_and, bit_or, bit_xor, differ, or_shr, and_shr, xor_shr, or_step, and_step, xor_step, shifted_half, shifted_even}
use lib.Count.{count_trailing_zeros, under}
use Rattle.std.proofs.lemmas.Nat.{shr-shr, and_mask, pow_pos}
use Rattle.std.proofs.lemmas.Bool.{cases_eq, cases_lt, le-leb, lt-leb, lt-ltb, le-ltb}
use Rattle.std.proofs.lemmas.Bool.Decides.{nat_tests}
use Rattle.model.specs.Bit.{bit}

pub bit_low : (w : ℕ) → bit w 0 ≡ eqb (w % 2) 1
unfolding bit
bit_low w = ap (λ m. eqb (m % 2) 1) (div-one w)

pub bit_half : (w i : ℕ) → bit w (suc i) ≡ bit (w / 2) i
unfolding bit
bit_half w i = ap (λ m. eqb (m % 2) 1) (ap (λ j. w / 2 ^ j) (sym (one-add i)) ∙ sym (shr-shr w 1 i))

pub bit_or-law : (a b i : ℕ) → bit (bit_or a b) i ≡ (bit a i || bit b i)
unfolding bit
bit_or-law a b i =
    let e = or_shr a b i in
    let s = or_step (a / 2 ^ i) (b / 2 ^ i) in
    grind (arith, nat_tests)

pub bit_and-law : (a b i : ℕ) → bit (bit_and a b) i ≡ (bit a i && bit b i)
unfolding bit
bit_and-law a b i =
    let e = and_shr a b i in
    let s = and_step (a / 2 ^ i) (b / 2 ^ i) in
    grind (arith, nat_tests)

differ_law : (x y : ℕ) → x < 2 → y < 2 → (differ x y < 2) × (eqb (differ x y) 1 ≡ cond (eqb x 1) (not (eqb y 1)) (eqb y 1))
differ_law zero zero h l = (omega arith, refl)
differ_law zero (suc zero) h l = (omega arith, refl)
differ_law (suc zero) zero h l = (omega arith, refl)
differ_law (suc zero) (suc zero) h l = (omega arith, refl)
differ_law (suc (suc x)) y h l = absurd (omega arith)
differ_law zero (suc (suc y)) h l = absurd (omega arith)
differ_law (suc zero) (suc (suc y)) h l = absurd (omega arith)

pub bit_xor-law : (a b i : ℕ) → bit (bit_xor a b) i ≡ cond (bit a i) (not (bit b i)) (bit b i)
unfolding bit
bit_xor-law a b i =
    let e = xor_shr a b i in
    let s = xor_step (a / 2 ^ i) (b / 2 ^ i) in
    let d = differ_law (a / 2 ^ i % 2) (b / 2 ^ i % 2) (omega arith) (omega arith) in
    let low : bit_xor a b / 2 ^ i % 2 ≡ differ (a / 2 ^ i % 2) (b / 2 ^ i % 2) = omega arith in
    ap (λ m. eqb m 1) low ∙ d.1

pub bit_zero : (i : ℕ) → bit 0 i ≡ false
bit_zero zero = bit_low 0
bit_zero (suc i) = bit_half 0 i ∙ bit_zero i

pub bit_pow : (k i : ℕ) → bit (2 ^ k) i ≡ eqb i k
bit_pow zero zero = bit_low 1
bit_pow zero (suc i) = bit_half 1 i ∙ bit_zero i ∙ grind (arith, nat_tests)
bit_pow (suc k) zero = bit_low (2 ^ suc k) ∙ grind (arith, nat_tests, pow-suc 2 k)
bit_pow (suc k) (suc i) =
    bit_half (2 ^ suc k) i ∙ ap (λ m. bit m i) (omega (arith, pow-suc 2 k)) ∙ bit_pow k i ∙ grind (arith, nat_tests)

-- `!w` at n bits
pub bit_not : (n w i : ℕ) → w < 2 ^ n → i < n → bit (2 ^ n - 1 - w) i ≡ not (bit w i)
bit_not zero w i h l = absurd (omega arith)
bit_not (suc n) w zero h l =
    bit_low (2 ^ suc n - 1 - w) ∙ grind (arith, nat_tests, pow-suc 2 n) ∙ ap not (sym (bit_low w))
bit_not (suc n) w (suc i) h l =
    let p = pow-suc 2 n in
    let half : (2 ^ suc n - 1 - w) / 2 ≡ 2 ^ n - 1 - w / 2 = omega arith in
    bit_half (2 ^ suc n - 1 - w) i ∙ ap (λ m. bit m i) half ∙ bit_not n (w / 2) i (omega arith) (omega arith)
    ∙ ap not (sym (bit_half w i))

-- `a & !b`
pub bit_without : (a b i : ℕ) → b < 2 ^ 64 → i < 64 → bit (bit_and a (2 ^ 64 - 1 - b)) i ≡ (bit a i && not (bit b i))
bit_without a b i h l = bit_and-law a (2 ^ 64 - 1 - b) i ∙ ap (λ x. bit a i && x) (bit_not 64 b i h l)

-- `w >> i & 1 == 1`
pub bit_test : (w i : ℕ) → eqb (bit_and (w / 2 ^ i) 1) 1 ≡ bit w i
unfolding bit
bit_test w i = ap (λ m. eqb m 1) (and_mask (w / 2 ^ i) 1)

-- `w << s`, where no bit is lost
pub bit_shl : (w s i : ℕ) → bit (w * 2 ^ s) i ≡ (leb s i && bit w (i - s))
bit_shl w zero i = ap (λ m. bit m i) (mul-one w) ∙ ap₂ (λ b m. b && bit w m) (sym (le-leb 0 i (omega arith))) (omega arith)
bit_shl w (suc s) zero =
    bit_low (w * 2 ^ suc s) ∙ ap (λ m. eqb m 1) (shifted_even w s)
    ∙ ap (λ b. b && bit w (0 - suc s)) (sym (lt-leb (suc s) 0 (omega arith)))
bit_shl w (suc s) (suc i) =
    let same : leb s i ≡ leb (suc s) (suc i) = grind (arith, nat_tests) in
    bit_half (w * 2 ^ suc s) i ∙ ap (λ m. bit m i) (shifted_half w s) ∙ bit_shl w s i
    ∙ ap₂ (λ b m. b && bit w m) same (omega arith)

pub bit_shr : (w s i : ℕ) → bit (w / 2 ^ s) i ≡ bit w (s + i)
unfolding bit
bit_shr w s i = ap (λ m. eqb (m % 2) 1) (shr-shr w s i)

pub bit_past : (n w i : ℕ) → w < 2 ^ n → n ≤ i → bit w i ≡ false
bit_past zero w i h l = ap (λ m. bit m i) (omega arith) ∙ bit_zero i
bit_past (suc n) w zero h l = absurd (omega arith)
bit_past (suc n) w (suc i) h l =
    let p = pow-suc 2 n in bit_half w i ∙ bit_past n (w / 2) i (omega arith) (omega arith)

-- The number whose n lowest bits are set.
pub bit_ones : (n i : ℕ) → bit (2 ^ n - 1) i ≡ ltb i n
bit_ones n i =
    let p = pow_pos n in
    elim (cases_lt i n) [
      | inl l ↦ ap (λ m. bit m i) (omega arith) ∙ bit_not n 0 i (omega arith) l ∙ ap not (bit_zero i) ∙ sym (lt-ltb i n l)
      | inr l ↦ bit_past n (2 ^ n - 1) i (omega arith) l ∙ sym (le-ltb i n l)
    ]

pub bit_mod : (n w i : ℕ) → i < n → bit (w % 2 ^ n) i ≡ bit w i
bit_mod n w i h =
    ap (λ m. bit m i) (sym (and_mask w n)) ∙ bit_and-law w (2 ^ n - 1) i
    ∙ ap (λ b. bit w i && b) (bit_ones n i ∙ lt-ltb i n h) ∙ whole (bit w i)
  where
    whole : (b : Bool) → (b && true) ≡ b
    whole true = refl
    whole false = refl

-- A number without bits is 0.
pub zero_from_bits : (n w : ℕ) → w < 2 ^ n → ((i : ℕ) → i < n → bit w i ≡ false) → w ≡ 0
zero_from_bits zero w h f = omega arith
zero_from_bits (suc n) w h f =
    let p = pow-suc 2 n in
    let high : w / 2 ≡ 0 = zero_from_bits n (w / 2) (omega arith) (λ i l. sym (bit_half w i) ∙ f (suc i) (omega arith)) in
    let low : eqb (w % 2) 1 ≡ false = sym (bit_low w) ∙ f 0 (omega arith) in
    grind (arith, nat_tests)

trailing_even : (n w : ℕ) → w % 2 ≡ 0 → count_trailing_zeros (suc n) w ≡ suc (count_trailing_zeros n (w / 2))
unfolding count_trailing_zeros
trailing_even n w e = ap (λ d. under d (count_trailing_zeros n (w / 2))) e

trailing_odd : (n w : ℕ) → w % 2 ≡ 1 → count_trailing_zeros (suc n) w ≡ 0
unfolding count_trailing_zeros
trailing_odd n w e = ap (λ d. under d (count_trailing_zeros n (w / 2))) e

-- The lowest bit of w that is set, of n bits, is t.
abbrev pub Lowest : ℕ → ℕ → ℕ → Type 0
Lowest n w t = (t < n) × (bit w t ≡ true) × ((i : ℕ) → i < t → bit w i ≡ false)

under_even : (n w t : ℕ) → w % 2 ≡ 0 → Lowest n (w / 2) t → Lowest (suc n) w (suc t)
under_even n w t e r = (omega arith, bit_half w t ∙ r.1, lower)
  where
    lower : (i : ℕ) → i < suc t → bit w i ≡ false
    lower zero l = bit_low w ∙ ap (λ m. eqb m 1) e
    lower (suc i) l = bit_half w i ∙ r.2 i (omega arith)

under_odd : (n w : ℕ) → w % 2 ≡ 1 → Lowest (suc n) w 0
under_odd n w e = (omega arith, bit_low w ∙ ap (λ m. eqb m 1) e, λ i l. absurd (omega arith))

pub trailing_lowest : (n w : ℕ) → 0 < w → w < 2 ^ n → Lowest n w (count_trailing_zeros n w)
trailing_lowest zero w p h = absurd (omega arith)
trailing_lowest (suc n) w p h =
    elim (cases_eq (w % 2) 0) [
      | inl e ↦
          let half = trailing_lowest n (w / 2) (omega arith) (omega (arith, pow-suc 2 n)) in
          subst (Lowest (suc n) w) (sym (trailing_even n w e)) (under_even n w (count_trailing_zeros n (w / 2)) e half)
      | inr d ↦
          let odd : w % 2 ≡ 1 = omega arith in
          subst (Lowest (suc n) w) (sym (trailing_odd n w odd)) (under_odd n w odd)
    ]

-- `w & w - 1` has all bits of w but the lowest, t.
rest_law : (w t k : ℕ) → 0 < w → bit w t ≡ true → ((i : ℕ) → i < t → bit w i ≡ false) → (bit w k && bit (w - 1) k) ≡ (not (eqb k t) && bit w k)
rest_law w zero zero p h f =
    let low = bit_low w in
    let less = bit_low (w - 1) in
    grind (arith, nat_tests)
rest_law w zero (suc k) p h f =
    let low = bit_low w in
    let here = bit_half w k in
    let odd : w % 2 ≡ 1 = grind (arith, nat_tests) in
    let less : bit (w - 1) (suc k) ≡ bit (w / 2) k = bit_half (w - 1) k ∙ ap (λ m. bit m k) (omega arith) in
    grind (arith, nat_tests)
rest_law w (suc t) zero p h f = let none = f 0 (omega arith) in grind (arith, nat_tests)
rest_law w (suc t) (suc k) p h f =
    let low = bit_low w in
    let none = f 0 (omega arith) in
    let even : w % 2 ≡ 0 = grind (arith, nat_tests) in
    let here = bit_half w k in
    let less : bit (w - 1) (suc k) ≡ bit (w / 2 - 1) k = bit_half (w - 1) k ∙ ap (λ m. bit m k) (omega arith) in
    let under = rest_law (w / 2) t k (omega arith) (sym (bit_half w t) ∙ h) (λ i l. sym (bit_half w i) ∙ f (suc i) (omega arith)) in
    let same : eqb (suc k) (suc t) ≡ eqb k t = grind (arith, nat_tests) in
    grind (arith, nat_tests)

pub bit_rest : (n w t k : ℕ) → 0 < w → Lowest n w t → bit (bit_and w (w - 1)) k ≡ (not (eqb k t) && bit w k)
bit_rest n w t k p l = bit_and-law w (w - 1) k ∙ rest_law w t k p l.1 l.2
