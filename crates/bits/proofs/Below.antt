-- The laws of counts and tests over all numbers below a bound.
use Rattle.std.proofs.Common.{◌≡◌, ℕ, zero, suc, ◌+◌, ◌-◌, ◌/◌, ◌%◌, ◌^◌, ◌<◌, ◌≤◌, Bool, true, false, cond, ◌&&◌, eqb, sym, refl, ap, ◌∙◌, ap₂, add-zero, add-suc, pow-suc, one-add, arith}
use lib.Count.{ones, ones_step, ones-le}
use Rattle.std.proofs.lemmas.Bool.Decides.{nat_tests}
use Rattle.model.specs.Bit.{bit}
use Rattle.model.specs.Bounded.{all_below, count_below}
use Rattle.model.proofs.Tests.{is_false, from_false, all_at}
use Rattle.bits.proofs.Bit.{bit_low, bit_half}

pub count_same : (n : ℕ) (f g : ℕ → Bool) → ((k : ℕ) → k < n → f k ≡ g k) → count_below n f ≡ count_below n g
unfolding count_below
count_same zero f g h = refl
count_same (suc n) f g h =
    let here = h n (omega arith) in
    let below = count_same n f g (λ k l. h k (omega arith)) in
    ap₂ (λ b m. cond b (suc m) m) here below

cond_le : (b : Bool) (m n : ℕ) → m ≤ n → cond b (suc m) m ≤ suc n
cond_le true m n h = omega arith
cond_le false m n h = omega arith

pub count_le : (n : ℕ) (f : ℕ → Bool) → count_below n f ≤ n
unfolding count_below
count_le zero f = omega arith
count_le (suc n) f = cond_le (f n) (count_below n f) n (count_le n f)

cond_add : (b : Bool) (a m : ℕ) → cond b (suc (a + m)) (a + m) ≡ a + cond b (suc m) m
cond_add true a m = omega arith
cond_add false a m = refl

pub count_add : (m n : ℕ) (f : ℕ → Bool) → count_below (m + n) f ≡ count_below m f + count_below n (λ k. f (m + k))
unfolding count_below
count_add m zero f = ap (λ j. count_below j f) (add-zero m) ∙ sym (add-zero _)
count_add m (suc n) f =
    ap (λ j. count_below j f) (add-suc m n) ∙ ap (λ c. cond (f (m + n)) (suc c) c) (count_add m n f)
    ∙ cond_add (f (m + n)) (count_below m f) (count_below n (λ k. f (m + k)))

pub count_first : (n : ℕ) (f : ℕ → Bool) → count_below (suc n) f ≡ cond (f 0) 1 0 + count_below n (λ k. f (suc k))
unfolding count_below
count_first n f =
    ap (λ j. count_below j f) (sym (one-add n)) ∙ count_add 1 n f
    ∙ ap (λ c. cond (f 0) 1 0 + c) (count_same n (λ k. f (1 + k)) (λ k. f (suc k)) (λ k l. ap f (one-add k)))

parity : (m : ℕ) → m < 2 → m ≡ cond (eqb m 1) 1 0
parity m h = grind (arith, nat_tests)

-- `count_ones`, of a number of n bits
pub ones_count : (n w : ℕ) → w < 2 ^ n → ones w ≡ count_below n (bit w)
unfolding count_below
ones_count zero w h = omega (arith, ones-le 0 w h)
ones_count (suc n) w h =
    let p = pow-suc 2 n in
    ones_step w ∙ ap (λ a. a + ones (w / 2)) (parity (w % 2) (omega arith) ∙ ap (λ b. cond b 1 0) (sym (bit_low w)))
    ∙ ap (λ c. cond (bit w 0) 1 0 + c) (ones_count n (w / 2) (omega arith))
    ∙ ap (λ c. cond (bit w 0) 1 0 + c) (count_same n (bit (w / 2)) (λ k. bit w (suc k)) (λ k l. sym (bit_half w k)))
    ∙ sym (count_first n (bit w))

pub all_same : (n : ℕ) (f g : ℕ → Bool) → ((k : ℕ) → k < n → f k ≡ g k) → all_below n f ≡ all_below n g
unfolding all_below
all_same zero f g h = refl
all_same (suc n) f g h = ap₂ (λ a b. a && b) (h n (omega arith)) (all_same n f g (λ k l. h k (omega arith)))

and_swap : (a b c : Bool) → (a && (b && c)) ≡ (b && (a && c))
and_swap true b c = refl
and_swap false true c = refl
and_swap false false c = refl

pub all_add : (m n : ℕ) (f : ℕ → Bool) → all_below (m + n) f ≡ (all_below m f && all_below n (λ k. f (m + k)))
unfolding all_below
all_add m zero f = ap (λ j. all_below j f) (add-zero m) ∙ and_true (all_below m f)
  where
    and_true : (b : Bool) → b ≡ (b && true)
    and_true true = refl
    and_true false = refl
all_add m (suc n) f =
    ap (λ j. all_below j f) (add-suc m n) ∙ ap (λ c. f (m + n) && c) (all_add m n f)
    ∙ and_swap (f (m + n)) (all_below m f) (all_below n (λ k. f (m + k)))

pub all_true : (n : ℕ) (f : ℕ → Bool) → ((k : ℕ) → k < n → f k ≡ true) → all_below n f ≡ true
unfolding all_below
all_true zero f h = refl
all_true (suc n) f h = ap₂ (λ a b. a && b) (h n (omega arith)) (all_true n f (λ k l. h k (omega arith)))

pub all_false : (n : ℕ) (f : ℕ → Bool) (k : ℕ) → k < n → f k ≡ false → all_below n f ≡ false
all_false n f k h e = is_false (all_below n f) (λ t. from_false (f k) e (all_at n f t k h))

-- What fails below m fails below any n above it.
pub all_fails : (m n : ℕ) (f : ℕ → Bool) → m ≤ n → all_below m f ≡ false → all_below n f ≡ false
all_fails m n f h e =
    ap (λ j. all_below j f) (omega arith) ∙ all_add m (n - m) f ∙ ap (λ b. b && all_below (n - m) (λ k. f (m + k))) e
