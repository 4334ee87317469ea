-- The laws of sets that are written as bytes.
use Rattle.std.proofs.Common.{◌≡◌, ℕ, zero, suc, ◌+◌, ◌-◌, ◌*◌, ◌/◌, ◌%◌, ◌^◌, ◌<◌, Bool, true, false, cond, ◌&&◌, ◌||◌, eqb, ltb, List, ◌∷◌, length, get_or, drop, sym, refl, ap, ◌∙◌, ap₂, inl, inr, add-zero, add_comm, suc-add, pow-suc, zero-add, one-add, arith}
use lib.Bits.{bit_or, or_shifted}
use Rattle.std.proofs.lemmas.Nat.{mod-pow-add}
use Rattle.std.proofs.lemmas.List.{ext_get_or}
use Rattle.std.proofs.lemmas.Bool.{cases_eq, cases_lt, le-ltb, lt-ltb}
use Rattle.std.proofs.lemmas.Bool.Decides.{nat_tests}
use Rattle.model.specs.Bit.{bit}
use Rattle.bits.specs.Sets.{bits_value, byte_of, set_bytes, in_bytes}
use Rattle.bits.proofs.Bit.{bit_zero, bit_or-law, bit_pow}

pub bits_same : (n : ℕ) (f g : ℕ → Bool) → ((k : ℕ) → k < n → f k ≡ g k) → bits_value n f ≡ bits_value n g
unfolding bits_value
bits_same zero f g h = refl
bits_same (suc n) f g h =
    ap₂ (λ m b. m + cond b (2 ^ n) 0) (bits_same n f g (λ k l. h k (omega arith))) (h n (omega arith))

digit_lt : (n v : ℕ) (b : Bool) → v < 2 ^ n → v + cond b (2 ^ n) 0 < 2 ^ suc n
digit_lt n v true h = omega (arith, pow-suc 2 n)
digit_lt n v false h = omega (arith, pow-suc 2 n)

pub bits_lt : (n : ℕ) (f : ℕ → Bool) → bits_value n f < 2 ^ n
unfolding bits_value
bits_lt zero f = omega arith
bits_lt (suc n) f = digit_lt n (bits_value n f) (f n) (bits_lt n f)

digit : (d p : ℕ) → d < 2 → cond (eqb d 1) p 0 ≡ d * p
digit zero p h = omega arith
digit (suc zero) p h = omega arith
digit (suc (suc d)) p h = absurd (omega arith)

pub bits_of : (n w : ℕ) → bits_value n (bit w) ≡ w % 2 ^ n
unfolding bits_value bit
bits_of zero w = omega arith
bits_of (suc n) w =
    let high : cond (eqb (w / 2 ^ n % 2) 1) (2 ^ n) 0 ≡ w / 2 ^ n % 2 * 2 ^ n = digit (w / 2 ^ n % 2) (2 ^ n) (omega arith) in
    ap₂ (λ a b. a + b) (bits_of n w) high ∙ add_comm _ _ ∙ sym (mod-pow-add w 1 n) ∙ ap (λ m. w % 2 ^ m) (one-add n)

-- One more bit above the n bits of v.
bit_above : (n v i : ℕ) (b : Bool) → v < 2 ^ n → bit (v + cond b (2 ^ n) 0) i ≡ ((b && eqb i n) || bit v i)
bit_above n v i true h =
    let joined : v + 2 ^ n ≡ bit_or (1 * 2 ^ n) v = omega (arith, or_shifted 1 n v h) in
    ap (λ m. bit m i) joined ∙ bit_or-law (1 * 2 ^ n) v i
    ∙ ap (λ b. b || bit v i) (ap (λ m. bit m i) (omega arith) ∙ bit_pow n i)
bit_above n v i false h = ap (λ m. bit m i) (add-zero v)

pub bit_bits : (n : ℕ) (f : ℕ → Bool) (i : ℕ) → bit (bits_value n f) i ≡ (ltb i n && f i)
unfolding bits_value
bit_bits zero f i = bit_zero i ∙ ap (λ b. b && f i) (sym (le-ltb i 0 (omega arith)))
bit_bits (suc n) f i =
    let one = bit_above n (bits_value n f) i (f n) (bits_lt n f) in
    let rest = bit_bits n f i in
    elim (cases_eq i n) [
      | inl e ↦ let same : f i ≡ f n = ap f e in grind (arith, nat_tests)
      | inr d ↦ grind (arith, nat_tests)
    ]

pub bit_byte : (f : ℕ → Bool) (j i : ℕ) → bit (byte_of f j) i ≡ (ltb i 8 && f (8 * j + i))
unfolding byte_of
bit_byte f j i = bit_bits 8 (λ i. f (8 * j + i)) i

pub byte_same : (f g : ℕ → Bool) (j : ℕ) → ((i : ℕ) → i < 8 → f (8 * j + i) ≡ g (8 * j + i)) → byte_of f j ≡ byte_of g j
unfolding byte_of
byte_same f g j h = bits_same 8 (λ i. f (8 * j + i)) (λ i. g (8 * j + i)) h

pub length_set_bytes : (w : ℕ) (f : ℕ → Bool) → length (set_bytes w f) ≡ w
unfolding set_bytes
length_set_bytes zero f = refl
length_set_bytes (suc w) f = ap suc (length_set_bytes w f)

pub get_or-set-bytes : (w : ℕ) (f : ℕ → Bool) (p : ℕ) → p < w → get_or (set_bytes w f) p 0 ≡ byte_of f (w - 1 - p)
unfolding set_bytes
get_or-set-bytes zero f p h = absurd (omega arith)
get_or-set-bytes (suc w) f zero h = ap (byte_of f) (omega arith)
get_or-set-bytes (suc w) f (suc p) h = get_or-set-bytes w f p (omega arith) ∙ ap (byte_of f) (omega arith)

pub set_bytes_same : (w : ℕ) (f g : ℕ → Bool) → ((k : ℕ) → k < 8 * w → f k ≡ g k) → set_bytes w f ≡ set_bytes w g
unfolding set_bytes
set_bytes_same zero f g h = refl
set_bytes_same (suc w) f g h =
    ap₂ (λ b bs. b ∷ bs) (byte_same f g w (λ i l. h (8 * w + i) (omega arith))) (set_bytes_same w f g (λ k l. h k (omega arith)))

-- The lower bytes are those of the shorter form.
pub drop_set_bytes : (d w : ℕ) (f : ℕ → Bool) → drop d (set_bytes (d + w) f) ≡ set_bytes w f
unfolding set_bytes
drop_set_bytes zero w f = ap (λ n. set_bytes n f) (zero-add w)
drop_set_bytes (suc d) w f = ap (λ n. drop (suc d) (set_bytes n f)) (suc-add d w) ∙ drop_set_bytes d w f

pub lower_half : (f : ℕ → Bool) → drop 16 (set_bytes 32 f) ≡ set_bytes 16 f
lower_half f = drop_set_bytes 16 16 f

-- What bytes name is what they were written from.
pub in_set_bytes : (w : ℕ) (f : ℕ → Bool) (k : ℕ) → in_bytes (set_bytes w f) k ≡ (ltb k (8 * w) && f k)
unfolding in_bytes
in_set_bytes w f k =
    let n = length_set_bytes w f in
    elim (cases_lt (k / 8) w) [
      | inl h ↦
          let at : get_or (set_bytes w f) (length (set_bytes w f) - 1 - k / 8) 0 ≡ byte_of f (k / 8) =
          ap (λ m. get_or (set_bytes w f) (m - 1 - k / 8) 0) n ∙ get_or-set-bytes w f (w - 1 - k / 8) (omega arith)
          ∙ ap (byte_of f) (omega arith) in
          let named = ap (λ b. bit b (k % 8)) at ∙ bit_byte f (k / 8) (k % 8) in
          let same : f (8 * (k / 8) + k % 8) ≡ f k = ap f (omega arith) in
          grind (arith, nat_tests)
      | inr h ↦ grind (arith, nat_tests)
    ]

pub in_bytes_at : (bs : List ℕ) (p i : ℕ) → p < length bs → i < 8 → in_bytes bs (8 * (length bs - 1 - p) + i) ≡ bit (get_or bs p 0) i
unfolding in_bytes
in_bytes_at bs p i h l =
    let k : ℕ = 8 * (length bs - 1 - p) + i in
    let low : k % 8 ≡ i = omega arith in
    let place : length bs - 1 - k / 8 ≡ p = omega arith in
    ap (λ b. b && bit (get_or bs (length bs - 1 - k / 8) 0) (k % 8)) (lt-ltb (k / 8) (length bs) (omega arith))
    ∙ ap₂ (λ q j. bit (get_or bs q 0) j) place low

pub byte_in_bytes : (bs : List ℕ) (p : ℕ) → p < length bs → get_or bs p 0 < 256 → byte_of (in_bytes bs) (length bs - 1 - p) ≡ get_or bs p 0
unfolding byte_of
byte_in_bytes bs p h small =
    bits_same 8 (λ i. in_bytes bs (8 * (length bs - 1 - p) + i)) (bit (get_or bs p 0)) (λ i l. in_bytes_at bs p i h l)
    ∙ bits_of 8 (get_or bs p 0) ∙ omega arith

-- And writing what bytes name gives them back.
pub set_in_bytes : (w : ℕ) (bs : List ℕ) → length bs ≡ w → ((p : ℕ) → p < length bs → get_or bs p 0 < 256) → set_bytes w (in_bytes bs) ≡ bs
set_in_bytes w bs e small =
    ap (λ n. set_bytes n (in_bytes bs)) (sym e)
    ∙ ext_get_or 0 (set_bytes (length bs) (in_bytes bs)) bs (length_set_bytes (length bs) (in_bytes bs))
    (λ p h.
    let l : p < length bs = omega (arith, length_set_bytes (length bs) (in_bytes bs)) in
    get_or-set-bytes (length bs) (in_bytes bs) p l ∙ byte_in_bytes bs p l (small p l))
