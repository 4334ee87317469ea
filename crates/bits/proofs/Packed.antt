-- Eight bytes to a word: how the bytes of a set lie in its words.
use Rattle.std.proofs.Common.{◌≡◌, ℕ, ◌+◌, ◌-◌, ◌*◌, ◌/◌, ◌%◌, ◌^◌, ◌<◌, ◌≤◌, false, ◌&&◌, ◌||◌, eqb, leb, ltb, List, [], ◌∷◌, ◌++◌, length, take, get_or, set, replicate, sym, ap, ◌∙◌, ap₂, inl, inr, arith}
use lib.Bits.{bit_and, bit_or, and_mask}
use Rattle.std.proofs.lemmas.List.{length-take-le, length_push, take_all, same_from_push, take_more}
use Rattle.std.proofs.lemmas.Nat.{shl_whole}
use Rattle.std.proofs.lemmas.Bool.{cases_eq, cases_lt}
use Rattle.std.proofs.lemmas.Bool.Decides.{nat_tests}
use Rattle.model.specs.Bit.{bit}
use Rattle.bits.specs.Sets.{member, byte_of, in_bytes}
use Rattle.bits.proofs.Bit.{bit_or-law, bit_shl, bit_shr, bit_past}
use Rattle.bits.proofs.Member.{member_set, member_at, member_zeros}
use Rattle.bits.proofs.Bytes.{bits_of, bits_same}

pub byte_of_words : (ws : List ℕ) (j : ℕ) → bit_and (get_or ws (j / 8) 0 / 2 ^ (8 * (j % 8))) 255 ≡ byte_of (member ws) j
unfolding byte_of member
byte_of_words ws j =
    and_mask (w / 2 ^ s) 8 ∙ sym (bits_of 8 (w / 2 ^ s))
    ∙ bits_same 8 (bit (w / 2 ^ s)) (λ i. member ws (8 * j + i)) (λ i l. bit_shr w s i ∙ sym (at i l))
  where
    w : ℕ
    w = get_or ws (j / 8) 0

    s : ℕ
    s = 8 * (j % 8)

    at : (i : ℕ) → i < 8 → member ws (8 * j + i) ≡ bit (get_or ws (j / 8) 0) (8 * (j % 8) + i)
    at i l =
        let q : (8 * j + i) / 64 ≡ j / 8 = omega arith in
        let r : (8 * j + i) % 64 ≡ 8 * (j % 8) + i = omega arith in
        ap₂ (λ a b. bit (get_or ws a 0) b) q r

-- A byte b, moved to the place of byte j in its word.
pub bit_moved : (b j k : ℕ) → b < 256 → k / 64 ≡ j / 8 → bit (b * 2 ^ (8 * (j % 8)) % 2 ^ 64) (k % 64) ≡ (eqb (k / 8) j && bit b (k % 8))
bit_moved b j k h e =
    let s : ℕ = 8 * (j % 8) in
    let whole : b * 2 ^ s % 2 ^ 64 ≡ b * 2 ^ s = shl_whole b 8 s 64 h (omega arith) in
    let moved : bit (b * 2 ^ s % 2 ^ 64) (k % 64) ≡ (leb s (k % 64) && bit b (k % 64 - s)) = ap (λ m. bit m (k % 64)) whole ∙ bit_shl b s (k % 64) in
    elim (cases_eq (k / 8) j) [
      | inl f ↦ let same : bit b (k % 64 - s) ≡ bit b (k % 8) = ap (bit b) (omega arith) in grind (arith, nat_tests)
      | inr f ↦
          elim (cases_lt (k % 64) s) [
            | inl l ↦ grind (arith, nat_tests)
            | inr l ↦ let past : bit b (k % 64 - s) ≡ false = bit_past 8 b (k % 64 - s) h (omega arith) in grind (arith, nat_tests)
          ]
    ]

pub member_add_byte : (ws : List ℕ) (j b v k : ℕ) → v ≡ b → b < 256 → j < 8 * length ws → member (set ws (j / 8) (bit_or (get_or ws (j / 8) 0) (v * 2 ^ (8 * (j % 8)) % 2 ^ 64))) k ≡ ((eqb (k / 8) j && bit b (k % 8)) || member ws k)
member_add_byte ws j b v k e h l =
    let x : ℕ = v * 2 ^ (8 * (j % 8)) % 2 ^ 64 in
    let written = member_set ws (j / 8) (bit_or (get_or ws (j / 8) 0) x) k (omega arith) in
    let either = bit_or-law (get_or ws (j / 8) 0) x (k % 64) in
    elim (cases_eq (k / 64) (j / 8)) [
      | inl f ↦
          let was = member_at ws (j / 8) k f in
          let byte : bit x (k % 64) ≡ (eqb (k / 8) j && bit b (k % 8)) = ap (λ m. bit (m * 2 ^ (8 * (j % 8)) % 2 ^ 64) (k % 64)) e ∙ bit_moved b j k h f in
          grind (arith, nat_tests)
      | inr f ↦ grind (arith, nat_tests)
    ]

-- The words have what the last i bytes name, and the rest of the bytes are left.
abbrev pub Read : List ℕ → List ℕ → List ℕ → ℕ → Type 0
Read bs rest ws i = ((rest ≡ take (length bs - i) bs) × (i ≤ length bs)) × ((k : ℕ) → member ws k ≡ (ltb (k / 8) i && in_bytes bs k))

pub read_none : (bs rest : List ℕ) (n i : ℕ) → rest ≡ bs → i ≡ 0 → Read bs rest (replicate n 0) i
read_none bs rest n i all none = ((all ∙ sym (take_all (length bs - i) bs (omega arith)), omega arith), λ k. let empty = member_zeros n k in grind (arith, nat_tests))

-- The last of what is left, and what is left then.
last_of : (bs us : List ℕ) (n b : ℕ) → n ≤ length bs → take n bs ≡ us ++ b ∷ [] → (us ≡ take (n - 1) bs) × ((b ≡ get_or bs (n - 1) 0) × (0 < n))
last_of bs us n b h e =
    let long : n ≡ length us + 1 = sym (length-take-le n bs h) ∙ ap length e ∙ length_push us b in
    let more : take n bs ≡ take (n - 1) bs ++ get_or bs (n - 1) 0 ∷ [] = ap (λ m. take m bs) (omega arith) ∙ take_more bs (n - 1) 0 (omega arith) in
    let both = same_from_push us (take (n - 1) bs) b (get_or bs (n - 1) 0) (sym e ∙ more) in
    (both.0, (both.1, omega arith))

pub read_more : (bs rest us ws vs : List ℕ) (i j n b : ℕ) → Read bs rest ws i → rest ≡ us ++ b ∷ [] → j ≡ i → n ≡ i + 1 → ((k : ℕ) → member vs k ≡ ((eqb (k / 8) j && bit b (k % 8)) || member ws k)) → Read bs us vs n
unfolding in_bytes
read_more bs rest us ws vs i j n b inv e at next step =
    let last = last_of bs us (length bs - i) b (omega arith) (sym inv.0.0 ∙ e) in (
      (last.0 ∙ ap (λ m. take m bs) (omega arith), omega arith),
      λ k.
          let one = step k in
          let before = inv.1 k in
          elim (cases_eq (k / 8) i) [
            | inl f ↦ let same : get_or bs (length bs - 1 - k / 8) 0 ≡ b = ap (λ p. get_or bs p 0) (omega arith) ∙ sym last.1.0 in grind (arith, nat_tests)
            | inr d ↦ grind (arith, nat_tests)
          ],
    )

pub read_all : (bs rest ws : List ℕ) (i : ℕ) → length rest ≡ 0 → Read bs rest ws i → (k : ℕ) → member ws k ≡ in_bytes bs k
unfolding in_bytes
read_all bs rest ws i h inv k =
    let all = inv.1 k in
    let long : length bs - i ≡ 0 = sym (length-take-le (length bs - i) bs (omega arith)) ∙ ap length (sym inv.0.0) ∙ h in
    grind (arith, nat_tests)
