-- The steps of a loop over the words of a set.
use Rattle.std.proofs.Common.{◌≡◌, ℕ, ◌+◌, ◌*◌, ◌%◌, ◌^◌, ◌<◌, ◌≤◌, true, false, List, length, get_or, ap, ◌∙◌, inl, inr, arith}
use lib.Count.{count_trailing_zeros}
use Rattle.std.proofs.lemmas.Bool.{cases_lt}
use Rattle.model.specs.Bit.{bit}
use Rattle.bits.specs.Sets.{member}
use Rattle.bits.proofs.Bit.{bit_zero, trailing_lowest}
use Rattle.bits.proofs.Member.{member_past, member_word, member_at}

-- The words below i are 0.
abbrev pub Clear : List ℕ → ℕ → Type 0
Clear ws i = (k : ℕ) → k < 64 * i → member ws k ≡ false

pub clear_word : (ws : List ℕ) (i : ℕ) → ((j : ℕ) → bit (get_or ws i 0) j ≡ false) → Clear ws i → Clear ws (i + 1)
clear_word ws i e c k h =
    elim (cases_lt k (64 * i)) [
      | inl l ↦ c k l
      | inr l ↦ member_at ws i k (omega arith) ∙ e (k % 64)
    ]

pub clear_more : (ws : List ℕ) (i : ℕ) → get_or ws i 0 ≡ 0 → Clear ws i → Clear ws (i + 1)
clear_more ws i e = clear_word ws i (λ j. ap (λ w. bit w j) e ∙ bit_zero j)

pub clear_all : (ws : List ℕ) (i : ℕ) → length ws ≤ i → Clear ws i → (k : ℕ) → member ws k ≡ false
clear_all ws i h c k =
    elim (cases_lt k (64 * i)) [
      | inl l ↦ c k l
      | inr l ↦ member_past ws k (omega arith)
    ]

-- The lowest number of a set whose first word that is not 0 is the one at i.
pub record First (ws : List ℕ) (i t : ℕ) : Type 0 where
  pub low : t < 64
  pub here : member ws (64 * i + t) ≡ true
  pub none : (k : ℕ) → k < 64 * i + t → member ws k ≡ false

pub first_at : (ws : List ℕ) (i : ℕ) → 0 < get_or ws i 0 → get_or ws i 0 < 2 ^ 64 → Clear ws i → First ws i (count_trailing_zeros 64 (get_or ws i 0))
first_at ws i p h c =
    let t : ℕ = count_trailing_zeros 64 (get_or ws i 0) in
    let r = trailing_lowest 64 (get_or ws i 0) p h in
    record { low = r.0; here = member_word ws i t r.0 ∙ r.1; none = below }
  where
    below : (k : ℕ) → k < 64 * i + count_trailing_zeros 64 (get_or ws i 0) → member ws k ≡ false
    below k l =
        elim (cases_lt k (64 * i)) [
          | inl s ↦ c k s
          | inr s ↦
              let r = trailing_lowest 64 (get_or ws i 0) p h in
              let low : count_trailing_zeros 64 (get_or ws i 0) < 64 = r.0 in
              member_at ws i k (omega arith) ∙ r.2 (k % 64) (omega arith)
        ]
