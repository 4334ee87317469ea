use Rattle.std.proofs.Common.{◌≡◌, ℕ, ◌+◌, ◌-◌, ◌*◌, ◌/◌, ◌%◌, ◌^◌, ◌<◌, Bool, cond, not, ◌&&◌, eqb, sym, ◌∙◌, ap, ap₂, inl, inr, arith}
use lib.Bits.{bit_and}
use Rattle.std.proofs.lemmas.Bool.{cases_eq}
use Rattle.std.proofs.lemmas.Bool.Decides.{nat_tests}
use Rattle.std.proofs.lemmas.Nat.{one_shl, pow_below}
use Rattle.bits.specs.Rows.{cell}
use Rattle.bits.proofs.Bit.{bit_pow, bit_without}
use Rattle.model.specs.Bit.{bit}
use Rattle.graph.proofs.graph.rows.row_remove.Goals as goal

-- A word without bit i.
without : (word i j : ℕ) → i < 64 → j < 64 → bit (bit_and word (2 ^ 64 - 1 - 1 * 2 ^ i % 2 ^ 64)) j ≡ (bit word j && not (eqb j i))
without word i j h l =
    bit_without word (1 * 2 ^ i % 2 ^ 64) j (omega (arith, one_shl i 64 h, pow_below i 64 h)) l
    ∙ ap (λ b. bit word j && not b) (ap (λ m. bit m j) (one_shl i 64 h) ∙ bit_pow i j)

taken : (y x j k both seen : ℕ) (old : ℕ → ℕ → Bool) → bit both (j % 64) ≡ (bit seen (j % 64) && not (eqb (j % 64) (k % 64))) → bit seen (j % 64) ≡ old x (64 * (k / 64) + j % 64) → cond (eqb y x && eqb (j / 64) (k / 64)) (bit both (j % 64)) (old y j) ≡ (not (eqb y x && eqb j k) && old y j)
taken y x j k both seen old p q =
    elim (cases_eq y x) [
      | inl d ↦
          elim (cases_eq (j / 64) (k / 64)) [
            | inl e ↦
                let same : old x (64 * (k / 64) + j % 64) ≡ old y j = ap₂ old (sym d) (omega arith) in
                let number : eqb (j % 64) (k % 64) ≡ eqb j k = grind (arith, nat_tests) in
                grind (arith, nat_tests)
            | inr e ↦ grind (arith, nat_tests)
          ]
      | inr d ↦ grind (arith, nat_tests)
    ]

pub returns : goal.returns
returns c = λ y j.
    c.row_put.ensures y j
    ∙ taken y c.args.x j c.args.k _ c.row_word.result (cell c.args.rows.now c.args.w) (without c.row_word.result (c.args.k % 64) (j % 64) (omega arith) (omega arith)) (c.row_word.ensures (j % 64) (omega arith))
