use Rattle.std.proofs.Common.{◌≡◌, ℕ, ◌+◌, ◌*◌, ◌/◌, ◌%◌, Bool, cond, ◌&&◌, ◌||◌, eqb, sym, ◌∙◌, ap₂, inl, inr, arith}
use Rattle.std.proofs.lemmas.Bool.{cases_eq}
use Rattle.std.proofs.lemmas.Bool.Decides.{nat_tests}
use Rattle.bits.specs.Rows.{cell}
use Rattle.bits.proofs.Bit.{bit_or-law}
use Rattle.model.specs.Bit.{bit}
use Rattle.sharing.proofs.table.turn.gain.Goals as goal

gained : (j i x g both word seen : ℕ) (old : ℕ → ℕ → Bool) → bit both (x % 64) ≡ (bit word (x % 64) || bit seen (x % 64)) → bit seen (x % 64) ≡ old i (64 * g + x % 64) → cond (eqb j i && eqb (x / 64) g) (bit both (x % 64)) (old j x) ≡ (old j x || ((eqb j i && eqb (x / 64) g) && bit word (x % 64)))
gained j i x g both word seen old p q =
    elim (cases_eq j i) [
      | inl d ↦
          elim (cases_eq (x / 64) g) [
            | inl e ↦ let same : old i (64 * g + x % 64) ≡ old j x = ap₂ old (sym d) (omega arith) in grind (arith, nat_tests)
            | inr e ↦ grind (arith, nat_tests)
          ]
      | inr d ↦ grind (arith, nat_tests)
    ]

pub returns : goal.returns
returns c = λ y k.
    c.row_put.ensures y k
    ∙ gained y c.args.x k c.args.i _ c.args.word c.row_word.result (cell c.args.rows.now c.args.w) (bit_or-law c.args.word c.row_word.result (k % 64)) (c.row_word.ensures (k % 64) (omega arith))
