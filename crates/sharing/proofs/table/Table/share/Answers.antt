use Rattle.std.proofs.Common.{ℕ, ◌+◌, ◌*◌, ◌<◌, T, subst, inl, inr, arith}
use Rattle.std.proofs.lemmas.Bool.{cases_lt}
use Rattle.bits.proofs.Bit.{bit_past}
use Rattle.model.specs.Bit.{bit}
use Rattle.model.proofs.Tests.{from_false}
use Rattle.sharing.specs.Filling.{about}
use Rattle.sharing.proofs.Filling.{same_size}
use Rattle.sharing.proofs.table.Table.share.Goals as goal

pub share_word-requires : goal.share_word-requires
share_word-requires g c =
    let t = c.args.self.now in
    let size = same_size g.row.W t c.loop-c.self c.loop-c.invariant.0 in
    let word : (j : ℕ) → T (bit c.word.result j) → 64 * c.loop-c.c + j < (about g.row.W c.loop-c.self).size =
    λ j h. elim (cases_lt j 64) [
      | inl l ↦ let k = c.requires.there (64 * c.loop-c.c + j) (subst T (c.word.ensures j l) h) in omega (arith, size)
      | inr l ↦ absurd (from_false _ (bit_past 64 c.word.result j (omega arith) l) h)
    ] in
    (omega arith, (omega (arith, t.narrow), ((omega (arith, t.narrow), c.requires.bound), word)))
