use Rattle.std.proofs.Common.{◌≡◌, ◌+◌, ◌*◌, ◌/◌, ◌%◌, ◌<◌, ◌≤◌, ◌&&◌, ◌||◌, eqb, length, sym, ap, ◌∙◌, subst, arith}
use Rattle.bits.specs.Sets.{among}
use Rattle.bits.specs.Rows.{cell}
use Rattle.model.specs.Bit.{bit}
use Rattle.model.proofs.Tests.{parts, from_true}
use Rattle.bits.proofs.Walk.{fewer}
use Rattle.sharing.specs.Filling.{about, cells, in_word}
use Rattle.sharing.proofs.Filling.{same_size}
use Rattle.sharing.proofs.Holding.{row_fits}
use Rattle.sharing.proofs.Gathered.{word_without, word_there, shared_more}
use Rattle.sharing.proofs.table.Table.share_word.Goals as goal

pub add-requires : goal.add-requires
add-requires g c =
    let t = c.args.self.now in
    let low = c.in-Some.ensures.lowest in
    let bound = c.in-Some.ensures.bound in
    let word = c.loop-b.invariant.1.0 (64 * c.args.c + c.in-Some.b) (from_true _ (word_there c.args.c c.loop-b.rest c.in-Some.b bound low.0)) in
    let at : (64 * c.args.c + c.in-Some.b) % 64 ≡ c.in-Some.b = omega (arith, bound) in
    let below : 64 * c.args.c + c.in-Some.b < (about g.row.W c.loop-b.self).size = omega (arith, c.requires.there ((64 * c.args.c + c.in-Some.b) % 64) (parts (eqb ((64 * c.args.c + c.in-Some.b) / 64) c.args.c) (bit c.args.word ((64 * c.args.c + c.in-Some.b) % 64)) word).1, at, same_size g.row.W t c.loop-b.self c.loop-b.invariant.0) in (
      omega (arith, t.narrow),
      subst (λ m. m * g.row.W + g.row.W ≤ length c.loop-b.self.rows.now) (sym c.row_at.ensures) (row_fits _ g.row.W _ (64 * c.args.c + c.in-Some.b) c.args.r c.loop-b.self.fits below c.requires.bound.1),
    )

pub loop-b-preserved : goal.loop-b-preserved
loop-b-preserved g c =
    let low = c.in-Some.ensures.lowest in
    let bound = c.in-Some.ensures.bound in (
      c.loop-b.invariant.0,
      shared_more c.args.r (in_word c.args.c c.args.word) (among g.row.W c.args.who.now) (cells g.row.W c.args.self.now) (cells g.row.W c.loop-b.self) (cell c.add.new.rows g.row.W)
          (in_word c.args.c c.loop-b.rest) (in_word c.args.c c.pop_bit.new.word) (64 * c.args.c + c.in-Some.b) c.requires.bound.1
          (word_there c.args.c c.loop-b.rest c.in-Some.b bound low.0) (word_without c.args.c c.loop-b.rest c.pop_bit.new.word c.in-Some.b bound low.2)
          (λ i x. c.add.ensures i x ∙ ap (λ m. cells g.row.W c.loop-b.self i x || (eqb i m && among g.row.W c.args.who.now x)) c.row_at.ensures) c.loop-b.invariant.1,
    )

pub loop-b-smaller : goal.loop-b-smaller
loop-b-smaller g c =
    let low = c.in-Some.ensures.lowest in
    fewer (bit c.loop-b.rest) (bit c.pop_bit.new.word) c.in-Some.b low.2 64 c.in-Some.ensures.bound low.0
