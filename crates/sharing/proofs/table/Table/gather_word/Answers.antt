use Rattle.std.proofs.Common.{◌≡◌, ℕ, ◌+◌, ◌*◌, ◌%◌, false, ◌||◌, arith}
use Rattle.std.proofs.lemmas.Bool.Decides.{nat_tests}
use Rattle.graph.proofs.Sound.{well_formed-law}
use Rattle.bits.proofs.Walk.{fewer}
use Rattle.model.specs.Bit.{bit}
use Rattle.spans.specs.Sets.{in_sets}
use Rattle.sharing.specs.Filling.{about, in_word}
use Rattle.sharing.specs.Table.{held_by}
use Rattle.sharing.proofs.Gathered.{gathered_all, gathered_more, word_there, word_without}
use Rattle.sharing.proofs.table.Table.gather_word.Goals as goal

pub loop-b-preserved : goal.loop-b-preserved
loop-b-preserved g c =
    let t = c.args.self.now in
    let s = about g.row.W t in
    let low = c.in-Some.ensures.lowest in
    let bound = c.in-Some.ensures.bound in
    λ r.
    gathered_more s (well_formed-law t.graph.now) r (λ y. in_sets c.args.held.now r y || held_by s (in_word c.args.c c.args.word) r y) (in_sets c.loop-b.held r)
    (in_word c.args.c c.loop-b.rest) (in_sets c.gather_one.new.held r) (in_word c.args.c c.pop_bit.new.word) (64 * c.args.c + c.in-Some.b)
    (word_there c.args.c c.loop-b.rest c.in-Some.b bound low.0) (word_without c.args.c c.loop-b.rest c.pop_bit.new.word c.in-Some.b bound low.2)
    (c.gather_one.ensures r) (c.loop-b.invariant r)

pub loop-b-smaller : goal.loop-b-smaller
loop-b-smaller g c =
    let low = c.in-Some.ensures.lowest in
    fewer (bit c.loop-b.rest) (bit c.pop_bit.new.word) c.in-Some.b low.2 64 c.in-Some.ensures.bound low.0

none_left : (c w t : ℕ) → ((j : ℕ) → bit w j ≡ false) → in_word c w t ≡ false
none_left c w t e = let b = e (t % 64) in grind (arith, nat_tests)

pub returns : goal.returns
returns g c = λ r.
    let s = about g.row.W c.args.self.now in
    gathered_all s r (λ y. in_sets c.args.held.now r y || held_by s (in_word c.args.c c.args.word) r y) (in_sets c.loop-b.held r)
    (in_word c.args.c c.loop-b.rest) (λ t. none_left c.args.c c.loop-b.rest t c.in_default.ensures.lowest.0) (c.loop-b.invariant r)
