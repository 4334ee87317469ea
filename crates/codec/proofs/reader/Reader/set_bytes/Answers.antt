use Rattle.std.proofs.Common.{sym}
use Rattle.codec.proofs.SetBytes.{set_in}
use Rattle.codec.proofs.reader.Reader.set_bytes.Goals as goal

pub slice_bounds-result-end : goal.slice_bounds-result-end
slice_bounds-result-end c =
    let set = set_in c.args.self.now.bytes.now c.args.size c.args.width c.loop-more.more c.args.self.now.at c.loop-more.self.at c.requires.0 c.loop-more-test.false c.loop-more.invariant.left in
    rw c.rest-rest.ensures (sym set.long)

pub returns-clause-long : goal.returns-clause-long
returns-clause-long c =
    let set = set_in c.args.self.now.bytes.now c.args.size c.args.width c.loop-more.more c.args.self.now.at c.loop-more.self.at c.requires.0 c.loop-more-test.false c.loop-more.invariant.left in
    rw c.rest-rest.ensures set.long

pub returns-clause-named : goal.returns-clause-named
returns-clause-named c =
    let set = set_in c.args.self.now.bytes.now c.args.size c.args.width c.loop-more.more c.args.self.now.at c.loop-more.self.at c.requires.0 c.loop-more-test.false c.loop-more.invariant.left in
    rw c.rest-rest.ensures set.named
