use Rattle.std.proofs.Common.{sym, ◌∙◌, arith}
use Rattle.spans.proofs.Resized.{at_index, rows_are}
use Rattle.spans.proofs.links.Links.granters.Goals as goal

pub returns : goal.returns
returns c =
    let l = c.args.self.now in
    let all = l.all in
    record { value = λ q. at_index l.granters c.args.p _ (omega arith) q ∙ sym (rows_are l.granters c.args.p q) ∙ l.granted c.args.p q }
