use Rattle.std.proofs.Common.{get_or, rules}
use Rattle.bits.proofs.FromFn.{each_made}
use Rattle.bits.proofs.words.joined.Goals as goal

pub returns : goal.returns
returns g c =
    each_made _ (λ i y. g.F.Fn.post c.args.join (get_or c.args.a.now i 0, (get_or c.args.b.now i 0, tt)) y) _
    (λ i y q call. (search rules, search rules)) c.from_fn.result 0 g.row.W c.from_fn.ensures.items
