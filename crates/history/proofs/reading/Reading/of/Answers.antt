use Rattle.std.proofs.Common.{length, ap, ◌∙◌}
use Rattle.std.proofs.lemmas.Result.{err_from_is_err_and}
use Rattle.graph.specs.Graphs.{state}
use Rattle.history.specs.Posed.{posed_at}
use Rattle.history.proofs.Turns.{no_book, book_posed}
use Rattle.history.proofs.reading.Reading.of.Goals as goal

pub returns-in_err-graph : goal.returns-in_err-graph
returns-in_err-graph c =
    let p = err_from_is_err_and c.from_residual.result c.from_residual.ensures.1 in
    rw (p.1, p.2) (no_book c.args.bytes.now _ c.in_err-graph.ensures.value)

pub returns : goal.returns
returns c =
    let bs = c.args.bytes.now in
    let at = c.in_ok-graph.input.at in
    let s = state c.in_ok-graph.graph in
    ap (λ b. posed_at (length b) b at 0 s) c.in_ok-graph.ensures.rest ∙ book_posed bs s at c.in_ok-graph.ensures.value
