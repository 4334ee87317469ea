use Rattle.std.proofs.Common.{ltb, length, sym, ap, ◌∙◌, arith}
use Rattle.std.proofs.lemmas.Result.{err_from_is_err_and}
use Rattle.graph.specs.Graphs.{state}
use Rattle.std.proofs.lemmas.Bool.{cond-true, cond-false, leb-true, leb-false, lt-ltb, le-ltb}
use Rattle.answers.proofs.Steps.{no_book_alone, book_alone-law}
use Rattle.answers.proofs.table.sharing_table.Goals as goal

pub returns-in_err-graph : goal.returns-in_err-graph
returns-in_err-graph c =
    let p = err_from_is_err_and c.from_residual.result c.from_residual.ensures.1 in
    rw (p.1, p.2) (no_book_alone c.args.bytes.now _ c.in_err-graph.ensures.value)

pub returns-then-not-is_done : goal.returns-then-not-is_done
returns-then-not-is_done c =
    let at = c.in_ok-graph.rest.at in
    rw c.at.ensures
    (book_alone-law c.args.bytes.now (state c.in_ok-graph.graph) at c.in_ok-graph.ensures.value ∙
    cond-true (ltb at (length c.args.bytes.now)) _ _
    (lt-ltb _ _ (omega (arith, leb-false _ _ (sym c.is_done.ensures ∙ c.if-not-is_done.true), ap length c.in_ok-graph.ensures.rest))))

pub returns : goal.returns
returns c = (
  state c.in_ok-graph.graph,
  book_alone-law c.args.bytes.now (state c.in_ok-graph.graph) c.in_ok-graph.rest.at c.in_ok-graph.ensures.value ∙
      cond-false (ltb c.in_ok-graph.rest.at (length c.args.bytes.now)) _ _
      (le-ltb _ _ (omega (arith, leb-true _ _ (sym c.is_done.ensures ∙ c.if-not-is_done.false), ap length c.in_ok-graph.ensures.rest))),
  c.in_ok-write_table.ensures,
)
