use Rattle.std.proofs.Common.{Err, rules}
use Rattle.std.proofs.lemmas.Result.{err_from_is_err_and}
use Rattle.checker.specs.Checked.{checked}
use Rattle.checker.specs.declared.fault.CheckFault.TheVariants.{Input}
use Rattle.checker.proofs.Shown.{opened_none, opened_graph, check_said}
use Rattle.checker.proofs.check.Goals as goal

pub returns-in_err-graph : goal.returns-in_err-graph
unfolding checked
returns-in_err-graph c =
    let p = err_from_is_err_and c.from_residual.result c.from_residual.ensures.1 in
    rw (p.1, p.2) (check_said c.args.bytes.now (opened_none c.args.bytes.now _ c.in_err-graph.ensures.value) (Err (Input _)) (search rules))

pub returns : goal.returns
unfolding checked
returns c = check_said c.args.bytes.now (opened_graph c.args.bytes.now c.in_ok-graph.graph c.in_ok-graph.rest.at c.in_ok-graph.ensures.value) c.check_answer.result (search rules)
