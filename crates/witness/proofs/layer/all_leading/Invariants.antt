use Rattle.witness.specs.Rows.{IsLayer}
use Rattle.witness.proofs.layer.all_leading.Given as goal

abbrev pub invariant-loop-done : goal.invariant-loop-done
invariant-loop-done l = IsLayer l.steps.size l.steps.back.now l.y l._done l.layer
