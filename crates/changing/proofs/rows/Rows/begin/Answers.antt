use Rattle.std.proofs.Common.{cond, not, ◌&&◌, ◌||◌, eqb, ap, ◌∙◌, ap₂, T_not}
use mathlib.Core.Path.{fun_ext}
use Rattle.bits.specs.Sets.{holds}
use Rattle.graph.specs.Graphs.{state}
use Rattle.model.specs.Spans.{can_take}
use Rattle.model.proofs.Tests.{parts, from_true}
use Rattle.changing.specs.Reached.{of_some}
use Rattle.changing.specs.Rounds.{begun_row}
use Rattle.changing.specs.Rows.{in_rows}
use Rattle.changing.proofs.Paths.{begun_step}
use Rattle.changing.proofs.Walked.{begun_again, others_stand}
use Rattle.changing.proofs.United.{some_same}
use Rattle.changing.proofs.rows.Rows.begin.Goals as goal

pub returns : goal.returns
unfolding begun_row
returns c = λ x y.
    let s = state c.args.graph.now in
    let v = c.args.v in
    let was = in_rows c.args.self.now in
    let put = in_rows c.put.new.self in
    begun_again was put (in_rows c.unite_all.new.self) (holds c.insert.new.self) (of_some (holds c.difference.result) put) v c.put.ensures c.unite_all.ensures x y
    ∙ ap₂ (λ k m. cond (eqb x v) (k || m) (was x y))
    (c.insert.ensures y ∙ begun_step s (holds c.targets-targets.result) v c.requires.0 c.targets-targets.ensures.value y)
    (ap (λ f. of_some f put y) (fun_ext λ w. c.difference.ensures w ∙ ap (λ b. b && not (holds c.args.set.now w)) (c.targets-targets.ensures.value w))
    ∙ some_same _ put was y
    (λ w t. others_stand was put (holds c.insert.new.self) v c.put.ensures w y
    (λ d. T_not (holds c.args.set.now w) (parts (can_take s v w) _ t).1 (from_true _ (ap (holds c.args.set.now) d ∙ c.requires.1)))))
