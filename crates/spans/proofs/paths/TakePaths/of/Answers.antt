use Rattle.std.proofs.Common.{◌≡◌, ℕ, ap, ◌∙◌, rules, arith}
use Rattle.graph.specs.Graphs.{state}
use Rattle.bits.specs.Sets.{in_row}
use Rattle.spans.specs.Paths.{path_from}
use Rattle.spans.proofs.Entered.{all_below_agree}
use Rattle.spans.proofs.Spanning.{path_below}
use Rattle.spans.proofs.paths.TakePaths.of.Goals as goal
use Rattle.spans.proofs.paths.TakePaths.of.Goals.{then-n-le-NARROW, else-n-le-NARROW}

pub invariant_of-result : goal.invariant_of-result
unfolding in_row
invariant_of-result c =
    let s = state c.args.graph.now in
    let led : (x y : ℕ) → in_row c.if-n-le-NARROW.rows x y ≡ path_from s x y =
    λ x y.
    elim c.if-n-le-NARROW.branch [
      | then-n-le-NARROW w ↦ ap (λ rows. in_row rows x y) w.rows-is ∙ w.rows_of-rows.ensures x y
      | else-n-le-NARROW w ↦ ap (λ rows. in_row rows x y) w.rows-is ∙ w.rows_of-rows-else-n-le-NARROW.ensures x y
    ] in
    record {
      led = led;
      reached = λ y.
          all_below_agree c.size-n.result (in_row c.turned-back.result y) (λ x. path_from s x y) (c.turned-back.ensures.below y)
          (λ x t. let l = path_below s x y t in omega (arith, c.size-n.ensures.value))
          (λ x h. let row = c.turned-back.ensures.rows x h in row.2 y ∙ search (rules, row.1, led x y));
    }
