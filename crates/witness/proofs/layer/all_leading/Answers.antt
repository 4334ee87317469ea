use Rattle.std.proofs.Common.{◌≡◌, ℕ, false, not, true, sym, ◌∙◌, ap, inl, inr, arith}
use lib.Dec.{T_not}
use Rattle.std.proofs.lemmas.Bool.{cases_lt}
use Rattle.bits.specs.Sets.{holds, VertexSet}
use Rattle.bits.proofs.Holds.{holds_past}
use Rattle.model.specs.Bounded.{all_below}
use Rattle.model.specs.Closure.{within}
use Rattle.model.proofs.Tests.{all_at, from_true, is_false}
use Rattle.witness.specs.Rows.{turned}
use Rattle.witness.proofs.Layers.{layer_whole}
use Rattle.witness.proofs.layer.all_leading.Goals as goal
use Rattle.witness.proofs.layer.all_leading.Goals.{else-loop-done-test, then-loop-done-test+then-is_empty}

none_of : (s : VertexSet) → all_below 256 (λ k. not (holds s k)) ≡ true → (z : ℕ) → holds s z ≡ false
none_of s e z =
    elim (cases_lt z 256) [
      | inl l ↦ is_false (holds s z) (T_not (holds s z) (all_at 256 (λ k. not (holds s k)) (from_true _ e) z l))
      | inr l ↦ holds_past s z l
    ]

pub returns : goal.returns
returns c z =
    let n = c.args.steps.now.size in
    let is = c.loop-done.invariant in
    elim c.loop-done-test.branch [
      | else-loop-done-test w ↦ is.last z ∙ ap (λ k. within k n (turned c.args.steps.now.back.now) z c.args.y) (omega arith)
      | then-loop-done-test+then-is_empty w ↦
          layer_whole n c.args.steps.now.back.now c.args.y c.loop-done._done c.loop-done.layer is (none_of c.loop-done.layer.fresh (sym w.is_empty.ensures ∙ w.if-is_empty.true))
          (omega arith) z
    ]
