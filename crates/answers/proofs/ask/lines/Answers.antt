use Rattle.std.proofs.Common.{◌++◌, get_or, take, sym, ap, ◌∙◌, ap₂}
use Rattle.std.proofs.lemmas.List.{take_more}
use Rattle.sharing.specs.Of.{answered}
use Rattle.answers.specs.Lines.{line_of, lines_of}
use Rattle.answers.proofs.Written.{lines_more}
use Rattle.answers.proofs.ask.lines.Goals as goal

pub loop-q-init : goal.loop-q-init
unfolding lines_of
loop-q-init c = c.new-out.ensures.items

pub loop-q-preserved : goal.loop-q-preserved
loop-q-preserved c =
    let s = answered c.args.sharing.now in
    let qs = c.args.questions.now in
    let q = get_or qs c.loop-q.q-index (record { holder = 0; right = 0; target = 0 }) in
    c.in_ok-extend_from_slice.ensures.items ∙
    (ap₂ (λ a b. a ++ b) c.loop-q.invariant (c.line.ensures ∙ ap line_of c.can_share.ensures.value) ∙
    (sym (lines_more s (take c.loop-q.q-index qs) q) ∙ ap (lines_of s) (sym (take_more qs c.loop-q.q-index (record { holder = 0; right = 0; target = 0 }) c.loop-q-test.true))))
