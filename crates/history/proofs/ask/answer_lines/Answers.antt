use Rattle.std.proofs.Common.{◌++◌, vec_items, ap, ◌∙◌}
use Rattle.answers.specs.Lines.{line_of}
use Rattle.changing.specs.Of.{tracked}
use Rattle.history.specs.Left.{left}
use Rattle.history.specs.Printed.{line_to}
use Rattle.history.proofs.Said.{answered_more, answered_all, text_more, lines_said}
use Rattle.history.proofs.ask.answer_lines.Goals as goal

pub loop-lines-preserved : goal.loop-lines-preserved
loop-lines-preserved c =
    let q = c.in-Some.question in
    let s = tracked c.next_question.new.book in
    let lines = vec_items c.loop-lines.lines in
    answered_more c.loop-lines.invariant (record { about = s; question = q }) (left c.next_question.new.self s) _ (rw c.in-Some.is at c.in_ok-question.ensures.value)
    (λ done h. text_more line_to lines _ done _
    (c.in_ok-extend_from_slice.ensures.items
    ∙ ap (λ t. lines ++ t) (c.line.ensures ∙ ap line_of c.can_share.ensures.value)) h)

pub returns : goal.returns
returns c =
    lines_said c.args.bytes.now (λ i. (c.type_inv.bytes i).fits) c.loop-lines.invariant.done
    (answered_all c.loop-lines.invariant (rw c.in_default.is at c.in_ok-question.ensures.value)) _ c.loop-lines.invariant.told
