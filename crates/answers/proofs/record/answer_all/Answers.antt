use Rattle.std.proofs.Common.{◌++◌, get_or, take, sym, ap, ◌∙◌}
use Rattle.std.proofs.lemmas.List.{take_more}
use Rattle.witness.specs.Of.{routed}
use Rattle.answers.specs.Lines.{line_of, lines_of, answer_to}
use Rattle.answers.specs.Records.{record_of, records_of}
use Rattle.answers.proofs.Written.{lines_more, records_more}
use Rattle.answers.proofs.record.answer_all.Goals as goal

pub loop-question-init : goal.loop-question-init
unfolding lines_of records_of
loop-question-init c = (c.new-answers.ensures.lines, c.new-answers.ensures.records)

pub loop-question-preserved : goal.loop-question-preserved
loop-question-preserved c =
    let s = routed c.args.routes.now in
    let qs = c.args.questions.now in
    let i = c.loop-question.question-index in
    let q = get_or qs i (record { holder = 0; right = 0; target = 0 }) in
    let more = sym (take_more qs i (record { holder = 0; right = 0; target = 0 }) c.loop-question-test.true) in (
      c.in_ok-add.ensures.lines ∙ ap (λ t. t ++ line_of (answer_to s q)) c.loop-question.invariant.0 ∙ sym (lines_more s (take i qs) q) ∙ ap (lines_of s) more,
      c.in_ok-add.ensures.records ∙ ap (λ t. t ++ record_of s q) c.loop-question.invariant.1 ∙ sym (records_more s (take i qs) q) ∙ ap (records_of s) more,
    )
