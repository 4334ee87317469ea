use Rattle.std.proofs.Common.{◌++◌, vec_items, ap, ◌∙◌, arith}
use Rattle.answers.specs.Lines.{line_of, answer_to}
use Rattle.answers.specs.Records.{record_of}
use Rattle.changing.specs.Of.{tracked}
use Rattle.history.specs.Left.{left}
use Rattle.history.specs.Printed.{line_to, record_to}
use Rattle.history.proofs.Said.{answered_more, answered_all, text_more, records_said}
use Rattle.history.proofs.ask.answer_records.Goals as goal

pub loop-answers-preserved : goal.loop-answers-preserved
loop-answers-preserved c =
    let q = c.in-Some.question in
    let s = tracked c.next_question.new.book in
    let lines = vec_items c.loop-answers.answers.lines in
    let records = vec_items c.loop-answers.answers.records in
    let state_is = c.of-in-Some.ensures.value ∙ c.graph.ensures.value in (
      answered_more c.loop-answers.invariant.0 (record { about = s; question = q }) (left c.next_question.new.self s) _ (rw c.in-Some.is at c.in_ok-question.ensures.value)
          (λ done h. (
            text_more line_to lines _ done _ (c.in_ok-add.ensures.lines ∙ ap (λ t. lines ++ line_of (answer_to t q)) state_is) h.0,
            text_more record_to records _ done _ (c.in_ok-add.ensures.records ∙ ap (λ t. records ++ record_of t q) state_is) h.1,
          )),
      omega arith,
    )

pub returns : goal.returns
returns c =
    let inv = c.loop-answers.invariant.0 in
    records_said c.args.bytes.now (λ i. (c.type_inv.bytes i).fits) inv.done
    (answered_all inv (rw c.in_default.is at c.in_ok-question.ensures.value)) _ _ inv.told.0 inv.told.1
