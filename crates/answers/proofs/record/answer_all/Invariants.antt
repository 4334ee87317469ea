use Rattle.std.proofs.Common.{◌≡◌, take, vec_items}
use Rattle.witness.specs.Of.{routed}
use Rattle.answers.specs.Lines.{lines_of}
use Rattle.answers.specs.Records.{records_of}
use Rattle.answers.proofs.record.answer_all.Given as goal

abbrev pub invariant-loop-question : goal.invariant-loop-question
invariant-loop-question l =
    (vec_items l.answers.lines ≡ lines_of (routed l.routes) (take l.question-index l.questions)) ×
    (vec_items l.answers.records ≡ records_of (routed l.routes) (take l.question-index l.questions))
