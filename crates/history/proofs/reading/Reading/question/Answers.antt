use Rattle.std.proofs.Common.{length, sym, ap, ◌∙◌}
use Rattle.std.proofs.lemmas.Result.{err_from_is_err_and}
use Rattle.changing.specs.Of.{tracked}
use Rattle.history.specs.Left.{first}
use Rattle.history.specs.Posed.{posed_at, posed_question_at}
use Rattle.history.proofs.Turns.{ask_on, ask_broken}
use Rattle.history.proofs.reading.Reading.question.Goals as goal

pub returns-in_err-question-clause-value : goal.returns-in_err-question-clause-value
returns-in_err-question-clause-value c =
    let r = c.args.self.now in
    let p = err_from_is_err_and c.from_residual.result c.from_residual.ensures.1 in
    rw (p.1, p.2)
    (ask_broken r.input.bytes.now r.fit r.input.at r.acts (tracked c.args.book.now) c.requires.there c.requires.asks _
    (c.in_err-question.ensures.value.1 ∙ ap (posed_question_at r.input.bytes.now r.input.at) (c.size.ensures.value ∙ ap (λ s. s.size) c.graph.ensures.value)))

pub returns-clause-value : goal.returns-clause-value
returns-clause-value c =
    let r = c.args.self.now in
    let s = tracked c.args.book.now in
    let q = c.in_ok-question.question in
    let next = c.read_posed.new.input.at in
    let read = c.in_ok-question.ensures.value in
    ask_on r.input.bytes.now r.fit r.input.at r.acts s c.requires.there c.requires.asks q next
    (read.1 ∙ ap (posed_question_at r.input.bytes.now r.input.at) (c.size.ensures.value ∙ ap (λ t. t.size) c.graph.ensures.value)) ∙
    ap (λ bs. first (record { about = s; question = q }) (posed_at (length bs) bs next r.acts s)) (sym read.0)
