use Rattle.std.proofs.Common.{sym, ◌∙◌}
use Rattle.std.proofs.lemmas.Bool.{leb-true}
use Rattle.changing.specs.Of.{tracked}
use Rattle.history.proofs.Turns.{nothing_left}
use Rattle.history.proofs.reading.Reading.next_question.Goals as goal

pub returns-clause-value : goal.returns-clause-value
returns-clause-value c =
    let r = c.loop-self.self in
    sym c.loop-self.invariant.0 ∙ nothing_left r.input.bytes.now r.fit r.input.at r.acts (tracked c.loop-self.book) (leb-true _ _ (sym c.is_done.ensures ∙ c.loop-self-test.false))
