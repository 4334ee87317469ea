use Rattle.std.proofs.Common.{◌≡◌, ◌≤◌}
use Rattle.changing.specs.Of.{tracked}
use Rattle.history.specs.Left.{ahead, left}
use Rattle.history.proofs.reading.Reading.next_question.Given as goal

abbrev pub invariant-loop-self : goal.invariant-loop-self
invariant-loop-self l = (left l.self (tracked l.book) ≡ left l.initial.self (tracked l.initial.book)) × (ahead l.self ≤ ahead l.initial.self)

abbrev pub decreases-loop-self : goal.decreases-loop-self
decreases-loop-self l = ahead l.self
