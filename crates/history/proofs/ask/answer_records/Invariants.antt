use Rattle.std.proofs.Common.{◌≡◌, ◌≤◌, vec_items, vec_len}
use Rattle.changing.specs.Of.{tracked}
use Rattle.history.specs.Left.{ahead, left}
use Rattle.history.specs.Posed.{posed}
use Rattle.history.specs.Printed.{lines_to, records_to}
use Rattle.history.proofs.Said.{Answered}
use Rattle.witness.specs.Answers.{longest_answer_len}
use Rattle.history.proofs.ask.answer_records.Given as goal

abbrev pub invariant-loop-answers : goal.invariant-loop-answers
invariant-loop-answers l =
    Answered (posed l.bytes) (left l.reading (tracked l.book)) (λ done. (vec_items l.answers.lines ≡ lines_to done) × (vec_items l.answers.records ≡ records_to done))
    × (longest_answer_len 128 ≤ vec_len l.room)

abbrev pub decreases-loop-answers : goal.decreases-loop-answers
decreases-loop-answers l = ahead l.reading
