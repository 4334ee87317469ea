use Rattle.std.proofs.Common.{◌≡◌, vec_items}
use Rattle.changing.specs.Of.{tracked}
use Rattle.history.specs.Left.{ahead, left}
use Rattle.history.specs.Posed.{posed}
use Rattle.history.specs.Printed.{lines_to}
use Rattle.history.proofs.Said.{Answered}
use Rattle.history.proofs.ask.answer_lines.Given as goal

abbrev pub invariant-loop-lines : goal.invariant-loop-lines
invariant-loop-lines l = Answered (posed l.bytes) (left l.reading (tracked l.book)) (λ done. vec_items l.lines ≡ lines_to done)

abbrev pub decreases-loop-lines : goal.decreases-loop-lines
decreases-loop-lines l = ahead l.reading
