use Rattle.std.proofs.Common.{◌≡◌, take, vec_items}
use Rattle.sharing.specs.Of.{answered}
use Rattle.answers.specs.Lines.{lines_of}
use Rattle.answers.proofs.ask.lines.Given as goal

abbrev pub invariant-loop-q : goal.invariant-loop-q
invariant-loop-q l = vec_items l.out ≡ lines_of (answered l.sharing) (take l.q-index l.questions)
