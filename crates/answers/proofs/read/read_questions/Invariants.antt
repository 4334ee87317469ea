use Rattle.std.proofs.Common.{◌≡◌, ◌-◌, ◌≤◌, length, vec_items, vec_len}
use Rattle.answers.specs.Asked.{questions_at}
use Rattle.answers.proofs.Steps.{behind}
use Rattle.answers.proofs.read.read_questions.Given as goal

-- The questions from here on, behind those that were read, are all of them; and each of those took a byte at least.
abbrev pub invariant-loop-input : goal.invariant-loop-input
invariant-loop-input l =
    record {
      same : l.input.bytes.now ≡ l.initial.input.bytes.now;
      many : vec_len l.questions ≤ l.input.at;
      left : behind (vec_items l.questions) (questions_at (length l.initial.input.bytes.now - vec_len l.questions) l.initial.input.bytes.now l.size l.input.at) ≡ questions_at (length l.initial.input.bytes.now) l.initial.input.bytes.now l.size l.initial.input.at;
    }

abbrev pub decreases-loop-input : goal.decreases-loop-input
decreases-loop-input l = length l.input.bytes.now - l.input.at
