-- What is answered to an input: nothing if it is right, else its first fault.
use Rattle.std.specs.Prelude.{ℕ, Bool, cond, List, Some, None, Ok, Err, Option, ◌==◌, nat_lt}
use Rattle.model.specs.State.{State}
use Rattle.model.specs.Bounded.{only}
use Rattle.model.specs.Promise.{longest_witness_len}
use Rattle.codec.specs.Reading.{byte_at}
use Rattle.codec.specs.Questions.{narrow_book_at, question_at}
use Rattle.codec.specs.declared.fault.Fault.TheVariants.{UnknownKind}
use Rattle.model.specs.declared.Question.{Question}
use Rattle.checker.specs.FirstFault.{first_fault}
use Rattle.checker.specs.Reading.{Checked, reading, checking, certificate_at, length_at, rules_at, end_at}
use Rattle.checker.specs.declared.fault.CheckFault.{CheckFault}
use Rattle.checker.specs.declared.fault.CheckFault.TheVariants.{Input, TooLong, NotReached}

-- Has the holder of the question the right to its target?
abbrev pub has_asked : Question → State → Bool
has_asked q s = s.has q.holder q.right q.target

abbrev pub verdict : Option CheckFault → Checked (Unit {0})
verdict None = Ok tt
verdict (Some f) = Err f

abbrev pub certificate_checked : List ℕ → State → Question → ℕ → Checked (Unit {0})
certificate_checked bs s q at =
    checking (certificate_at bs s.size at) λ c.
    checking (end_at bs c.1) λ _. verdict (first_fault s (only q.holder) q.right (only q.target) c.0)

abbrev pub witness_checked : List ℕ → State → Question → ℕ → Checked (Unit {0})
witness_checked bs s q at =
    reading (length_at bs at) λ l.
    cond (nat_lt (longest_witness_len s.size) l.0) (Err (TooLong l.0))
    (reading (rules_at l.0 bs l.1 0 s) λ t.
    checking (end_at bs t.1) λ _. cond (has_asked q t.0) (Ok tt) (Err (NotReached l.0)))

-- The question and its answer, about a book that was read.
abbrev pub answer_checked : List ℕ → State → ℕ → Checked (Unit {0})
answer_checked bs s at =
    reading (question_at bs s.size at) λ q.
    reading (byte_at bs q.1) λ kind.
    cond (kind.0 == 16) (witness_checked bs s q.0 kind.1)
    (cond (kind.0 == 17) (certificate_checked bs s q.0 kind.1) (Err (Input (UnknownKind q.1))))

unfoldable pub checked : List ℕ → Checked (Unit {0})
checked bs = reading (narrow_book_at bs) λ b. answer_checked bs b.0 b.1
