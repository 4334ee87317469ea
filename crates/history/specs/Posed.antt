-- An input of a book that begins with 1, and then of acts and questions in any order: each question, with the state as it is then.
use Rattle.std.specs.Prelude.{ℕ, zero, suc, ◌+◌, cond, List, [], ◌∷◌, length, Ok, Err, Result, ◌==◌, nat_le, nat_lt, slice_index}
use Rattle.model.specs.State.{State}
use Rattle.codec.specs.declared.fault.Fault.{Fault}
use Rattle.codec.specs.declared.fault.Fault.TheVariants.{OutOfRange}
use Rattle.model.specs.declared.Question.{Question}
use Rattle.codec.specs.Reading.{Read, onward}
use Rattle.codec.specs.Questions.{narrow_book_at, question_at}
use Rattle.codec.specs.Replay.{performed_at}

pub record Posed : Type 0 where
  pub about : State
  pub question : Question

-- A question about a book of so many vertices: of more than 128 nothing may be asked.
abbrev pub posed_question_at : List ℕ → ℕ → ℕ → Read Question
posed_question_at bs at size = cond (nat_le size 128) (question_at bs size at) (Err (OutOfRange at))

-- Acts and questions to the end of the input; the next act has the number i. Each takes some bytes, so there are fewer than `most`, the length of the input.
unfoldable pub posed_at : ℕ → List ℕ → ℕ → ℕ → State → Result (List Posed) Fault
posed_at zero bs at i s = Ok []
posed_at (suc most) bs at i s =
    cond (nat_lt at (length bs))
    (cond (slice_index bs at == 6)
    (onward (posed_question_at bs at s.size) λ q. onward (posed_at most bs q.1 i s) λ more. Ok (record { about = s; question = q.0 } ∷ more))
    (onward (performed_at bs at i s) λ t. posed_at most bs t.1 (i + 1) t.0))
    (Ok [])

unfoldable pub posed : List ℕ → Result (List Posed) Fault
posed bs = onward (narrow_book_at bs) λ b. posed_at (length bs) bs b.1 0 b.0
