-- An input of questions: a book that begins with 1, and questions about it to the end.
use Rattle.std.specs.Prelude.{ℕ, zero, suc, cond, List, [], ◌∷◌, length, Ok, Err, Result, nat_lt}
use Rattle.model.specs.State.{State}
use Rattle.codec.specs.declared.fault.Fault.{Fault}
use Rattle.codec.specs.declared.fault.Fault.TheVariants.{UnknownKind}
use Rattle.model.specs.declared.Question.{Question}
use Rattle.codec.specs.Reading.{onward}
use Rattle.codec.specs.Questions.{narrow_book_at, question_at}

-- Questions to the end of the input. Each takes some bytes, so there are fewer than `most`, the length of the input.
unfoldable pub questions_at : ℕ → List ℕ → ℕ → ℕ → Result (List Question) Fault
questions_at zero bs size at = Ok []
questions_at (suc most) bs size at =
    cond (nat_lt at (length bs))
    (onward (question_at bs size at) λ q. onward (questions_at most bs size q.1) λ more. Ok (q.0 ∷ more))
    (Ok [])

pub record Asked : Type 0 where
  pub about : State
  pub questions : List Question

unfoldable pub asked : List ℕ → Result Asked Fault
asked bs =
    onward (narrow_book_at bs) λ b.
    onward (questions_at (length bs) bs b.0.size b.1) λ qs. Ok (record { about = b.0; questions = qs })

-- A book and nothing else.
unfoldable pub book_alone : List ℕ → Result State Fault
book_alone bs = onward (narrow_book_at bs) λ b. cond (nat_lt b.1 (length bs)) (Err (UnknownKind b.1)) (Ok b.0)
