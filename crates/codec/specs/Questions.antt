-- The bytes of questions, and of the books that they are about.
use Rattle.std.specs.Prelude.{ℕ, cond, List, Ok, Err, ◌==◌}
use Rattle.model.specs.State.{State}
use Rattle.model.specs.declared.Question.{Question}
use Rattle.codec.specs.declared.fault.Fault.TheVariants.{UnknownKind}
use Rattle.codec.specs.Reading.{Read, ◌then◌, byte_at, below_at}
use Rattle.codec.specs.Books.{book_at}

-- A book that begins with 1: no other may be asked about.
abbrev pub narrow_book_at : List ℕ → Read State
narrow_book_at bs = byte_at bs 0 then λ kind next. cond (kind == 1) (book_at bs) (Err (UnknownKind 0))

abbrev pub question_at : List ℕ → ℕ → ℕ → Read Question
question_at bs size at =
    byte_at bs at then λ kind at1.
    cond (kind == 6)
    (below_at bs at1 size then λ x at2.
    below_at bs at2 8 then λ r at3.
    below_at bs at3 size then λ y next. Ok (record { holder = x; right = r; target = y }, next))
    (Err (UnknownKind at))
