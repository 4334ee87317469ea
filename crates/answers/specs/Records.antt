-- What is written for each question: of a yes the exact witness, of a no its certificate.
use Rattle.std.specs.Prelude.{◌≡◌, ℕ, false, cond, T, List, [], ◌∷◌, ◌++◌, Ok}
use Rattle.bits.specs.Sets.{set_bytes}
use Rattle.model.specs.Bounded.{only}
use Rattle.model.specs.Certificates.{Certificate, is_right, certificate_of}
use Rattle.model.specs.Exact.{exact_witness}
use Rattle.model.specs.Exactly.{Exactly}
use Rattle.model.specs.Promise.{Decided}
use Rattle.model.specs.State.{State}
use Rattle.model.specs.declared.Question.{Question}
use Rattle.witness.specs.Answers.{yes_bytes}
use Rattle.answers.specs.Asked.{Asked, asked}
use Rattle.answers.specs.Lines.{answer_to, lines_of}

-- So it is of each of these questions.
unfoldable pub Each : (Question → Type 0) → List Question → Type 0
Each P [] = Unit {0}
Each P (q ∷ more) = P q × Each P more

-- The question is decided by its answer.
abbrev pub DecidedSo : State → Question → Type 0
DecidedSo s q = Decided s q.holder q.right q.target (answer_to s q)

-- J, I and O, 32 bytes each.
abbrev pub no_bytes : Certificate → List ℕ
no_bytes c = 17 ∷ (set_bytes 32 c.inner ++ (set_bytes 32 c.into ++ set_bytes 32 c.out))

unfoldable pub record_of : State → Question → List ℕ
record_of s q =
    cond (answer_to s q) (yes_bytes (exact_witness s q.holder q.right q.target)) (no_bytes (certificate_of s (only q.holder)))

unfoldable pub records_of : State → List Question → List ℕ
records_of s [] = []
records_of s (q ∷ more) = record_of s q ++ records_of s more

-- What a record shows: after a yes, the witness is one; after a no, the certificate is right.
pub record Shown (s : State) (q : Question) : Type 0 where
  pub plan : T (answer_to s q) → Exactly s q.holder q.right q.target
  pub sheet : answer_to s q ≡ false → T (is_right s (only q.holder) q.right (only q.target) (certificate_of s (only q.holder)))

pub record PromisedWith (input output records : List ℕ) : Type 0 where
  pub read : Asked
  pub reads : asked input ≡ Ok read
  pub prints : output ≡ lines_of read.about read.questions
  pub writes : records ≡ records_of read.about read.questions
  pub decided : Each (DecidedSo read.about) read.questions
  pub shown : Each (Shown read.about) read.questions
