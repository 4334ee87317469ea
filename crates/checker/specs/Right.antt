-- What it is for an input to be right, in the model's terms: a book, a question, and either a witness or a right certificate.
use Rattle.std.specs.Prelude.{◌≡◌, ℕ, ◌+◌, ◌<◌, ◌≤◌, Bool, false, T, ◌⊎◌, List, [], ◌∷◌, length, Ok}
use Rattle.model.specs.State.{State}
use Rattle.model.specs.Rules.{applied, after, all_applicable}
use Rattle.model.specs.Bounded.{only}
use Rattle.model.specs.Plans.{creations}
use Rattle.model.specs.Promise.{longest_witness_len}
use Rattle.model.specs.Certificates.{Certificate, is_right}
use Rattle.model.specs.declared.Rule.{Rule}
use Rattle.codec.specs.Reading.{byte_at}
use Rattle.codec.specs.Acts.{act_at}
use Rattle.codec.specs.Questions.{narrow_book_at, question_at}
use Rattle.model.specs.declared.Question.{Question}
use Rattle.checker.specs.Reading.{certificate_at, length_at}
use Rattle.checker.specs.Checked.{has_asked}

-- The input begins with a book, a question about it, and the first byte of an answer, behind which its body stands.
pub record Asked (bs : List ℕ) (kind : ℕ) : Type 0 where
  pub book : State
  pub behind : ℕ
  pub question : Question
  pub start : ℕ
  pub body : ℕ
  pub opens : narrow_book_at bs ≡ Ok (book, behind)
  pub asks : question_at bs book.size behind ≡ Ok (question, start)
  pub answers : byte_at bs start ≡ Ok (kind, body)

-- These rules stand in the bytes one after the other, each named in the state as it is by then.
unfoldable pub Listed : List ℕ → State → ℕ → List Rule → ℕ → Type 0
Listed bs s at [] end = at ≡ end
Listed bs s at (a ∷ more) end = (next : ℕ) × ((act_at bs s.size at ≡ Ok (a, next)) × Listed bs (applied s a) next more end)

-- A witness: rules that stand in the input to its end, not too many, each applicable in its turn, with no 256th vertex, after which the holder has
-- the right.
pub record RightWitness (bs : List ℕ) : Type 0 where
  pub asked : Asked bs 16
  pub rules : List Rule
  pub first : ℕ
  pub end : ℕ
  pub counted : length_at bs asked.body ≡ Ok (length rules, first)
  pub listed : Listed bs asked.book first rules end
  pub whole : length bs ≤ end
  pub short : length rules ≤ longest_witness_len asked.book.size
  pub applicable : T (all_applicable asked.book rules)
  pub room : asked.book.size + creations rules ≤ 255
  pub brings : T (has_asked asked.question (after asked.book rules))

-- A certificate: three sets that stand in the input to its end, and are right by the model's definition.
pub record RightCertificate (bs : List ℕ) : Type 0 where
  pub asked : Asked bs 17
  pub sets : Certificate
  pub end : ℕ
  pub listed : certificate_at bs asked.book.size asked.body ≡ Ok (sets, end)
  pub whole : length bs ≤ end
  pub right : T (is_right asked.book (only asked.question.holder) asked.question.right (only asked.question.target) sets)

abbrev pub RightInput : List ℕ → Type 0
RightInput bs = RightWitness bs ⊎ RightCertificate bs

-- After no row of rules, of any length and by any subjects, has one of X the right to one of Y.
abbrev pub NeverHave : State → (ℕ → Bool) → ℕ → (ℕ → Bool) → Type 0
NeverHave s X r Y =
    (x y : ℕ) → x < s.size → y < s.size → T (X x) → T (Y y) → (rules : List Rule) → (after s rules).has x r y ≡ false

-- So of the question's holder and target.
abbrev pub NeverHas : Question → State → Type 0
NeverHas q s = (rules : List Rule) → has_asked q (after s rules) ≡ false
