-- What the lines that are printed promise: each yes has a witness, and after a no the right never comes about.
use Rattle.std.specs.Prelude.{◌≡◌, ℕ, List, [], ◌∷◌, Ok}
use Rattle.model.specs.State.{State}
use Rattle.model.specs.Promise.{Decided}
use Rattle.model.specs.declared.Question.{Question}
use Rattle.answers.specs.Asked.{Asked, asked}
use Rattle.answers.specs.Lines.{answer_to, lines_of}

-- Each of these questions is decided by its answer.
unfoldable pub AllDecided : State → List Question → Type 0
AllDecided s [] = Unit {0}
AllDecided s (q ∷ more) = Decided s q.holder q.right q.target (answer_to s q) × AllDecided s more

pub record Promised (input output : List ℕ) : Type 0 where
  pub read : Asked
  pub reads : asked input ≡ Ok read
  pub prints : output ≡ lines_of read.about read.questions
  pub decided : AllDecided read.about read.questions
