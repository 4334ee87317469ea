-- Questions that name only vertices that are there.
use Rattle.std.specs.Prelude.{ℕ, ◌<◌, List}
use Rattle.model.specs.declared.Question.{Question}
use Rattle.answers.specs.Records.{Each}

pub record Inside (size : ℕ) (q : Question) : Type 0 where
  pub holder : q.holder < size
  pub target : q.target < size

abbrev pub AllInside : ℕ → List Question → Type 0
AllInside size = Each (Inside size)
