-- What it means that an input was played through: a book, acts that may be done one after the other, and the book after them.
use Rattle.std.specs.Prelude.{◌≡◌, ℕ, ◌<◌, T, List, [], ◌∷◌, ◌++◌}
use Rattle.model.specs.State.{State}
use Rattle.model.specs.Rules.{applied, after, all_applicable}
use Rattle.model.specs.declared.Rule.{Rule}
use Rattle.model.specs.declared.Rule.TheVariants.{Take, Grant, Create, Remove}
use Rattle.codec.specs.Acts.{act_bytes}
use Rattle.codec.specs.Bookable.{Bookable}
use Rattle.codec.specs.Writing.{book_bytes}

-- The bytes of a row of acts.
unfoldable pub acts_bytes : List Rule → List ℕ
acts_bytes [] = []
acts_bytes (a ∷ more) = act_bytes a ++ acts_bytes more

-- An act names only vertices below n and rights below 8, and the rights that it gives are a byte's bits.
abbrev pub InRange : ℕ → Rule → Type 0
InRange n (Take t) = (t.who < n) × (t.from < n) × (t.right < 8) × (t.to < n)
InRange n (Grant g) = (g.who < n) × (g.into < n) × (g.right < 8) × (g.to < n)
InRange n (Create c) = (c.who < n) × (c.rights < 256)
InRange n (Remove d) = (d.who < n) × (d.right < 8) × (d.to < n)

-- Each act of the row names what is there when its turn comes.
unfoldable pub Readable : State → List Rule → Type 0
Readable s [] = Unit {0}
Readable s (a ∷ more) = InRange s.size a × Readable (applied s a) more

-- The input is the book of some state and a row of acts, each of which may be done in its turn and none of which makes a 256th vertex; the output is the book of the state after them.
pub record Played (input output : List ℕ) : Type 0 where
  pub start : State
  pub acts : List Rule
  pub bookable : Bookable start
  pub readable : Readable start acts
  pub applicable : T (all_applicable start acts)
  pub room : (after start acts).size < 256
  pub reads : input ≡ book_bytes start ++ acts_bytes acts
  pub writes : output ≡ book_bytes (after start acts)
