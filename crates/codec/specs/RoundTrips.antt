-- The format, both ways: what is written is read back, and what was read is what would be written.
use Rattle.std.specs.Prelude.{◌≡◌, ℕ, ◌+◌, ◌<◌, ◌≤◌, List, ◌++◌, length, take, Ok, slice_index}
use Rattle.std.specs.List.{between}
use Rattle.model.specs.State.{State}
use Rattle.model.specs.Rules.{after}
use Rattle.model.specs.declared.Rule.{Rule}
use Rattle.codec.specs.Acts.{act_at, act_bytes}
use Rattle.codec.specs.Bookable.{Bookable}
use Rattle.codec.specs.Books.{book_at}
use Rattle.codec.specs.Played.{InRange, Played}
use Rattle.codec.specs.Replay.{replayed}
use Rattle.codec.specs.Writing.{book_bytes}

abbrev pub AreBytes : List ℕ → Type 0
AreBytes bs = (i : ℕ) → slice_index bs i < 256

-- A written book is read back, whatever follows it.
abbrev pub BooksReadBack : Type 0
BooksReadBack = (s : State) → Bookable s → (rest : List ℕ) → book_at (book_bytes s ++ rest) ≡ Ok (s, length (book_bytes s))

-- What was read as a book up to an offset is the book of the state that was read.
pub record BookRead (input : List ℕ) (s : State) (next : ℕ) : Type 0 where
  pub bookable : Bookable s
  pub within : next ≤ length input
  pub bytes : take next input ≡ book_bytes s

abbrev pub BooksWriteBack : Type 0
BooksWriteBack = (input : List ℕ) → AreBytes input → (s : State) (next : ℕ) → book_at input ≡ Ok (s, next) → BookRead input s next

-- A written act is read back, wherever it stands, in a book that has what it names.
abbrev pub ActsReadBack : Type 0
ActsReadBack =
    (n : ℕ) (a : Rule) → InRange n a → (before rest : List ℕ) → act_at (before ++ (act_bytes a ++ rest)) n (length before) ≡ Ok (a, length before + length (act_bytes a))

-- What was read as an act from one offset to another is the act that was read, and names only what is there.
pub record ActRead (input : List ℕ) (n at : ℕ) (a : Rule) (next : ℕ) : Type 0 where
  pub range : InRange n a
  pub ends : next ≡ at + length (act_bytes a)
  pub within : next ≤ length input
  pub bytes : between at next input ≡ act_bytes a

abbrev pub ActsWriteBack : Type 0
ActsWriteBack =
    (input : List ℕ) → AreBytes input → (n at : ℕ) (a : Rule) (next : ℕ) → act_at input n at ≡ Ok (a, next) → ActRead input n at a next

-- Exactly the inputs that play through are answered, and with the book after their acts.
abbrev pub ReplaysPlay : Type 0
ReplaysPlay = (input output : List ℕ) → AreBytes input → replayed input ≡ Ok output → Played input output

abbrev pub PlaysReplay : Type 0
PlaysReplay = (input output : List ℕ) → Played input output → replayed input ≡ Ok output

-- The output is a book again, of the state after the acts.
abbrev pub OutputsReadBack : Type 0
OutputsReadBack = (input output : List ℕ) → (p : Played input output) → book_at output ≡ Ok (after p.start p.acts, length output)
