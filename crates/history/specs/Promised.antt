-- What the lines that are printed promise: each answer decides its question, for the state as it was then.
use Rattle.std.specs.Prelude.{◌≡◌, ℕ, List, ◌++◌, Ok, slice_index_or}
use Rattle.std.specs.List.{All}
use Rattle.model.specs.State.{State}
use Rattle.codec.specs.Bookable.{Bookable}
use Rattle.codec.specs.Writing.{book_bytes}
use Rattle.answers.specs.Records.{DecidedSo}
use Rattle.answers.specs.Records.{Shown}
use Rattle.history.specs.Events.{Event, Goes, events_bytes, questions_in}
use Rattle.history.specs.Posed.{Posed, posed}
use Rattle.history.specs.Printed.{lines_to, records_to}

-- The input is the book of some state, in the layout of at most 128 vertices, and a history that goes through; and these are its questions.
pub record Told (input : List ℕ) (read : List Posed) : Type 0 where
  pub start : State
  pub events : List Event
  pub bookable : Bookable start
  pub narrow : slice_index_or input 0 0 ≡ 1
  pub goes : Goes start events
  pub bytes : input ≡ book_bytes start ++ events_bytes events
  pub asks : read ≡ questions_in start events

abbrev pub DecidedThen : Posed → Type 0
DecidedThen p = DecidedSo p.about p.question

abbrev pub ShownThen : Posed → Type 0
ShownThen p = Shown p.about p.question

pub record Promised (input output : List ℕ) : Type 0 where
  pub read : List Posed
  pub reads : posed input ≡ Ok read
  pub told : Told input read
  pub prints : output ≡ lines_to read
  pub decided : All DecidedThen read

pub record PromisedWith (input output records : List ℕ) : Type 0 where
  pub read : List Posed
  pub reads : posed input ≡ Ok read
  pub told : Told input read
  pub prints : output ≡ lines_to read
  pub writes : records ≡ records_to read
  pub decided : All DecidedThen read
  pub shown : All ShownThen read
