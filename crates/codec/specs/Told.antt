-- What a fault says of the input: it is the first, and nothing behind its place counts.
use Rattle.std.specs.Prelude.{◌≡◌, ℕ, ◌+◌, ◌<◌, ◌≤◌, T, List, ◌++◌, length, take, Ok, Err, Result, Vec}
use Rattle.std.specs.declared.alloc.Global.{Global}
use Rattle.model.specs.State.{State}
use Rattle.model.specs.Rules.{applicable, after, all_applicable}
use Rattle.model.specs.declared.Rule.{Rule}
use Rattle.graph.specs.Graphs.{creates}
use Rattle.codec.specs.declared.fault.Fault.{Fault}
use Rattle.codec.specs.declared.fault.Fault.TheVariants.{UnknownKind, BadFlag, Missing, OutOfRange, NotRising, NotApplicable, Full}
use Rattle.codec.specs.declared.error.InputError.{InputError}
use Rattle.codec.specs.declared.error.InputError.TheVariants.{Input, NoMemory}
use Rattle.codec.specs.Acts.{act_bytes}
use Rattle.codec.specs.Bookable.{Bookable}
use Rattle.codec.specs.Played.{acts_bytes, InRange, Readable}
use Rattle.codec.specs.Replay.{replayed}
use Rattle.codec.specs.RoundTrips.{AreBytes}
use Rattle.codec.specs.Writing.{book_bytes}

-- Every input with the same bytes up to this offset, and at it, is refused by the same fault.
abbrev pub FirstAt : List ℕ → ℕ → Fault → Type 0
FirstAt input at f = (at < length input) × ((other : List ℕ) → take (at + 1) other ≡ take (at + 1) input → replayed other ≡ Err f)

-- The input is a book, i acts that may be done one after the other, and an act that names only what is there and is not done; what follows does not count.
pub record Stopped (input : List ℕ) (i : ℕ) (Why : State → Rule → Type 0) : Type 0 where
  pub start : State
  pub acts : List Rule
  pub act : Rule
  pub rest : List ℕ
  pub bookable : Bookable start
  pub readable : Readable start acts
  pub applicable : T (all_applicable start acts)
  pub room : (after start acts).size < 256
  pub number : length acts ≡ i
  pub range : InRange (after start acts).size act
  pub why : Why (after start acts) act
  pub reads : input ≡ book_bytes start ++ (acts_bytes acts ++ (act_bytes act ++ rest))

-- The fault is told at this byte.
abbrev pub AtByte : Fault → ℕ → Type 0
AtByte (UnknownKind n) at = n ≡ at
AtByte (BadFlag n) at = n ≡ at
AtByte (Missing n) at = ⊥
AtByte (OutOfRange n) at = n ≡ at
AtByte (NotRising n) at = n ≡ at
AtByte (NotApplicable act) at = ⊥
AtByte (Full act) at = ⊥

-- Up to its end there is no fault in it: whatever follows, no fault is told at one of its bytes.
abbrev pub Unfinished : List ℕ → Type 0
Unfinished input =
    (more : List ℕ) → AreBytes more → (f : Fault) (at : ℕ) → AtByte f at → replayed (input ++ more) ≡ Err f → length input ≤ at

abbrev pub MayNot : State → Rule → Type 0
MayNot s a = T (applicable s a) → ⊥

-- It may be done, and would make a 256th vertex.
abbrev pub NoRoom : State → Rule → Type 0
NoRoom s a = T (applicable s a) × T (creates a) × (s.size ≡ 255)

abbrev pub Told : List ℕ → Fault → Type 0
Told input (UnknownKind at) = FirstAt input at (UnknownKind at)
Told input (BadFlag at) = FirstAt input at (BadFlag at)
Told input (Missing n) = (n ≡ length input) × Unfinished input
Told input (OutOfRange at) = FirstAt input at (OutOfRange at)
Told input (NotRising at) = FirstAt input at (NotRising at)
Told input (NotApplicable act) = Stopped input act MayNot
Told input (Full act) = Stopped input act NoRoom

-- What is so of the fault that was answered, if one was.
abbrev pub IsFaulted : Result (Vec ℕ Global) InputError → (Fault → Type 0) → Type 0
IsFaulted (Ok v) P = Unit {0}
IsFaulted (Err (Input f)) P = P f
IsFaulted (Err NoMemory) P = Unit {0}

abbrev pub FaultsTold : Type 0
FaultsTold = (input : List ℕ) → AreBytes input → (f : Fault) → replayed input ≡ Err f → Told input f

-- An act that stops the input is the fault that is told.
abbrev pub StopsTold : Type 0
StopsTold = (input : List ℕ) (i : ℕ) → (Stopped input i MayNot → replayed input ≡ Err (NotApplicable i)) × (Stopped input i NoRoom → replayed input ≡ Err (Full i))
