-- What reading means: from an offset of the input, a value and the offset behind it, or the first fault.
use Rattle.std.specs.Prelude.{ℕ, ◌+◌, ◌*◌, Bool, true, false, cond, List, length, Ok, Err, Result, ◌==◌, nat_lt, slice_index}
use Rattle.codec.specs.declared.fault.Fault.{Fault}
use Rattle.codec.specs.declared.fault.Fault.TheVariants.{BadFlag, Missing, OutOfRange}

abbrev pub Read : Type 0 → Type 0
Read A = Result (A × ℕ) Fault

-- Go on, unless there was a fault.
abbrev pub onward : {A B : Type 0} → Result A Fault → (A → Result B Fault) → Result B Fault
onward (Ok a) f = f a
onward (Err e) f = Err e

-- Read on behind what was read.
infixr 5 ◌then◌
abbrev pub ◌then◌ : {A B : Type 0} → Read A → (A → ℕ → Read B) → Read B
◌then◌ (Ok p) f = f p.0 p.1
◌then◌ (Err e) f = Err e

abbrev pub byte_at : List ℕ → ℕ → Read ℕ
byte_at bs at = cond (nat_lt at (length bs)) (Ok (slice_index bs at, at + 1)) (Err (Missing (length bs)))

-- A byte below a bound: the number of a vertex, or of a right.
abbrev pub below_at : List ℕ → ℕ → ℕ → Read ℕ
below_at bs at bound = byte_at bs at then λ b next. cond (nat_lt b bound) (Ok (b, next)) (Err (OutOfRange at))

abbrev pub flag_at : List ℕ → ℕ → Read Bool
flag_at bs at =
    byte_at bs at then λ b next. cond (b == 0) (Ok (false, next)) (cond (b == 1) (Ok (true, next)) (Err (BadFlag at)))

-- Two bytes, the high one first.
abbrev pub count_at : List ℕ → ℕ → Read ℕ
count_at bs at = byte_at bs at then λ high middle. byte_at bs middle then λ low next. Ok (256 * high + low, next)
