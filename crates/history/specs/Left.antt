-- What is left of an input, as far as it was read, with the state of the book as it is then.
use Rattle.std.specs.Prelude.{ℕ, ◌-◌, List, ◌∷◌, length, Ok, Result}
use Rattle.model.specs.State.{State}
use Rattle.codec.specs.declared.fault.Fault.{Fault}
use Rattle.codec.specs.Reading.{onward}
use Rattle.history.specs.Posed.{Posed, posed_at}
use Rattle.history.specs.declared.reading.Reading.{Reading}

-- The questions that are to come.
abbrev pub left : Reading → State → Result (List Posed) Fault
left r s = posed_at (length r.input.bytes.now) r.input.bytes.now r.input.at r.acts s

-- How many bytes are to come.
abbrev pub ahead : Reading → ℕ
ahead r = length r.input.bytes.now - r.input.at

-- One question, and then these.
abbrev pub first : Posed → Result (List Posed) Fault → Result (List Posed) Fault
first p r = onward r λ more. Ok (p ∷ more)
