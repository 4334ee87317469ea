-- The number of each fault, the place that is told with it, which is an offset into the input or the number of an act, and its words.
use Rattle.std.specs.Prelude.{ℕ, List, ◌++◌, codes, decimal}
use Rattle.codec.specs.declared.fault.Fault.{Fault}
use Rattle.codec.specs.declared.fault.Fault.TheVariants.{UnknownKind, BadFlag, Missing, OutOfRange, NotRising, NotApplicable, Full}

abbrev pub fault_number : Fault → ℕ
fault_number (UnknownKind at) = 1
fault_number (BadFlag at) = 1
fault_number (Missing length) = 1
fault_number (OutOfRange at) = 2
fault_number (NotRising at) = 3
fault_number (NotApplicable act) = 4
fault_number (Full act) = 5

abbrev pub fault_place : Fault → ℕ
fault_place (UnknownKind at) = at
fault_place (BadFlag at) = at
fault_place (Missing length) = length
fault_place (OutOfRange at) = at
fault_place (NotRising at) = at
fault_place (NotApplicable act) = act
fault_place (Full act) = act

-- The fault in words, as a user reads it.
abbrev pub fault_text : Fault → List ℕ
fault_text (UnknownKind at) = codes "byte " ++ (decimal at ++ codes ": no record that may stand here begins so")
fault_text (BadFlag at) = codes "byte " ++ (decimal at ++ codes ": whether a new thing acts is said by 0 or 1")
fault_text (Missing length) = codes "the input ends after " ++ (decimal length ++ codes " bytes, within a record")
fault_text (OutOfRange at) = codes "byte " ++ (decimal at ++ codes ": a number that is out of range")
fault_text (NotRising at) = codes "byte " ++ (decimal at ++ codes ": the rights of a thing must rise")
fault_text (NotApplicable act) = codes "act " ++ (decimal act ++ codes ", counted from 0, may not be done")
fault_text (Full act) = codes "act " ++ (decimal act ++ codes ", counted from 0, would make a 256th thing")
