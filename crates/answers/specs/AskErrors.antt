-- What is answered to an input of questions, beside what the input says. Only where memory runs out is it something else.
use Rattle.std.specs.Prelude.{◌≡◌, Err, Result}
use Rattle.codec.specs.declared.fault.Fault.{Fault}
use Rattle.codec.specs.declared.error.InputError.{InputError}
use Rattle.codec.specs.declared.error.InputError.TheVariants.{Input, NoMemory}

-- A refusal of the input is its first fault. Memory may run out before that is found.
abbrev pub IsRefusedSo : {A : Type 0} → InputError → Result A Fault → Type 0
IsRefusedSo (Input f) said = said ≡ Err f
IsRefusedSo NoMemory said = Unit {0}
