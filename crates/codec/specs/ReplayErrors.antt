-- What `replay` answers, beside what the input says. Only where memory runs out does it answer something else.
use Rattle.std.specs.Prelude.{◌≡◌, ℕ, List, Ok, Err, vec_items, Result, Vec}
use Rattle.std.specs.declared.alloc.Global.{Global}
use Rattle.codec.specs.declared.fault.Fault.{Fault}
use Rattle.codec.specs.declared.error.InputError.{InputError}
use Rattle.codec.specs.declared.error.InputError.TheVariants.{Input, NoMemory}

abbrev pub IsAnswered : Result (Vec ℕ Global) InputError → Result (List ℕ) Fault → Type 0
IsAnswered (Ok v) said = said ≡ Ok (vec_items v)
IsAnswered (Err (Input f)) said = said ≡ Err f
IsAnswered (Err NoMemory) said = (bs : List ℕ) × (said ≡ Ok bs)
