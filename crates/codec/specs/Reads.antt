-- What a reader of an input answers, and how far it is read then.
use Rattle.std.specs.Prelude.{◌≡◌, ℕ, List, Ok, Err, Result}
use Rattle.codec.specs.declared.reader.Reader.{Reader}

-- The answer, with the offset behind what was read.
abbrev pub reached : {A E : Type 0} → Result A E → ℕ → Result (A × ℕ) E
reached (Ok a) at = Ok (a, at)
reached (Err f) at = Err f

-- The same input was read on as is said: what is said to stand at the old offset is the answer, and the new offset is behind it.
abbrev pub Reads : {A E : Type 0} → Result A E → Reader → Reader → (List ℕ → ℕ → Result (A × ℕ) E) → Type 0
Reads r old new says = (new.bytes.now ≡ old.bytes.now) × (reached r new.at ≡ says old.bytes.now old.at)

-- What was read into something that was there before: how it is then.
abbrev pub filled : {A B E : Type 0} → Result A E → B → Result B E
filled (Ok a) b = Ok b
filled (Err f) b = Err f

-- So where only the new offset is said.
abbrev pub Passes : {A E : Type 0} → Result A E → Reader → Reader → (List ℕ → ℕ → Result ℕ E) → Type 0
Passes r old new says = (new.bytes.now ≡ old.bytes.now) × (filled r new.at ≡ says old.bytes.now old.at)
