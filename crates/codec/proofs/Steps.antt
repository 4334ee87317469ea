-- What a reader read of the input as it had it, in the words of the input that it was given.
use Rattle.std.proofs.Common.{◌≡◌, ℕ, List, Result, ap, ◌∙◌}
use Rattle.codec.specs.declared.fault.Fault.{Fault}
use Rattle.codec.specs.declared.reader.Reader.{Reader}
use Rattle.codec.specs.Reading.{Read}
use Rattle.codec.specs.Reads.{Reads, reached}

pub read_in : {A : Type 0} (r : Result A Fault) (old new : Reader) (says : List ℕ → ℕ → Read A) {bs : List ℕ} → Reads r old new says → old.bytes.now ≡ bs → (new.bytes.now ≡ bs) × (reached r new.at ≡ says bs old.at)
read_in r old new says h e = (h.0 ∙ e, h.1 ∙ ap (λ b. says b old.at) e)
