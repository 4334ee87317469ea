-- The line that tells a fault.
use Rattle.std.specs.Prelude.{ℕ, List, ◌++◌, Option, codes, decimal, option_map}

-- A number, a space, and a place with this text.
abbrev pub line_text : ℕ → Option (List ℕ) → Option (List ℕ)
line_text number place = option_map (λ text. decimal number ++ (codes " " ++ text)) place
