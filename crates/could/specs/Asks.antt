-- What the first word of a command line says, and which words are files.
use Rattle.std.specs.Prelude.{cond, List, [], ◌∷◌, drop, codes, bytes_eq, string_bytes, String}
use Rattle.std.specs.declared.alloc.Global.{Global}
use Rattle.could.specs.declared.Asks.{Asks}
use Rattle.could.specs.declared.Asks.TheVariants.{Once, After, All}

abbrev pub asks_of : List (String Global) → Asks
asks_of [] = Once
asks_of (first ∷ rest) = cond (bytes_eq (string_bytes first) (codes "all")) All (cond (bytes_eq (string_bytes first) (codes "after")) After Once)

abbrev pub files_of : List (String Global) → List (String Global)
files_of words = elim (asks_of words) [ Once ↦ words | After ↦ drop 1 words | All ↦ drop 1 words ]
