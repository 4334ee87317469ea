-- What the words of a command line mean.
use Rattle.std.specs.Prelude.{◌≡◌, ℕ, Bool, true, false, cond, ◌&&◌, ◌||◌, List, [], ◌∷◌, ◌++◌, map, Option, Some, None, option_map, codes, bytes_eq, string_bytes, ◌==◌, slice_index}
use Rattle.console.specs.declared.request.Request.{Request}
use Rattle.console.specs.declared.request.Request.TheVariants.{Help, Run}
use Rattle.console.specs.declared.request.Writes.{Writes}
use Rattle.console.specs.declared.request.Writes.TheVariants.{Nothing, File}
use Rattle.console.specs.declared.request.Word.{Word}
use Rattle.console.specs.declared.request.Word.TheVariants.{AsksHelp, NamesOutput, Unknown, NamesFile}
use Rattle.console.specs.declared.request.Misuse.{Misuse}
use Rattle.console.specs.declared.request.Misuse.TheVariants.{NoName, NoOption, NoMemory}

-- The files that are named, and the one that `-o` names: where it stands more than once, the last.
pub record Named : Type 0 where
  pub files : List (List ℕ)
  pub output : Option (List ℕ)

pub data Meaning : Type 0 where
  asks_help : Meaning
  names : Named → Meaning
  lacks_name : Meaning
  has_no_option : List ℕ → Meaning

abbrev pub nothing_named : Named
nothing_named = record { files = []; output = None }

abbrev pub writes_file : Writes → Bool
writes_file Nothing = false
writes_file File = true

-- What a word is by which the program is told something: `-o` is an option only of a program that writes a file.
unfoldable pub word_of : Writes → List ℕ → Word
word_of writes word =
    cond (bytes_eq word (codes "-h") || bytes_eq word (codes "--help")) AsksHelp
    (cond (writes_file writes && bytes_eq word (codes "-o")) NamesOutput
    (cond (slice_index word 0 == 45) Unknown NamesFile))

-- The meaning of the words that are left, where so much was named before them. `awaited`: the word before them is `-o`, so that a name must come.
unfoldable pub meaning_from : Writes → Bool → List (List ℕ) → Named → Meaning
meaning_from writes awaited [] named = cond awaited lacks_name (names named)
meaning_from writes true (word ∷ more) named = meaning_from writes false more (record { files = named.files; output = Some word })
meaning_from writes false (word ∷ more) named = elim (word_of writes word) [
  | AsksHelp ↦ asks_help
  | NamesOutput ↦ meaning_from writes true more named
  | Unknown ↦ has_no_option word
  | NamesFile ↦ meaning_from writes false more (record { files = named.files ++ word ∷ []; output = named.output })
]

abbrev pub meaning : Writes → List (List ℕ) → Meaning
meaning writes words = meaning_from writes false words nothing_named

-- What a request asks for.
abbrev pub asked : Request → Meaning
asked Help = asks_help
asked (Run files output) = names (record { files = map string_bytes files.items; output = option_map string_bytes output })

-- A refusal says what is wrong. Memory may run out before that is found.
abbrev pub IsMisused : Misuse → Meaning → Type 0
IsMisused NoName said = said ≡ lacks_name
IsMisused (NoOption word) said = said ≡ has_no_option (string_bytes word)
IsMisused NoMemory said = Unit {0}

-- The request names no file to write.
abbrev pub WritesNone : Request → Type 0
WritesNone Help = Unit {0}
WritesNone (Run files output) = output ≡ None

abbrev pub misuse_text : Misuse → List ℕ
misuse_text NoName = codes "-o wants the name of a file; --help says how to use this program"
misuse_text (NoOption option) = codes "there is no option " ++ (string_bytes option ++ codes "; --help says how to use this program")
misuse_text NoMemory = codes "memory allocation failed"
