-- The kinds of records, and the byte with which each begins.
use Rattle.std.specs.Prelude.{◌≡◌, ℕ, List, Ok, Err, Result, ◌⊎◌, MatchResult}
use Rattle.codec.specs.Reading.{Read, byte_at}
use Rattle.codec.specs.declared.fault.Fault.{Fault}
use Rattle.codec.specs.declared.fault.Fault.TheVariants.{UnknownKind as UnknownAt}
use Rattle.codec.specs.declared.kind.Kind.{Kind}
use Rattle.codec.specs.declared.kind.Kind.TheVariants.{Book, Take, Grant, Create, Remove, Question, WideBook, Yes, No}
use Rattle.codec.specs.declared.kind.UnknownKind.{UnknownKind}

abbrev pub kind_number : Kind → ℕ
kind_number Book = 1
kind_number Take = 2
kind_number Grant = 3
kind_number Create = 4
kind_number Remove = 5
kind_number Question = 6
kind_number WideBook = 7
kind_number Yes = 16
kind_number No = 17

-- No record begins with this number.
abbrev pub IsNoKind : ℕ → Type 0
IsNoKind n = (kind : Kind) → kind_number kind ≡ n → ⊥

-- A number is taken for the kind that has it, and refused if none has.
abbrev pub Decodes : ℕ → Result Kind UnknownKind → Type 0
Decodes n r = MatchResult r (λ kind. kind_number kind ≡ n) (λ e. (e.0 ≡ n) × IsNoKind n)

-- Why there is no kind at an offset: there is no byte, or no record begins with it.
abbrev pub IsNoKindAt : List ℕ → ℕ → Fault → Type 0
IsNoKindAt bs at f = (byte_at bs at ≡ Err f) ⊎ ((p : ℕ × ℕ) × (byte_at bs at ≡ Ok p) × IsNoKind p.0 × (f ≡ UnknownAt at))

-- The kind whose number stands at an offset.
abbrev pub IsKindRead : List ℕ → ℕ → Read Kind → Type 0
IsKindRead bs at r = MatchResult r (λ p. byte_at bs at ≡ Ok (kind_number p.0, p.1)) (IsNoKindAt bs at)

-- Two kinds never begin with the same byte.
abbrev pub KindsDiffer : Type 0
KindsDiffer = (a b : Kind) → kind_number a ≡ kind_number b → a ≡ b
