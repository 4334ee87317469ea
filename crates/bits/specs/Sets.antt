-- Sets of numbers: as words of 64 bits, as a BitSet, and as bytes.
use Rattle.std.specs.Prelude.{◌≡◌, ℕ, zero, suc, ◌+◌, ◌-◌, ◌*◌, ◌/◌, ◌%◌, ◌^◌, Bool, cond, ◌&&◌, List, [], ◌∷◌, length, nat_lt, slice_index, slice_index_or}
use Rattle.model.specs.Bit.{bit}
use Rattle.bits.specs.declared.set.BitSet.{BitSet}

-- Is k in the set that these words write, 64 numbers to a word, the lowest first?
unfoldable pub member : List ℕ → ℕ → Bool
member ws k = bit (slice_index ws (k / 64)) (k % 64)

-- Two sets of numbers have the same members.
abbrev pub Same : (ℕ → Bool) → (ℕ → Bool) → Type 0
Same f g = (k : ℕ) → f k ≡ g k

-- Is k in the set?
unfoldable pub among : (w : ℕ) → BitSet w → ℕ → Bool
among w s k = nat_lt k (64 * w) && member s.words k

abbrev pub VertexSet : Type 0
VertexSet = BitSet 4

-- Is the vertex k in the set?
abbrev pub holds : VertexSet → ℕ → Bool
holds = among 4

-- What a list of sets has past its end: a set with no member.
abbrev pub none : VertexSet
none = record { words = [] }

-- Is k in set i of a list?
unfoldable pub in_row : List VertexSet → ℕ → ℕ → Bool
in_row rows i k = holds (slice_index_or rows i none) k

-- The number whose n lowest bits are f 0, f 1 and so on, and that has no others.
unfoldable pub bits_value : ℕ → (ℕ → Bool) → ℕ
bits_value zero f = 0
bits_value (suc n) f = bits_value n f + cond (f n) (2 ^ n) 0

-- The byte whose bits are f (8 j) to f (8 j + 7), the lowest first.
unfoldable pub byte_of : (ℕ → Bool) → ℕ → ℕ
byte_of f j = bits_value 8 (λ i. f (8 * j + i))

-- A set of numbers below 8 w as w bytes, the highest first.
unfoldable pub set_bytes : ℕ → (ℕ → Bool) → List ℕ
set_bytes zero f = []
set_bytes (suc w) f = byte_of f w ∷ set_bytes w f

-- Do these bytes, the highest first, name the number k?
unfoldable pub in_bytes : List ℕ → ℕ → Bool
in_bytes bs k = nat_lt (k / 8) (length bs) && bit (slice_index bs (length bs - 1 - k / 8)) (k % 8)
