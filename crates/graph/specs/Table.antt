-- How a graph stores rights: for each vertex and right the targets as bits, in words.
use Rattle.std.specs.Prelude.{ℕ, ◌+◌, ◌*◌, ◌/◌, ◌%◌, ◌<◌, Bool, cond, ◌&&◌, T, List, nat_le, nat_lt}
use Rattle.bits.specs.Rows.{cell}
use Rattle.bits.specs.Sets.{holds, VertexSet}

-- The words of a row that has a bit for each of so many vertices.
unfoldable pub row_width : ℕ → ℕ
row_width n = cond (nat_le n 128) 2 4

-- Has p right r to q? Rows of two words: first one for each right of each vertex, with those targets that are below 128, and then as many with the rest.
unfoldable pub in_table : List ℕ → ℕ → ℕ → ℕ → Bool
in_table rows p r q = (nat_lt p 256 && (nat_lt r 8 && nat_lt q 256)) && cell rows 2 (2048 * (q / 128) + (8 * p + r)) (q % 128)

-- No subject is past the last vertex.
abbrev pub SubjectsFit : ℕ → VertexSet → Type 0
SubjectsFit size subjects = (p : ℕ) → T (holds subjects p) → p < size

-- Nothing is held by or to what isn't there.
abbrev pub RowsFit : ℕ → List ℕ → Type 0
RowsFit size rows = (p r q : ℕ) → T (in_table rows p r q) → (p < size) × (q < size)
