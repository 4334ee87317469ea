-- The table while it is worked out: what it is about, and how its rows change.
use Rattle.std.specs.Prelude.{◌≡◌, ℕ, ◌+◌, ◌*◌, ◌/◌, ◌%◌, Bool, not, ◌&&◌, ◌||◌, ◌==◌, nat_le, nat_lt}
use Rattle.bits.specs.Rows.{cell}
use Rattle.graph.specs.Graphs.{state}
use Rattle.model.specs.Bit.{bit}
use Rattle.model.specs.State.{State}
use Rattle.sharing.specs.Table.{has_row}
use Rattle.sharing.specs.declared.table.Table.{Table}

abbrev pub about : (w : ℕ) → Table w → State
about w t = state t.graph.now

-- Has row i the vertex x?
abbrev pub cells : (w : ℕ) → Table w → ℕ → ℕ → Bool
cells w t i x = cell t.rows.now w i x

-- The rows of a have become those that f says.
pub record Becomes (w : ℕ) (a b : Table w) (f : ℕ → ℕ → Bool) : Type 0 where
  pub graph : b.graph ≡ a.graph
  pub cells : (i x : ℕ) → cells w b i x ≡ f i x

-- Is row i for a right from `first` on and below `end`?
abbrev pub of_rights : ℕ → ℕ → ℕ → Bool
of_rights first end i = nat_le first (i % 8) && nat_lt (i % 8) end

-- Is row i for take or grant?
abbrev pub of_links : ℕ → Bool
of_links i = nat_lt (i % 8) 2

-- The cells of h that p picks in the rows to vertices that are there, added.
abbrev pub placed : State → (ℕ → ℕ → Bool) → (ℕ → ℕ → Bool) → (ℕ → ℕ → Bool) → ℕ → ℕ → Bool
placed s p h was i x = was i x || ((p i x && nat_lt (i / 8) s.size) && h i x)

-- Who has what, added to the cells that p picks.
abbrev pub added : State → (ℕ → ℕ → Bool) → (ℕ → ℕ → Bool) → ℕ → ℕ → Bool
added s p was i x = was i x || (p i x && has_row s i x)

-- What those of a set have of the rights that are no links, added.
abbrev pub lacking : State → (ℕ → Bool) → (ℕ → ℕ → Bool) → ℕ → ℕ → Bool
lacking s set was = added s (λ i x. not (of_links i) && set x) was

-- What a block that was turned round says in the table: bit j of word c in its row k is for the vertex 64 c + k.
abbrev pub block_row : (ℕ → ℕ → Bool) → ℕ → ℕ → Bool
block_row block i x = block (i / 8 % 64) (64 * (i / 8 / 64) + x % 64)

-- The numbers that word c of a set has.
abbrev pub in_word : ℕ → ℕ → ℕ → Bool
in_word c w y = y / 64 == c && bit w (y % 64)
