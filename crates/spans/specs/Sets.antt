-- Tables with a set for each vertex.
use Rattle.std.specs.Prelude.{ℕ, Bool, List, [], slice_index_or}
use Rattle.bits.specs.Sets.{among}
use Rattle.bits.specs.declared.set.BitSet.{BitSet}

-- Is k in set y? Of four words it is graph's `in_row`, a name that hides the width where there is but one.
unfoldable pub in_sets : {w : ℕ} → List (BitSet w) → ℕ → ℕ → Bool
in_sets {w} sets y k = among w (slice_index_or sets y (record { words = [] })) k
