-- The bytes of a book that stands for a state.
use Rattle.std.specs.Prelude.{◌≡◌, ℕ, zero, suc, ◌+◌, ◌/◌, ◌%◌, Bool, cond, List, [], ◌∷◌, ◌++◌, Result, OnOk, nat_le}
use Rattle.bits.specs.Sets.{set_bytes}
use Rattle.model.specs.Bounded.{count_below}
use Rattle.model.specs.State.{State}
use Rattle.codec.specs.declared.book.Layout.{Layout}
use Rattle.codec.specs.declared.book.Layout.TheVariants.{Narrow, Wide}
use Rattle.codec.specs.Books.{layout_kind, set_width}

-- Right r to each vertex below n that passes the test, in rising order.
unfoldable pub row_bytes : ℕ → (ℕ → Bool) → ℕ → List ℕ
row_bytes r f zero = []
row_bytes r f (suc n) = row_bytes r f n ++ cond (f n) (r ∷ n ∷ []) []

-- The rights below k of vertex p, in rising order, and how many they are.
unfoldable pub held_bytes : State → ℕ → ℕ → List ℕ
held_bytes s p zero = []
held_bytes s p (suc k) = held_bytes s p k ++ row_bytes k (s.has p k) s.size

unfoldable pub count_held : State → ℕ → ℕ → ℕ
count_held s p zero = 0
count_held s p (suc k) = count_held s p k + count_below s.size (s.has p k)

abbrev pub vertex_bytes : State → ℕ → List ℕ
vertex_bytes s p = count_held s p 8 / 256 ∷ count_held s p 8 % 256 ∷ held_bytes s p 8

-- The first m vertices.
unfoldable pub vertices_bytes : State → ℕ → List ℕ
vertices_bytes s zero = []
vertices_bytes s (suc m) = vertices_bytes s m ++ vertex_bytes s m

abbrev pub layout_of : ℕ → Layout
layout_of n = cond (nat_le n 128) Narrow Wide

-- The layout, the size, and who acts.
abbrev pub head_bytes : State → List ℕ
head_bytes s = layout_kind (layout_of s.size) ∷ s.size ∷ set_bytes (set_width (layout_of s.size)) s.subject

unfoldable pub book_bytes : State → List ℕ
book_bytes s = head_bytes s ++ vertices_bytes s s.size

-- These bytes were written behind what was there, unless memory ran out.
abbrev pub Appended : {E : Type 0} → Result (Unit {0}) E → List ℕ → List ℕ → List ℕ → Type 0
Appended r before after bs = OnOk r (after ≡ before ++ bs)
