-- Tables of steps from vertex to vertex.
use Rattle.std.specs.Prelude.{◌≡◌, ℕ, ◌<◌, Bool, T, List, take}
use Rattle.bits.specs.Sets.{holds, in_row, VertexSet}
use Rattle.model.specs.Closure.{within}
use Rattle.witness.specs.declared.layer.Layer.{Layer}
use Rattle.witness.specs.declared.row.Row.{Row}

-- Steps are only between vertices.
abbrev pub Fits : ℕ → List VertexSet → Type 0
Fits n table = (x z : ℕ) → T (in_row table x z) → (x < n) × (z < n)

-- The vertices behind the first one of a row.
abbrev pub row_vertices : Row → List ℕ
row_vertices r = take r.len r.vertices

-- The steps of a table that was turned round.
abbrev pub turned : List VertexSet → ℕ → ℕ → Bool
turned back x z = in_row back z x

-- The layer of k steps round y: `near` is from where at most k lead there, and all that leads to one of it is near too, but for what leads to one of `fresh`.
pub record IsLayer (n : ℕ) (back : List VertexSet) (y k : ℕ) (layer : Layer) : Type 0 where
  pub last : (z : ℕ) → holds layer.near z ≡ within k n (turned back) z y
  pub found : (z : ℕ) → T (holds layer.fresh z) → T (holds layer.near z)
  pub done : (x z : ℕ) → T (holds layer.near z) → (T (holds layer.fresh z) → ⊥) → T (turned back x z) → T (holds layer.near x)
