-- The bytes of books: a kind, the number of vertices, who of them acts as bits, and for each vertex its rights.
use Rattle.std.specs.Prelude.{ℕ, zero, suc, ◌+◌, ◌-◌, ◌*◌, ◌^◌, Bool, cond, ◌&&◌, List, take, drop, Ok, Err, Result, ◌==◌, nat_le, nat_lt}
use Rattle.bits.specs.Sets.{holds, in_bytes, VertexSet}
use Rattle.model.specs.State.{State}
use Rattle.model.specs.Rules.{given}
use Rattle.graph.specs.Graphs.{bare, state}
use Rattle.graph.specs.declared.graph.Graph.{Graph}
use Rattle.codec.specs.declared.fault.Fault.{Fault}
use Rattle.codec.specs.declared.fault.Fault.TheVariants.{UnknownKind, OutOfRange, NotRising}
use Rattle.codec.specs.declared.book.Layout.{Layout}
use Rattle.codec.specs.declared.book.Layout.TheVariants.{Narrow, Wide}
use Rattle.model.specs.declared.Held.{Held}
use Rattle.codec.specs.declared.reader.Reader.{Reader}
use Rattle.codec.specs.Reading.{Read, ◌then◌, onward, byte_at, below_at, count_at}

-- The first byte of each layout, the least and the most vertices that it has, and how many bytes say who acts.
abbrev pub layout_kind : Layout → ℕ
layout_kind Narrow = 1
layout_kind Wide = 7

abbrev pub least_size : Layout → ℕ
least_size Narrow = 1
least_size Wide = 129

abbrev pub most_size : Layout → ℕ
most_size Narrow = 128
most_size Wide = 255

abbrev pub set_width : Layout → ℕ
set_width Narrow = 16
set_width Wide = 32

abbrev pub layout_at : List ℕ → ℕ → Read Layout
layout_at bs at =
    byte_at bs at then λ kind next.
    cond (kind == 1) (Ok (Narrow, next)) (cond (kind == 7) (Ok (Wide, next)) (Err (UnknownKind at)))

abbrev pub size_at : List ℕ → Layout → ℕ → Read ℕ
size_at bs l at =
    byte_at bs at then λ n next. cond (nat_le (least_size l) n && nat_le n (most_size l)) (Ok (n, next)) (Err (OutOfRange at))

-- The offset behind a byte of a set that w more follow, if it names only vertices below n.
abbrev pub set_byte_at : List ℕ → ℕ → ℕ → ℕ → Result ℕ Fault
set_byte_at bs n w at = onward (byte_at bs at) λ b. cond (nat_lt b.0 (2 ^ (n - 8 * w))) (Ok b.1) (Err (OutOfRange at))

-- The offset behind a set of w bytes.
unfoldable pub end_of_set : List ℕ → ℕ → ℕ → ℕ → Result ℕ Fault
end_of_set bs n zero at = Ok at
end_of_set bs n (suc w) at = onward (set_byte_at bs n w at) (end_of_set bs n w)

abbrev pub subjects_at : List ℕ → ℕ → ℕ → ℕ → Read (ℕ → Bool)
subjects_at bs n w at = onward (end_of_set bs n w at) λ next. Ok (in_bytes (take w (drop at bs)), next)

-- One right to one vertex, none lower than `least`: first by the right, and then by the vertex.
abbrev pub held_at : List ℕ → ℕ → Held → ℕ → Read Held
held_at bs n least at =
    below_at bs at 8 then λ r middle.
    cond (nat_lt r least.right) (Err (NotRising at))
    (below_at bs middle n then λ q next.
    cond (r == least.right && nat_lt q least.to) (Err (NotRising middle)) (Ok (record { right = r; to = q }, next)))

abbrev pub first : Held
first = record { right = 0; to = 0 }

abbrev pub past : Held → Held
past h = record { right = h.right; to = h.to + 1 }

-- So many rights of vertex p, given to it in the state so far.
unfoldable pub rights_at : List ℕ → ℕ → ℕ → ℕ → Held → ℕ → State → Read State
rights_at bs n p zero least at s = Ok (s, at)
rights_at bs n p (suc count) least at s =
    held_at bs n least at then λ h next. rights_at bs n p count (past h) next (given p h.right h.to s)

-- The rights of m vertices from p on.
unfoldable pub vertices_at : List ℕ → ℕ → ℕ → ℕ → ℕ → State → Read State
vertices_at bs n p zero at s = Ok (s, at)
vertices_at bs n p (suc m) at s =
    count_at bs at then λ count next.
    rights_at bs n p count first next s then λ t after. vertices_at bs n (p + 1) m after t

-- A book, and the offset behind it.
unfoldable pub book_at : List ℕ → Read State
book_at bs =
    layout_at bs 0 then λ l at1.
    size_at bs l at1 then λ n at2.
    subjects_at bs n (set_width l) at2 then λ subjects at3. vertices_at bs n 0 n at3 (bare n subjects)

-- Who is named by a set that was read.
abbrev pub read_set : Result VertexSet Fault → Result (ℕ → Bool) Fault
read_set (Ok set) = Ok (holds set)
read_set (Err f) = Err f

-- The state that was read into a graph, and the offset behind its book.
abbrev pub read_state : Result (Graph × Reader) Fault → Read State
read_state (Ok p) = Ok (state p.0, p.1.at)
read_state (Err f) = Err f
