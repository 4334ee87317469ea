use Rattle.std.proofs.Common.{◌≡◌, ℕ, Bool, T}
use Rattle.bits.specs.Members.{left}
use Rattle.bits.specs.Sets.{VertexSet, holds}
use Rattle.bits.proofs.Gathered.{Gathered}
use Rattle.bits.proofs.select.united.Given as goal

abbrev pub invariant-loop-v : goal.invariant-loop-v
invariant-loop-v g l =
    (rows : ℕ → ℕ → Bool) → ((v : ℕ) (s : VertexSet) → T (holds l.set v) → goal.F-post g l.of v s → (k : ℕ) → holds s k ≡ rows v k) →
    Gathered (holds l.set) rows (holds l.all) (holds (left l.v-iterator))
