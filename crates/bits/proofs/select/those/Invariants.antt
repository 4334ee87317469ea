use Rattle.std.proofs.Common.{ℕ, ◌<◌, T}
use Rattle.bits.specs.Sets.{holds}
use Rattle.bits.proofs.select.those.Given as goal

abbrev pub invariant-loop-v : goal.invariant-loop-v
invariant-loop-v g l = ((v : ℕ) → T (holds l.found v) → v < l.v) × ((v : ℕ) → v < l.v → goal.F-post g l.test v (holds l.found v))
