-- The barrier round a vertex.
use Rattle.std.specs.Prelude.{◌≡◌, ℕ}
use Rattle.bits.specs.Sets.{holds}
use Rattle.model.specs.Bounded.{only}
use Rattle.model.specs.Certificates.{inner_of, out_of, into_of}
use Rattle.model.specs.State.{State}
use Rattle.spans.specs.declared.barrier.Barrier.{Barrier}

-- The barrier round x: the three sets of the certificate of a no.
pub record Round (s : State) (x : ℕ) (b : Barrier) : Type 0 where
  pub inner : (k : ℕ) → holds b.inner k ≡ inner_of s (only x) k
  pub out : (k : ℕ) → holds b.out k ≡ out_of s (only x) k
  pub into : (k : ℕ) → holds b.into k ≡ into_of s (only x) k
