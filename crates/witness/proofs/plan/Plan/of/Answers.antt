use Rattle.std.proofs.Common.{refl}
use Rattle.witness.specs.Plans.{acts_bytes, done, performable}
use Rattle.witness.proofs.plan.Plan.of.Goals as goal

pub returns : goal.returns
unfolding acts_bytes done performable
returns c was = record { about = refl; here = c.copy.ensures.value; reached = refl; performed = tt; bytes = refl; count = refl; written = refl }
