use Rattle.std.proofs.Common.{sym, arith}
use Rattle.bits.specs.Sets.{holds}
use Rattle.model.proofs.ExactChoices.{lowest_is, lowest_none}
use Rattle.model.proofs.Tests.{from_false, from_true}
use Rattle.witness.proofs.choose.lowest_of.Goals as goal

pub returns-in-Some : goal.returns-in-Some
returns-in-Some c =
    sym (lowest_is c.args.size (holds c.args.set.now) c.in-Some.v (omega arith) (from_true _ c.in-Some.ensures.0) (λ j l. from_false _ (c.in-Some.ensures.1 j l)))

pub returns-in_default : goal.returns-in_default
returns-in_default c =
    sym (lowest_none c.args.size (holds c.args.set.now) (λ j h. from_false _ (c.in-Some.ensures.1 j (omega arith))))

pub returns-in_default-2 : goal.returns-in_default-2
returns-in_default-2 c = let none = c.in_default.ensures in sym (lowest_none c.args.size (holds c.args.set.now) (λ j _. from_false _ (none j)))
