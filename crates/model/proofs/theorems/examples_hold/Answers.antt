use Rattle.model.proofs.theorems.examples_hold.Goals as goal
use Rattle.model.proofs.Examples.{worked_examples, taking_alone_refuted, objects_acting_refuted, given_by_holder_refuted, by_takes_fooled}
use Rattle.model.proofs.Laws.{objects_are_granted}

pub returns : goal.returns
returns c =
    record {
      table = worked_examples;
      granted = objects_are_granted;
      taking_alone = taking_alone_refuted;
      objects_acting = objects_acting_refuted;
      given_by_holder = given_by_holder_refuted;
      takes_alone = by_takes_fooled;
    }
