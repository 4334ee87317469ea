use Rattle.model.proofs.theorems.rules_make_nothing_new.Goals as goal
use Rattle.model.proofs.NothingNew.{step_shared, step_got, nothing_shared, nothing_got, adding_shared, adding_got, removal_shared, removal_got}
use Rattle.model.proofs.NothingNew.{restricted_shared, restricted_got}
use Rattle.model.proofs.Steps.{after_well}
use Rattle.model.proofs.Changes.{step_path}

pub returns : goal.returns
returns c =
    record {
      kept = after_well;
      shared = step_shared;
      got = step_got;
      shared_after = nothing_shared;
      got_after = nothing_got;
      adding_shared = adding_shared;
      adding_got = adding_got;
      removing_shared = removal_shared;
      removing_got = removal_got;
      retiring_shared = restricted_shared;
      retiring_got = restricted_got;
      paths = step_path;
    }
