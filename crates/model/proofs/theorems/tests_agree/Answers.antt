use Rattle.model.proofs.theorems.tests_agree.Goals as goal
use Rattle.model.proofs.Laws.{paths_agree, bridges_agree, connected_agrees, initial_agrees, terminal_agrees, getting_agrees, sharing_agrees}

pub returns : goal.returns
returns c =
    record {
      paths = paths_agree;
      bridges = bridges_agree;
      rows = connected_agrees;
      initial = initial_agrees;
      terminal = terminal_agrees;
      getting = getting_agrees;
      sharing = sharing_agrees;
    }
