use Rattle.model.proofs.theorems.certificates_decide.Goals as goal
use Rattle.model.proofs.Laws.{right_shows_never, no_is_certified, certificate_least, inner_are_subjects}
use Rattle.model.proofs.Least.{certificate_decides, get_by_out}

pub returns : goal.returns
returns c =
    record {
      shows = right_shows_never;
      certified = no_is_certified;
      decides = certificate_decides;
      least = certificate_least;
      got = get_by_out;
      inner = inner_are_subjects;
    }
