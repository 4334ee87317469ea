use Rattle.std.proofs.Common.{Ok, Err, OnOk, Result, rules}
use Rattle.answers.proofs.shared.with_sharing.Goals as goal

whichever : {A E : Type 0} (r : Result A E) (P : Type 0) → P → OnOk r P
whichever (Ok _) P p = p
whichever (Err _) P p = tt

pub returns : goal.returns
returns g c = whichever c.work.result _ (c.in-Some.sharing, c.in-Some.ensures.cases.1, search rules)
