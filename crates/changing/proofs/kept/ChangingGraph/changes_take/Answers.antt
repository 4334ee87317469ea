use Rattle.std.proofs.Common.{sym, ap, ◌∙◌}
use Rattle.changing.specs.Of.{tracked}
use Rattle.changing.specs.Renewed.{changes_take}
use Rattle.changing.proofs.kept.ChangingGraph.changes_take.Goals as goal

pub returns-in-Create : goal.returns-in-Create
returns-in-Create c =
    record { value = c.has_bit.ensures ∙ ap (changes_take (tracked c.args.self.now)) (sym c.in-Create.is) }
