use Rattle.std.proofs.Common.{refl}
use Rattle.model.specs.declared.Rule.TheVariants.{Take, Grant, Remove}
use Rattle.graph.proofs.Sound.{take_there, grant_there, done}
use Rattle.graph.proofs.graph.Graph.apply.Goals as goal

pub add-requires : goal.add-requires
add-requires c = take_there c.args.self.now c.args.rule c.if-not-is_entitled.ensures.value c.in-Take.t c.in-Take.is

pub add-requires-in-Grant : goal.add-requires-in-Grant
add-requires-in-Grant c = grant_there c.args.self.now c.args.rule c.if-not-is_entitled.ensures.value c.in-Grant.g c.in-Grant.is

pub returns-in-Take-clause-value : goal.returns-in-Take-clause-value
returns-in-Take-clause-value c =
    done c.args.self.now c.args.rule c.if-not-is_entitled.ensures.value (Take c.in-Take.t) c.in-Take.is refl

pub returns-in-Grant-clause-value : goal.returns-in-Grant-clause-value
returns-in-Grant-clause-value c =
    done c.args.self.now c.args.rule c.if-not-is_entitled.ensures.value (Grant c.in-Grant.g) c.in-Grant.is refl

pub returns-in-Remove-clause-value : goal.returns-in-Remove-clause-value
returns-in-Remove-clause-value c =
    done c.args.self.now c.args.rule c.if-not-is_entitled.ensures.value (Remove c.in-Remove.d) c.in-Remove.is refl
