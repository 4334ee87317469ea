use Rattle.bits.specs.Sets.{holds}
use Rattle.graph.specs.Graphs.{state}
use Rattle.graph.proofs.Sound.{well_formed-law, few_vertices}
use Rattle.changing.specs.Rows.{in_rows}
use Rattle.changing.proofs.Applied.{Renewing, take_led, grant_led, create_led, create_kept, removed_there, remove_shut, remove_led, remove_kept}
use Rattle.changing.proofs.kept.ChangingGraph.apply.Goals as goal
use Rattle.changing.proofs.kept.ChangingGraph.apply.Goals.{In_ok-apply}

-- What is known once the graph has the rule.
renewing : (c : In_ok-apply) → Renewing (state c.args.self.now.graph) (state c.apply.new.self) c.args.rule (holds c.to_renew-renewed.result) (in_rows c.args.self.now.rows)
renewing c =
    record {
      formed = well_formed-law c.args.self.now.graph;
      few = few_vertices c.args.self.now.graph;
      led = c.args.self.now.led;
      is = c.to_renew-renewed.ensures.value;
      done = c.in_ok-apply.ensures.value;
      after = c.in_ok-apply.ensures.after;
    }

pub invariant_of-self-in-Take : goal.invariant_of-self-in-Take
invariant_of-self-in-Take c =
    record { led = take_led (renewing (goal.at.invariant_of-self-in-Take c).In_ok-apply) c.in-Take.t c.in-Take.is _ c.unite_each.ensures }

pub invariant_of-self-in-Grant : goal.invariant_of-self-in-Grant
invariant_of-self-in-Grant c =
    record { led = grant_led (renewing (goal.at.invariant_of-self-in-Grant c).In_ok-apply) c.in-Grant.g c.in-Grant.is _ c.unite_each-in-Grant.ensures }

pub invariant_of-self-in-Create : goal.invariant_of-self-in-Create
invariant_of-self-in-Create c =
    record {
      led =
          create_led (renewing (goal.at.invariant_of-self-in-Create c).In_ok-apply) c.in-Create.field-0 c.in-Create.is c.size-new.result c.size-new.ensures.value
          c.insert.ensures c.unite_each-in-Create.ensures;
    }

pub begin_each-requires : goal.begin_each-requires
begin_each-requires c = removed_there (renewing (goal.at.begin_each-requires c).In_ok-apply) c.in-Remove.field-0 c.in-Remove.is

pub close_each-requires : goal.close_each-requires
close_each-requires c = remove_shut (renewing (goal.at.close_each-requires c).In_ok-apply) c.in-Remove.field-0 c.in-Remove.is c.begin_each.ensures

pub invariant_of-self-in-Remove : goal.invariant_of-self-in-Remove
invariant_of-self-in-Remove c =
    record {
      led =
          remove_led (renewing (goal.at.invariant_of-self-in-Remove c).In_ok-apply) c.in-Remove.field-0 c.in-Remove.is c.begin_each.ensures c.size-new.result
          c.close_each.ensures c.size-new.ensures.value;
    }

pub returns-in-Create-clause-kept : goal.returns-in-Create-clause-kept
returns-in-Create-clause-kept c =
    create_kept (renewing (goal.at.returns-in-Create-clause-kept c).In_ok-apply) c.in-Create.field-0 c.in-Create.is c.size-new.result c.size-new.ensures.value
    c.insert.ensures c.unite_each-in-Create.ensures

pub returns-in-Remove-clause-kept : goal.returns-in-Remove-clause-kept
returns-in-Remove-clause-kept c =
    remove_kept (renewing (goal.at.returns-in-Remove-clause-kept c).In_ok-apply) c.in-Remove.field-0 c.in-Remove.is c.begin_each.ensures c.size-new.result
    c.close_each.ensures
