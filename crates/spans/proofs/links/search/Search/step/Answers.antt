use Rattle.std.proofs.Common.{◌||◌, ap, ◌∙◌, ap₂, arith}
use Rattle.bits.specs.Sets.{among}
use Rattle.graph.proofs.Sound.{well_formed-law}
use Rattle.spans.specs.Viewed.{viewed}
use Rattle.spans.proofs.Search.{searching_out, searching_into}
use Rattle.spans.proofs.Fronts.{grown_seen, idle_seen, taken_there, taken_seen, unseen_same, fewer_unseen}
use Rattle.spans.proofs.links.search.Search.step.Goals as goal

pub invariant_of-self : goal.invariant_of-self
invariant_of-self g c =
    let w = g.row.V in
    let s = viewed c.args.self.now.view in
    let out = c.args.self.now.out in
    let into = c.args.self.now.into in
    let t = c.in-Some.ensures in
    record {
      searching =
          searching_out s (well_formed-law c.args.self.now.view.graph.now) c.args.self.now.from _ _ _ _ c.args.self.now.searching c.in-Some.p _ _ _ _
          (taken_there w out c.pop.new.self c.in-Some.p t).0
          (λ k. c.add.ensures.found k ∙ ap₂ (λ z b. among w z k || b) t.found (c.takes.ensures k))
          (λ k. c.add-in-Some.ensures.found k ∙ ap (λ b. among w into.found k || b) (c.beside.ensures k))
          (λ k. grown_seen w c.pop.new.self c.add.new.self _ c.add.ensures k ∙ taken_seen w out c.pop.new.self c.in-Some.p t k)
          (grown_seen w into c.add-in-Some.new.self _ c.add-in-Some.ensures);
    }

pub returns-in-Some-clause-fewer : goal.returns-in-Some-clause-fewer
returns-in-Some-clause-fewer g c = λ _.
    let w = g.row.V in
    let less = fewer_unseen w c.args.self.now.out c.pop.new.self c.add.new.self c.in-Some.p _ (omega arith) c.in-Some.ensures c.add.ensures in
    let other = unseen_same w c.args.self.now.into c.add-in-Some.new.self (grown_seen w c.args.self.now.into c.add-in-Some.new.self _ c.add-in-Some.ensures) in
    omega arith

pub invariant_of-self-in-Some-pop : goal.invariant_of-self-in-Some-pop
invariant_of-self-in-Some-pop g c =
    let w = g.row.V in
    let s = viewed c.args.self.now.view in
    let out = c.args.self.now.out in
    let into = c.args.self.now.into in
    let t = c.in-Some-pop.ensures in
    let idle = c.in_default.ensures in
    record {
      searching =
          searching_into s (well_formed-law c.args.self.now.view.graph.now) c.args.self.now.from _ _ _ _ c.args.self.now.searching c.in-Some-pop.p _ _ _ _
          (taken_there w into c.pop-in_default.new.self c.in-Some-pop.p t).0
          (λ k. c.add-in-Some-pop-2.ensures.found k ∙ ap₂ (λ z b. among w z k || b) idle.2 (c.itself.ensures k))
          (λ k. c.add-in-Some-pop.ensures.found k ∙ ap₂ (λ z b. among w z k || b) t.found (c.takers.ensures k))
          (λ k. grown_seen w c.pop.new.self c.add-in-Some-pop-2.new.self _ c.add-in-Some-pop-2.ensures k ∙ idle_seen w out c.pop.new.self idle.0 idle.1 idle.2 k)
          (λ k. grown_seen w c.pop-in_default.new.self c.add-in-Some-pop.new.self _ c.add-in-Some-pop.ensures k ∙ taken_seen w into c.pop-in_default.new.self c.in-Some-pop.p t k);
    }

pub returns-in-Some-pop-clause-fewer : goal.returns-in-Some-pop-clause-fewer
returns-in-Some-pop-clause-fewer g c = λ _.
    let w = g.row.V in
    let out = c.args.self.now.out in
    let idle = c.in_default.ensures in
    let less = fewer_unseen w c.args.self.now.into c.pop-in_default.new.self c.add-in-Some-pop.new.self c.in-Some-pop.p _ (omega arith) c.in-Some-pop.ensures c.add-in-Some-pop.ensures in
    let other = unseen_same w out c.add-in-Some-pop-2.new.self (λ k. grown_seen w c.pop.new.self c.add-in-Some-pop-2.new.self _ c.add-in-Some-pop-2.ensures k ∙ idle_seen w out c.pop.new.self idle.0 idle.1 idle.2 k) in
    omega arith
