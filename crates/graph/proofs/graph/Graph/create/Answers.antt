use Rattle.std.proofs.Common.{true, false, sym, refl, ap, ◌∙◌, ap₂, arith, rules, eq-eqb, ne_eqb}
use borrow.Author.Tests.{both_ways}
use Rattle.model.specs.declared.Rule.TheVariants.{Create}
use Rattle.graph.specs.Graphs.{state, gifted}
use Rattle.graph.proofs.Created.{created_is}
use Rattle.graph.proofs.Sound.{create_there, holder_below, target_below, answered}
use Rattle.graph.proofs.graph.Graph.create.Goals as goal

pub returns-then-new : goal.returns-then-new
returns-then-new c =
    record {
      value = answered c.args.self.now (Create c.args.c) c.requires true (eq-eqb (state c.args.self.now).size 255 (sym c.size-new.ensures.value ∙ c.if-new.true));
      after = refl;
      same = λ e. refl;
    }

pub give_all-requires : goal.give_all-requires
give_all-requires c =
    let l = create_there c.args.self.now (Create c.args.c) c.requires c.args.c refl in
    let e = ap (λ s. s.size) c.grow.ensures.after in
    (omega (arith, l, e), omega (arith, e, c.size-new.ensures.value))

pub returns : goal.returns
returns c =
    record {
      value = answered c.args.self.now (Create c.args.c) c.requires false (ne_eqb (state c.args.self.now).size 255 (λ e. c.if-new.false (c.size-new.ensures.value ∙ e)));
      after =
          c.give_all.ensures.after ∙
          (ap₂ (λ n s. gifted c.args.c.who c.args.c.rights n 8 s) c.size-new.ensures.value c.grow.ensures.after ∙
          created_is c.args.c.who c.args.c.rights c.args.c.subject (state c.args.self.now) (search rules)
          (λ x k y t. (holder_below c.args.self.now x k y t, target_below c.args.self.now x k y t)));
      same = λ e. absurd (both_ways true e refl);
    }
