use Rattle.std.proofs.Common.{not, ◌&&◌, ap, ◌∙◌, arith}
use Rattle.std.proofs.lemmas.Bool.Decides.{nat_tests}
use Rattle.bits.specs.Sets.{holds}
use Rattle.graph.proofs.Sound.{well_formed-law, few_vertices, only_subjects}
use Rattle.changing.specs.Of.{tracked}
use Rattle.changing.proofs.Tested.{holds_below}
use Rattle.changing.proofs.Searching.{searching_none, searching_more, found_out, fewer_left, none_fresh}
use Rattle.changing.proofs.kept.ChangingGraph.out_of.Goals as goal

pub loop-entries-init : goal.loop-entries-init
loop-entries-init c =
    let g = c.args.self.now.graph in
    searching_none (tracked c.args.self.now) (well_formed-law g) (few_vertices g) c.args.x (holds c.empty-out.result) (holds c.givers-entries.result)
    (holds c.only.result) c.empty-out.ensures
    (λ p. let one = c.only.ensures p in let x = c.from.ensures in let fits = c.ranges.x.fits in grind (arith, nat_tests)) c.givers-entries.ensures.value

pub returns-then-is_empty : goal.returns-then-is_empty
returns-then-is_empty c =
    let g = c.args.self.now.graph in
    let out = holds c.loop-entries.out in
    record {
      value =
          found_out (tracked c.args.self.now) (well_formed-law g) (few_vertices g) c.args.x out (holds c.loop-entries.entries) (holds c.difference-others.result)
          (holds c.reached.result) (holds c.difference-fresh.result) c.loop-entries.invariant
          (λ q. c.difference-others.ensures q ∙ ap (λ b. b && not (out q)) (c.subjects.ensures.value q ∙ only_subjects g q))
          c.reached.ensures.value c.difference-fresh.ensures
          (none_fresh (holds c.difference-fresh.result) (holds_below c.difference-fresh.result) c.if-is_empty.ensures);
    }

pub loop-entries-smaller : goal.loop-entries-smaller
loop-entries-smaller c =
    fewer_left (holds c.loop-entries.out) (holds c.reached.result) (holds c.difference-fresh.result) (holds c.add.new.self)
    c.difference-fresh.ensures c.add.ensures c.if-is_empty.ensures

pub loop-entries-preserved : goal.loop-entries-preserved
loop-entries-preserved c =
    let g = c.args.self.now.graph in
    let out = holds c.loop-entries.out in
    searching_more (tracked c.args.self.now) (well_formed-law g) (few_vertices g) c.args.x out (holds c.loop-entries.entries) (holds c.difference-others.result)
    (holds c.reached.result) (holds c.difference-fresh.result) c.loop-entries.invariant
    (λ q. c.difference-others.ensures q ∙ ap (λ b. b && not (out q)) (c.subjects.ensures.value q ∙ only_subjects g q))
    c.reached.ensures.value c.difference-fresh.ensures (holds c.add.new.self) (holds c.add-in-loop-entries.new.self) (holds c.beside.result)
    c.add.ensures c.beside.ensures.value c.add-in-loop-entries.ensures
