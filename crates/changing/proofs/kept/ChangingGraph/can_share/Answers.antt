use Rattle.std.proofs.Common.{sym, ◌∙◌, arith}
use Rattle.bits.specs.Sets.{holds}
use Rattle.graph.proofs.Sound.{well_formed-law, few_vertices}
use Rattle.changing.specs.Of.{tracked}
use Rattle.changing.proofs.Shared.{shared_by_out, shared_past, shared_held}
use Rattle.changing.proofs.kept.ChangingGraph.can_share.Goals as goal

pub returns-then-q-size : goal.returns-then-q-size
returns-then-q-size c =
    let g = c.args.self.now.graph in
    let q = c.args.q in
    record {
      value = sym (shared_past (tracked c.args.self.now) (well_formed-law g) (few_vertices g) q.holder q.right q.target (omega (arith, c.size.ensures.value)));
    }

pub returns-then-has : goal.returns-then-has
returns-then-has c =
    let q = c.args.q in
    record { value = c.if-has.true ∙ shared_held (tracked c.args.self.now) q.holder q.right q.target c.if-has.ensures.value }

pub returns-else-has : goal.returns-else-has
returns-else-has c =
    let g = c.args.self.now.graph in
    let q = c.args.q in
    record {
      value =
          c.one_has.ensures.value
          ∙ shared_by_out (tracked c.args.self.now) (well_formed-law g) (few_vertices g) q.holder q.right q.target (holds c.out_of.result)
          (omega (arith, c.size.ensures.value)) c.if-has.ensures.value c.out_of.ensures.value;
    }
