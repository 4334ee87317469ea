use Rattle.std.proofs.Common.{◌≡◌, not, is_some, sym, ap, ◌∙◌, ap₂, add-one, arith, rules}
use Rattle.bits.specs.Sets.{holds}
use Rattle.model.proofs.Tests.{from_true}
use Rattle.model.proofs.Laws.{right_shows_never}
use Rattle.graph.specs.Graphs.{state}
use Rattle.graph.proofs.Sound.{well_formed-law}
use Rattle.checker.specs.First.{first_below}
use Rattle.checker.specs.FirstFault.{first_fault}
use Rattle.checker.specs.Looking.{certificate, looked_below, found_then}
use Rattle.checker.proofs.Exact.{exact}
use Rattle.checker.proofs.certificate.Certificate.first_fault.Goals as goal

pub loop-p-preserved : goal.loop-p-preserved
unfolding first_below
loop-p-preserved c =
    let all = looked_below (state c.args.graph.now) (holds c.args.claim.now.holders) c.args.claim.now.right (holds c.args.claim.now.targets) (certificate c.args.self.now) in
    c.seen-looked.ensures ∙ (ap₂ found_then c.loop-p.invariant c.at.ensures ∙ ap all (sym (add-one c.loop-p.p)))

pub returns : goal.returns
unfolding first_fault
returns c =
    let s = state c.args.graph.now in
    let X = holds c.args.claim.now.holders in
    let r = c.args.claim.now.right in
    let Y = holds c.args.claim.now.targets in
    let sets = certificate c.args.self.now in
    let all : c.loop-p.p ≡ s.size = omega (arith, c.size-p-end.ensures.value) in
    let value : c.first.result ≡ first_fault s X r Y sets = search rules in
    let right = ap (λ o. not (is_some o)) value ∙ sym (exact s X r Y sets) in
    record {
      right = right;
      never = λ none x y hx hy mx my.
          (right_shows_never s (well_formed-law c.args.graph.now) X r Y sets (from_true _ (sym right ∙ ap not none)) x y hx hy mx my).never;
      value = value;
    }
