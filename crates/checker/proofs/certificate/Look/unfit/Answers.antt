use Rattle.std.proofs.Common.{◌≡◌, not, ◌&&◌, sym, ap, ◌∙◌}
use Rattle.model.proofs.Tests.{parts}
use Rattle.std.specs.Bool.{then_some}
use Rattle.bits.specs.Sets.{holds}
use Rattle.model.specs.State.{take_right, grant_right}
use Rattle.model.specs.Certificates.{take_fits, grant_fits}
use Rattle.graph.specs.Graphs.{state}
use Rattle.graph.proofs.Sound.{target_below}
use Rattle.checker.specs.First.{first_below}
use Rattle.checker.specs.FirstFault.{vertex_at, taking_at, grant_at}
use Rattle.checker.specs.Looking.{certificate}
use Rattle.checker.specs.declared.fault.CheckFault.TheVariants.{UnfitVertex}
use Rattle.checker.proofs.Conditions.{take_broken-law, grant_broken-law}
use Rattle.checker.proofs.certificate.Look.unfit.Goals as goal

vertex : (c : goal.After-or-2) → c.then_some.result ≡ vertex_at (state c.args.self.now.graph.now) (holds c.args.self.now.claim.now.holders) (certificate c.args.self.now.sets.now) c.args.p
vertex c =
    c.then_some.ensures ∙
    ap (λ b. then_some (not b) (UnfitVertex c.args.p)) (c.fits-fits.ensures ∙ c.standing.ensures)

takes : (c : goal.After-or-2) → c.first_right.result ≡ first_below (state c.args.self.now.graph.now).size (taking_at (state c.args.self.now.graph.now) (certificate c.args.self.now.sets.now) c.args.p)
takes c =
    let s = state c.args.self.now.graph.now in
    let sets = certificate c.args.self.now.sets.now in
    let p = c.args.p in
    c.first_right.ensures s.size (λ k. s.has p take_right k && not (take_fits sets p k))
    (λ k. take_broken-law s sets p k ∙ sym (c.unfit_takes.ensures k))
    (λ k t. target_below c.args.self.now.graph.now p take_right k (parts (s.has p take_right k) _ t).0)

grants : (c : goal.After-or-2) → c.first_right-2.result ≡ first_below (state c.args.self.now.graph.now).size (grant_at (state c.args.self.now.graph.now) (holds c.args.self.now.claim.now.holders) (certificate c.args.self.now.sets.now) c.args.p)
grants c =
    let s = state c.args.self.now.graph.now in
    let X = holds c.args.self.now.claim.now.holders in
    let sets = certificate c.args.self.now.sets.now in
    let p = c.args.p in
    c.first_right-2.ensures s.size (λ k. s.has p grant_right k && not (grant_fits X sets p k))
    (λ k. grant_broken-law s X sets p k ∙ sym (c.unfit_grants.ensures k))
    (λ k t. target_below c.args.self.now.graph.now p grant_right k (parts (s.has p grant_right k) _ t).0)

pub returns : goal.returns
returns c = rw (c.or-2.ensures, c.or.ensures, vertex c, takes c, grants c)
