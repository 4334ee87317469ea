use Rattle.std.proofs.Common.{◌≡◌, ℕ, ◌<◌, ◌&&◌, T, sym, ap, ◌∙◌, subst, ap₂, arith, rules}
use mathlib.Core.Path.{fun_ext}
use Rattle.bits.specs.Sets.{holds, VertexSet}
use Rattle.graph.proofs.Sound.{well_formed-law}
use Rattle.model.specs.Bounded.{only}
use Rattle.model.specs.Certificates.{out_of}
use Rattle.model.specs.Exact.{lowest, last_for}
use Rattle.model.specs.declared.Question.{Question}
use Rattle.model.proofs.ExactChoices.{lowest_is}
use Rattle.model.proofs.Tests.{from_true, from_false, is_false, parts, some_below-law, some_from}
use Rattle.spans.specs.Of.{linked}
use Rattle.witness.specs.declared.routes.Routes.{Routes}
use Rattle.witness.specs.Of.{routed}
use Rattle.witness.proofs.Choosing.{get_is, holder_is}
use Rattle.witness.proofs.Same.{rounded}
use Rattle.witness.proofs.Tabled.{agreed}
use Rattle.witness.proofs.ends.Ends.of.Goals as goal

-- Who has the right, of those that the barrier leads to.
chosen :
    (r : Routes) (q : Question) (n : ℕ) → n ≡ (routed r).size → (found out both : VertexSet) → ((t : ℕ) → T (holds found t) → t < n) →
    ((t : ℕ) → t < n → holds found t ≡ (routed r).has t q.right q.target) → ((t : ℕ) → holds out t ≡ out_of (linked r.links) (only q.holder) t) →
    ((t : ℕ) → holds both t ≡ (holds found t && holds out t)) → (t : ℕ) → holds both t ≡ ((routed r).has t q.right q.target && out_of (routed r) (only q.holder) t)
chosen r q n size found out both below tested leads meet t =
    let has = λ (t : ℕ). (routed r).has t q.right q.target in
    meet t
    ∙ ap₂ (λ a b. a && b) (agreed n (holds found) has below (λ t h. let l = (well_formed-law r.graph.now).holder t q.right q.target h in omega arith) tested t)
    (leads t ∙ ap (λ z. out_of z (only q.holder) t) r.same_links)

pub returns-in_default : goal.returns-in_default
returns-in_default c =
    let routes = c.args.routes.now in
    let s = routed routes in
    let q = c.args.question in
    let b = c.barrier-barrier.ensures in
    let reached = chosen routes q c.size.result c.size.ensures.value c.those-holders.result c.barrier-barrier.result.out c.intersection-reached.result
    c.those-holders.ensures.below (λ t l. let test = c.those-holders.ensures.tested t l in search rules) b.out c.intersection-reached.ensures in
    record {
      cases = (
        get_is s (well_formed-law routes.graph.now) q.holder q.right q.target
            ∙ is_false _ (λ h. let k = some_below-law s.size _ h in from_false _ (sym (reached k.at) ∙ c.in_default.ensures k.at) k.passes),
        rounded routes q.holder c.barrier-barrier.result b.inner b.out b.into,
      );
    }

pub returns : goal.returns
returns c =
    let routes = c.args.routes.now in
    let s = routed routes in
    let wf = well_formed-law routes.graph.now in
    let q = c.args.question in
    let v = c.in-Some.holder in
    let reached = chosen routes q c.size.result c.size.ensures.value c.those-holders.result c.barrier-barrier.result.out c.intersection-reached.result
    c.those-holders.ensures.below (λ t l. let test = c.those-holders.ensures.tested t l in search rules) c.barrier-barrier.ensures.out c.intersection-reached.ensures in
    let passes = from_true _ (sym (reached v) ∙ c.in-Some.ensures.0) in
    let below = wf.holder v q.right q.target (parts (s.has v q.right q.target) _ passes).0 in
    record {
      cases =
          record {
            gets = subst T (sym (get_is s wf q.holder q.right q.target)) (some_from s.size _ v below passes);
            holder =
                c.over.ensures.holder
                ∙ sym (lowest_is s.size (holds c.intersection-reached.result) v below (from_true _ c.in-Some.ensures.0) (λ j l. from_false _ (c.in-Some.ensures.1 j l)))
                ∙ ap (lowest s.size) (fun_ext reached)
                ∙ holder_is s wf q.holder q.right q.target;
            last = c.over.ensures.last ∙ ap (last_for s q.holder) (sym c.over.ensures.holder);
            first = c.over.ensures.first;
          };
    }
