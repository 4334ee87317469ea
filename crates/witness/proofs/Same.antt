-- The links of routes are those of the routes' graph.
use Rattle.std.proofs.Common.{◌≡◌, ℕ, ap, ◌∙◌}
use Rattle.bits.specs.Sets.{holds}
use Rattle.model.specs.Bounded.{only}
use Rattle.model.specs.Certificates.{inner_of, into_of, out_of}
use Rattle.spans.specs.Of.{linked}
use Rattle.witness.specs.declared.routes.Routes.{Routes}
use Rattle.spans.specs.declared.barrier.Barrier.{Barrier}
use Rattle.spans.specs.Barriers.{Round}
use Rattle.witness.specs.Of.{routed}

-- The barrier that they tell round x is that of the routes.
pub rounded :
    (r : Routes) (x : ℕ) (b : Barrier) →
    ((k : ℕ) → holds b.inner k ≡ inner_of (linked r.links) (only x) k) →
    ((k : ℕ) → holds b.out k ≡ out_of (linked r.links) (only x) k) →
    ((k : ℕ) → holds b.into k ≡ into_of (linked r.links) (only x) k) →
    Round (routed r) x b
rounded r x b inner out into =
    record {
      inner = λ k. inner k ∙ ap (λ z. inner_of z (only x) k) r.same_links;
      out = λ k. out k ∙ ap (λ z. out_of z (only x) k) r.same_links;
      into = λ k. into k ∙ ap (λ z. into_of z (only x) k) r.same_links;
    }
