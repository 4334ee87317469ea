use Rattle.std.proofs.Common.{◌≡◌, ℕ, Bool, true, false, not, ◌&&◌, sym, refl, ap, ◌∙◌}
use Rattle.bits.specs.Sets.{among}
use Rattle.graph.proofs.Sound.{well_formed-law}
use Rattle.spans.specs.Viewed.{viewed}
use Rattle.spans.proofs.Search.{searching_none}
use Rattle.spans.proofs.links.search.Search.of.Goals as goal

apart : (b : Bool) → (b && not b) ≡ false
apart true = refl
apart false = refl

pub invariant_of-result : goal.invariant_of-result
invariant_of-result g c =
    let v = g.row.V in
    let none : (k : ℕ) → among v c.of.result.found k ≡ false = λ k. ap (λ z. among v z k) c.of.ensures.0 ∙ c.empty.ensures k in
    record {
      searching =
          searching_none (viewed c.args.view) (well_formed-law c.args.view.graph.now) c.args.from _ _ _ _ none
          (λ k. ap (λ b. b && not (among v c.of.result.left k)) (none k))
          (λ k. ap (λ z. among v c.of-2.result.found k && not (among v z k)) (c.of-2.ensures.1 ∙ sym c.of-2.ensures.0) ∙ apart (among v c.of-2.result.found k))
          (λ p. ap (λ z. among v z p) c.of-2.ensures.0 ∙ c.givers.ensures p);
    }
