use Rattle.std.proofs.Common.{◌≡◌, ℕ, T, ◌<◌, ◌&&◌, ◌||◌, eqb, ltb, eqb→eq, ap, ◌∙◌, ap₂, rules, arith}
use Rattle.bits.specs.Sets.{holds}
use Rattle.graph.proofs.Sound.{holder_below, few_vertices}
use Rattle.model.specs.Spans.{can_grant}
use Rattle.spans.specs.Of.{spanned}
use Rattle.spans.specs.Paths.{path_from}
use Rattle.spans.proofs.Entered.{all_below_agree}
use Rattle.spans.proofs.Resized.{within}
use Rattle.spans.proofs.Spanning.{back_from_is}
use Rattle.spans.proofs.paths.TakePaths.back_from.Goals as goal

pub returns : goal.returns
returns c =
    let s = spanned c.args.self.now in
    let g = c.args.self.now.graph.now in
    let x = c.args.x in
    let n : c.size.result ≡ s.size = c.size.ensures.value in
    let bound : (v : ℕ) → T (can_grant s v x) → v < s.size = λ v t. holder_below g v 1 x t in
    let givers : (u : ℕ) → holds c.those-givers.result u ≡ can_grant s u x =
    all_below_agree c.size.result (holds c.those-givers.result) (λ v. can_grant s v x) c.those-givers.ensures.below
    (λ v t. let h = bound v t in omega (arith, n)) (λ v l. let test = c.those-givers.ensures.tested v l in search rules)
    in
    let one : (q : ℕ) → holds c.only.result q ≡ eqb q x =
    λ q. c.only.ensures q ∙ ap (λ y. ltb q 256 && eqb q y) c.from.ensures ∙ within q 256 (eqb q x) (λ t. let e = eqb→eq q x t in omega arith)
    in
    let some = c.united.ensures (λ u q. path_from s q u) (λ u set t told q. search rules) in
    record {
      value = λ q.
          c.union.ensures q ∙ ap₂ (λ a b. a || b) (some q) (one q)
          ∙ back_from_is s x (holds c.those-givers.result) (let few = few_vertices g in omega arith) givers bound q;
    }
