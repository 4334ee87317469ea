use Rattle.std.proofs.Common.{◌≡◌, ℕ, ◌*◌, ◌<◌, Bool, true, false, ◌&&◌, T, ltb, ap, ◌∙◌, arith}
use Rattle.std.proofs.lemmas.Bool.{lt-ltb}
use Rattle.model.proofs.Tests.{is_false}
use Rattle.graph.specs.Graphs.{state}
use Rattle.graph.proofs.Rows.{width_covers}
use Rattle.graph.proofs.Sound.{few_vertices, target_below}
use Rattle.graph.proofs.graph.Graph.targets_in.Goals as goal

-- A test that says yes only below n.
within : (n k : ℕ) (b : Bool) → (T b → k < n) → (ltb k n && b) ≡ b
within n k true f = ap (λ t. t && true) (lt-ltb k n (f tt))
within n k false f = is_false (ltb k n && false) (λ t. law (ltb k n) t)
  where
    law : (a : Bool) → T (a && false) → ⊥
    law true t = t
    law false t = t

pub returns : goal.returns
returns g c =
    let t = c.args.self.now in
    record {
      value = λ k.
          c.resized.ensures k
          ∙ ap (λ b. ltb k (64 * g.row.W) && b) (c.targets.ensures.value k)
          ∙ within (64 * g.row.W) k _ (λ h. let l = target_below t c.args.p c.args.r k h in let room = width_covers (state t).size (few_vertices t) in omega (arith, c.requires));
    }
