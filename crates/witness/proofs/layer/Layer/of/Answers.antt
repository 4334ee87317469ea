use Rattle.std.proofs.Common.{◌≡◌, ℕ, ◌&&◌, eqb, nat_lt, refl, ◌∙◌, arith}
use Rattle.std.proofs.lemmas.Bool.Decides.{nat_tests}
use Rattle.witness.proofs.Layers.{layer_none}
use Rattle.witness.proofs.layer.Layer.of.Goals as goal

pub returns : goal.returns
returns c n back = layer_none n back c.args.y _ refl (λ z. c.only-near.ensures z ∙ alone z)
  where
    alone : (z : ℕ) → (nat_lt z 256 && eqb z c.from.result) ≡ eqb z c.args.y
    alone z = grind (arith, nat_tests, c.ranges.y, c.from.ensures)
