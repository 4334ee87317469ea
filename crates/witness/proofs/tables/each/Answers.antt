use Rattle.std.proofs.Common.{get_or, refl, ap, ◌∙◌, rules, arith}
use Rattle.std.proofs.lemmas.List.{get_or_past}
use Rattle.bits.specs.Sets.{holds, in_row, none}
use Rattle.bits.proofs.Holds.{holds_none}
use Rattle.witness.proofs.Tabled.{made_each}
use Rattle.witness.proofs.tables.each.Goals as goal

pub returns : goal.returns
unfolding in_row
returns g c = record {
  rows = λ p h. (
    get_or c.from_fn.result p none,
    made_each _ (λ i row. goal.F-post g c.args.row i row) _ (λ i row f' k. (search (rules, k.met), search (rules, k.met)))
        c.from_fn.result none 256 c.from_fn.ensures.items p h,
    λ q. refl,
  );
  past = λ p q h. ap (λ s. holds s q) (get_or_past c.from_fn.result p none (omega (arith, c.from_fn.ensures.items.long))) ∙ holds_none q;
}
