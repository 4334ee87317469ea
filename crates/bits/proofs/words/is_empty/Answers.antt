use Rattle.std.proofs.Common.{not, eqb, ◌∙◌, ap, sym, arith, rules, tests}
use Rattle.std.proofs.lemmas.Iterator.{YieldsList-from_slice}
use Rattle.std.proofs.lemmas.Iterator.Search.{all_from_yields_List}
use Rattle.model.specs.Bounded.{all_below}
use Rattle.bits.specs.Sets.{member}
use Rattle.bits.proofs.Below.{all_same}
use Rattle.bits.proofs.ByWord.{empty_words}
use Rattle.bits.proofs.words.is_empty.Goals as goal

pub returns : goal.returns
returns c n f e h =
    let ws = c.args.words.now in
    all_from_yields_List (λ w. eqb w 0) _ _ c.all.result c.all.ensures.ran (YieldsList-from_slice ws cc) (λ x b q k. search (rules, tests))
    ∙ empty_words ws (λ i. omega (arith, c.type_inv.words i))
    ∙ ap (λ m. all_below m (λ k. not (member ws k))) (sym e) ∙ all_same n (λ k. not (member ws k)) f (λ k l. sym (h k))
