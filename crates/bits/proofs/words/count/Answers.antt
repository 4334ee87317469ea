use Rattle.std.proofs.Common.{◌-◌, ◌^◌, ap, sym, ◌∙◌, arith, rules, tests}
use lib.Count.{ones}
use Rattle.std.proofs.lemmas.Iterator.{YieldsList-from_slice, YieldsList-from_map}
use Rattle.std.proofs.lemmas.Iterator.Consumers.{sum_by_from_yields_List, YieldsList-at}
use Rattle.std.proofs.lemmas.Iterator.Adapters.{fits_from_length, at_most_from_yields_List}
use Rattle.model.specs.Bounded.{count_below}
use Rattle.bits.specs.Sets.{member}
use Rattle.bits.proofs.Below.{count_same}
use Rattle.bits.proofs.ByWord.{count_words}
use Rattle.bits.proofs.words.count.Goals as goal

pub sum-requires-clause-fits : goal.sum-requires-clause-fits
sum-requires-clause-fits c =
    fits_from_length _ _ (2 ^ 58 - 1) _
    (at_most_from_yields_List (YieldsList-at c.map.ensures.source (YieldsList-from_slice c.args.words.now cc)) (omega arith))
    c.map.ensures.closure (omega arith) (λ x r q k. (search rules, search (rules, tests)))

pub returns : goal.returns
returns c n f e h =
    let ws = c.args.words.now in
    sum_by_from_yields_List ones ws c.map.result c.sum.result c.sum.ensures.ran
    (YieldsList-from_map _ ones (YieldsList-at c.map.ensures.source (YieldsList-from_slice ws cc)) c.map.ensures.closure (λ x r q k. search rules))
    ∙ count_words ws (λ i. omega (arith, c.type_inv.words i))
    ∙ ap (λ m. count_below m (member ws)) (sym e) ∙ count_same n (member ws) f (λ k l. sym (h k))
