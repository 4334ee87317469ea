use Rattle.std.proofs.Common.{ap, sym, ◌∙◌, rules, tests}
use Rattle.std.proofs.lemmas.Iterator.{YieldsList-from_slice, YieldsList-from_zip}
use Rattle.std.proofs.lemmas.Iterator.Consumers.{YieldsList-at}
use Rattle.std.proofs.lemmas.Iterator.Search.{all_from_yields_List}
use Rattle.model.specs.Bit.{bit}
use Rattle.model.specs.Bounded.{all_below, implies}
use Rattle.bits.specs.Sets.{member}
use Rattle.bits.proofs.Below.{all_same}
use Rattle.bits.proofs.ByWord.{within_words}
use Rattle.bits.proofs.words.is_subset.Goals as goal

pub returns : goal.returns
returns c n f e h =
    let ws = c.args.words.now in
    let vs = c.args.other.now in
    all_from_yields_List (λ p. all_below 64 (λ j. implies (bit p.0 j) (bit p.1 j))) c.all.new.self _ c.all.result c.all.ensures.ran
    (YieldsList-from_zip (YieldsList-at c.zip.ensures.first (YieldsList-from_slice ws cc)) (YieldsList-from_slice {s = c.zip.result.b} vs c.zip.ensures.second.0)) (λ x b q k. search (rules, tests))
    ∙ within_words ws vs c.requires
    ∙ ap (λ m. all_below m (λ k. implies (member ws k) (member vs k))) (sym e) ∙ all_same n (λ k. implies (member ws k) (member vs k)) f (λ k l. sym (h k))
