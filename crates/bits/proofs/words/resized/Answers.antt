use Rattle.std.proofs.Common.{◌≡◌, get_or, sym, ap, ◌∙◌, arith, rules}
use Rattle.model.specs.Bit.{bit}
use Rattle.bits.specs.Sets.{member}
use Rattle.bits.proofs.FromFn.{each_made}
use Rattle.bits.proofs.Member.{member_made, member_word}
use Rattle.bits.proofs.words.resized.Goals as goal

pub returns : goal.returns
returns g c =
    let words = c.args.words.now in
    let same = each_made _ (λ i y. y ≡ get_or words i 0) _ (λ i y q call. (search rules, search rules)) c.from_fn.result 0 g.row.W c.from_fn.ensures.items in
    member_made (member words) c.from_fn.result g.row.W (omega arith) (λ i l j h. ap (λ w. bit w j) (same i l) ∙ sym (member_word words i j h))
