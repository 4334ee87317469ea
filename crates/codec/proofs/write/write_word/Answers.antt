use Rattle.std.proofs.Common.{ℕ, ◌+◌, ◌*◌, ◌++◌, [], ◌∷◌, vec_items, sym, ap, ◌∙◌, append_assoc, append-nil}
use Rattle.std.specs.List.{flat_map}
use Rattle.model.specs.Bit.{bit}
use Rattle.bits.specs.Sets.{holds}
use Rattle.bits.proofs.Chain.{lowest_first, none_below}
use Rattle.bits.proofs.Walk.{fewer}
use Rattle.codec.specs.Writing.{row_bytes}
use Rattle.codec.proofs.Written.{row_word, word_bytes}
use Rattle.codec.proofs.write.write_word.Goals as goal

pub loop-b-preserved : goal.loop-b-preserved
loop-b-preserved c =
    let low = c.in-Some.ensures.lowest in
    let pair = λ (j : ℕ). c.args.r ∷ (64 * c.args.c + j) ∷ [] in
    let first = lowest_first 64 (bit c.loop-b.rest) (bit c.pop_bit.new.word) c.in-Some.b c.in-Some.ensures.bound low.0 low.1 low.2 in
    ap (λ t. t ++ word_bytes c.args.r c.args.c 64 (bit c.pop_bit.new.word)) c.in_ok-write.ensures
    ∙ append_assoc (vec_items c.loop-b.out) (pair c.in-Some.b) (word_bytes c.args.r c.args.c 64 (bit c.pop_bit.new.word))
    ∙ ap (λ t. vec_items c.loop-b.out ++ flat_map pair t) (sym first)
    ∙ c.loop-b.invariant

pub loop-b-smaller : goal.loop-b-smaller
loop-b-smaller c =
    let low = c.in-Some.ensures.lowest in
    fewer (bit c.loop-b.rest) (bit c.pop_bit.new.word) c.in-Some.b low.2 64 c.in-Some.ensures.bound low.0

pub returns : goal.returns
returns c before e =
    let pair = λ (j : ℕ). c.args.r ∷ (64 * c.args.c + j) ∷ [] in
    let word = bit c.word-rest.result in
    let none = none_below 64 (bit c.loop-b.rest) (λ k _. c.in_default.ensures.lowest.0 k) in
    sym (append-nil (vec_items c.loop-b.out))
    ∙ ap (λ t. vec_items c.loop-b.out ++ flat_map pair t) (sym none)
    ∙ c.loop-b.invariant
    ∙ ap (λ t. t ++ word_bytes c.args.r c.args.c 64 word) e
    ∙ append_assoc before (row_bytes c.args.r (holds c.args.targets.now) (64 * c.args.c)) (word_bytes c.args.r c.args.c 64 word)
    ∙ ap (λ t. before ++ t) (row_word c.args.r c.args.c 64 (holds c.args.targets.now) word (λ j h. c.word-rest.ensures j h))
