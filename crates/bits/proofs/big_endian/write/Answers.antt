use Rattle.std.proofs.Common.{◌≡◌, ◌-◌, sym, ◌∙◌, arith, rules}
use Rattle.std.proofs.lemmas.List.{ext_get_or}
use Rattle.bits.specs.Sets.{byte_of, member, set_bytes}
use Rattle.bits.proofs.Bytes.{byte_same, get_or-set-bytes, length_set_bytes}
use Rattle.bits.proofs.FromFn.{each_made}
use Rattle.bits.proofs.big_endian.write.Goals as goal

pub returns : goal.returns
returns c f same =
    ext_get_or 0 c.from_fn.result (set_bytes 32 f) (omega (arith, length_set_bytes 32 f))
    (λ i h.
    each_made _ (λ i y. y ≡ byte_of (member c.args.words.now) (31 - i)) _ (λ i y q call. (search rules, search rules)) c.from_fn.result 0 32 c.from_fn.ensures.items i (omega arith)
    ∙ byte_same (member c.args.words.now) f (31 - i) (λ j l. sym (same _))
    ∙ sym (get_or-set-bytes 32 f i (omega arith)))
