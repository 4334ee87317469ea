use Rattle.std.proofs.Common.{◌∷◌, vec_items, take, drop, ap, ◌∙◌}
use Rattle.graph.specs.Graphs.{state}
use Rattle.bits.specs.Sets.{holds}
use Rattle.codec.specs.Writing.{head_bytes}
use Rattle.codec.proofs.Written.{wrote_same, head_narrow}
use Rattle.codec.proofs.write.write_head.Goals as goal

pub returns-then-size-le-NARROW : goal.returns-then-size-le-NARROW
returns-then-size-le-NARROW c =
    let s = state c.args.graph.now in
    wrote_same c.write_both.result (vec_items c.args.out.now) (vec_items c.write_both.new.out) _ (head_bytes s)
    (ap (λ b. b ∷ c.size-size.result ∷ take 16 (drop 16 c.to_be_bytes-subjects.result)) c.from.ensures ∙
    head_narrow s c.size-size.result c.size-size.ensures.value c.if-size-le-NARROW.true (holds c.subjects.result) c.subjects.ensures.value c.to_be_bytes-subjects.result c.to_be_bytes-subjects.ensures) c.write_both.ensures
