use Rattle.std.proofs.Common.{◌++◌, vec_items, sym, ap, ◌∙◌, append-nil, arith}
use Rattle.bits.specs.Sets.{holds}
use Rattle.codec.specs.Writing.{row_bytes}
use Rattle.codec.proofs.write.write_row.Goals as goal

pub loop-c-init : goal.loop-c-init
unfolding row_bytes
loop-c-init c = sym (append-nil (vec_items c.args.out.now))

pub loop-c-preserved : goal.loop-c-preserved
loop-c-preserved c =
    c.in_ok-write_word.ensures (vec_items c.args.out.now) c.loop-c.invariant
    ∙ ap (λ k. vec_items c.args.out.now ++ row_bytes c.args.r (holds c.args.targets.now) k) (omega arith)
