use Rattle.std.proofs.Common.{◌≡◌, ◌++◌, sym, ap, ◌∙◌, ap₂, vec_items, append_assoc, add-one, arith}
use mathlib.Core.Path.{fun_ext}
use Rattle.model.proofs.Tests.{is_false}
use Rattle.bits.specs.Sets.{holds}
use Rattle.graph.specs.Graphs.{state}
use Rattle.graph.proofs.Sound.{target_below, few_vertices}
use Rattle.codec.specs.Writing.{held_bytes, row_bytes}
use Rattle.codec.proofs.Codes.{row_past}
use Rattle.codec.proofs.write.write_held.Goals as goal

pub loop-r-preserved : goal.loop-r-preserved
unfolding held_bytes
loop-r-preserved c =
    let g = c.args.graph.now in
    let s = state g in
    let row : row_bytes c.loop-r.r (holds c.targets.result) 256 ≡ row_bytes c.loop-r.r (s.has c.args.p c.loop-r.r) s.size =
    ap (λ f. row_bytes c.loop-r.r f 256) (fun_ext c.targets.ensures.value) ∙
    row_past c.loop-r.r (s.has c.args.p c.loop-r.r) s.size 256
    (λ k h. is_false (s.has c.args.p c.loop-r.r k) (λ t. let l = target_below g c.args.p c.loop-r.r k t in omega arith)) (let l = few_vertices g in omega arith) in
    c.in_ok-write_row.ensures ∙ (ap₂ (λ a b. a ++ b) c.loop-r.invariant row ∙ (append_assoc (vec_items c.args.out.now) (held_bytes s c.args.p c.loop-r.r) (row_bytes c.loop-r.r (s.has c.args.p c.loop-r.r) s.size) ∙ ap (λ k. vec_items c.args.out.now ++ held_bytes s c.args.p k) (sym (add-one c.loop-r.r))))
