use Rattle.std.proofs.Common.{eqb, ◌++◌, string_bytes, sym, ap, ◌∙◌, ap₂, append_assoc, append-nil}
use Rattle.sharing.specs.Of.{answered}
use Rattle.answers.specs.Lines.{count_of, counts_of}
use Rattle.answers.proofs.Written.{counts_more}
use Rattle.answers.proofs.table.write_counts.Goals as goal

pub loop-r-init : goal.loop-r-init
unfolding counts_of
loop-r-init c = sym (append-nil (string_bytes c.args.text.now))

pub loop-r-preserved : goal.loop-r-preserved
loop-r-preserved c =
    let s = answered c.args.sharing.now in
    c.in_ok-write_count.ensures
    ∙ ap₂ (λ a b. a ++ b) c.loop-r.invariant (ap (λ n. count_of n (eqb c.loop-r.r 7)) c.count.ensures.value)
    ∙ append_assoc (string_bytes c.args.text.now) (counts_of s c.args.y c.loop-r.r) _
    ∙ ap (λ t. string_bytes c.args.text.now ++ t) (sym (counts_more s c.args.y c.loop-r.r))
