use Rattle.std.proofs.Common.{◌+◌, length, sym, ap, ◌∙◌}
use Rattle.history.specs.Posed.{posed_at}
use Rattle.std.proofs.lemmas.Result.{err_from_is_err_and}
use Rattle.changing.specs.Of.{tracked}
use Rattle.history.proofs.Turns.{act_on, act_broken}
use Rattle.history.proofs.reading.Reading.act.Goals as goal

pub returns-in_err-apply_act-clause-value : goal.returns-in_err-apply_act-clause-value
returns-in_err-apply_act-clause-value c =
    let r = c.args.self.now in
    let p = err_from_is_err_and c.from_residual.result c.from_residual.ensures.1 in
    rw (p.1, p.2) (act_broken r.input.bytes.now r.fit r.input.at r.acts (tracked c.args.book.now) c.requires.there c.requires.acts _ c.in_err-apply_act.ensures.value.1)

pub returns-clause-value : goal.returns-clause-value
returns-clause-value c =
    let r = c.args.self.now in
    let next = c.apply_act.new.acts.at in
    let t = tracked c.apply_act.new.book in
    let read = c.in_ok-apply_act.ensures.value in
    act_on r.input.bytes.now r.fit r.input.at r.acts (tracked c.args.book.now) c.requires.there c.requires.acts t next read.1 ∙
    ap (λ bs. posed_at (length bs) bs next (r.acts + 1) t) (sym read.0)
