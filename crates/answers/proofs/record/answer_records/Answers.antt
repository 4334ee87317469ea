use Rattle.std.proofs.Common.{vec_items, ap, ◌∙◌}
use Rattle.graph.specs.Graphs.{state}
use Rattle.graph.proofs.Sound.{well_formed-law}
use Rattle.answers.specs.Lines.{lines_of}
use Rattle.answers.specs.Records.{DecidedSo, Shown, records_of}
use Rattle.answers.proofs.Within.{each_inside, decided_so, shown}
use Rattle.answers.proofs.record.answer_records.Goals as goal

pub returns : goal.returns
returns c =
    let a = c.in_ok-asked.asked in
    let s = state a.about in
    let wf = well_formed-law a.about in
    let qs = vec_items a.questions in
    let inside = c.in_ok-asked.ensures.2 in
    record {
      read = record { about = s; questions = qs };
      reads = c.in_ok-asked.ensures.0;
      prints = c.in_ok-write_answers.ensures.0 ∙ ap (lines_of s) c.deref.ensures.value;
      writes = c.in_ok-write_answers.ensures.1 ∙ ap (records_of s) c.deref.ensures.value;
      decided = each_inside s.size (DecidedSo s) (decided_so s wf) qs inside;
      shown = each_inside s.size (Shown s) (shown s wf) qs inside;
    }
