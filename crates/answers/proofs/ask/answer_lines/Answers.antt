use Rattle.std.proofs.Common.{vec_items, ap, ◌∙◌}
use Rattle.graph.specs.Graphs.{state}
use Rattle.graph.proofs.Sound.{well_formed-law}
use Rattle.answers.specs.Lines.{lines_of}
use Rattle.answers.proofs.Within.{all_decided}
use Rattle.answers.proofs.ask.answer_lines.Goals as goal

pub returns : goal.returns
returns c =
    let a = c.in_ok-asked.asked in
    let s = state a.about in
    let qs = vec_items a.questions in
    record {
      read = record { about = s; questions = qs };
      reads = c.in_ok-asked.ensures.0;
      prints = c.in_ok-write_lines.ensures ∙ ap (lines_of s) c.deref.ensures.value;
      decided = all_decided s (well_formed-law a.about) qs c.in_ok-asked.ensures.2;
    }
