use Rattle.std.proofs.Common.{◌≡◌, length, Ok, vec_items, sym}
use Rattle.std.proofs.lemmas.Result.{err_from_is_err_and}
use Rattle.graph.specs.Graphs.{state}
use Rattle.answers.specs.Asked.{questions_at}
use Rattle.answers.proofs.Steps.{no_book, book_asked, refused_asked}
use Rattle.answers.proofs.Within.{questions_inside}
use Rattle.answers.proofs.read.Asked.read.Goals as goal

pub returns-in_err-about : goal.returns-in_err-about
returns-in_err-about c =
    let p = err_from_is_err_and c.from_residual.result c.from_residual.ensures.1 in
    rw (p.1, p.2) (no_book c.args.bytes.now _ c.in_err-about.ensures.value)

pub returns-in_err-questions : goal.returns-in_err-questions
returns-in_err-questions c =
    let p = err_from_is_err_and c.from_residual-in_err-questions.result c.from_residual-in_err-questions.ensures.1 in
    let bs = c.args.bytes.now in
    let s = state c.in_ok-about.about in
    let at = c.in_ok-about.rest.at in
    rw (p.1, p.2)
    (refused_asked bs s at c.in_ok-about.ensures.value _
    (rw (sym c.in_ok-about.ensures.rest, sym c.size.ensures.value) c.in_err-questions.ensures))

pub returns : goal.returns
returns c =
    let s = state c.in_ok-about.about in
    let bs = c.args.bytes.now in
    let at = c.in_ok-about.rest.at in
    let qs = vec_items c.in_ok-questions.questions in
    let h : questions_at (length bs) bs s.size at ≡ Ok qs = rw (sym c.in_ok-about.ensures.rest, sym c.size.ensures.value) c.in_ok-questions.ensures in
    (book_asked bs s at c.in_ok-about.ensures.value (Ok qs) (sym h), c.in_ok-about.ensures.bound, questions_inside (length bs) bs s.size at qs h)
