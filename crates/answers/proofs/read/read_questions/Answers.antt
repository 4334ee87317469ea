use Rattle.std.proofs.Common.{◌-◌, length, Ok, Err, vec_items, vec_len, sym, ap, ◌∙◌, ap₂, arith}
use Rattle.std.proofs.lemmas.Bool.{leb-true, leb-false}
use Rattle.std.proofs.lemmas.Result.{err_from_is_err_and}
use Rattle.codec.proofs.Steps.{read_in}
use Rattle.codec.specs.Questions.{question_at}
use Rattle.answers.specs.Asked.{questions_at}
use Rattle.answers.proofs.Steps.{behind, questions_done, question_broken, question_on}
use Rattle.answers.proofs.read.read_questions.Goals as goal

pub returns-in_err-question : goal.returns-in_err-question
returns-in_err-question c =
    let p = err_from_is_err_and c.from_residual.result c.from_residual.ensures.1 in
    let read = read_in (Err _) c.loop-input.input c.question.new.self (λ bs at. question_at bs c.args.size at) c.in_err-question.ensures.value c.loop-input.invariant.same in
    rw (p.1, p.2)
    (sym (question_broken c.args.input.now.bytes.now c.args.size c.loop-input.input.at (vec_items c.loop-input.questions) (vec_len c.loop-input.questions) c.loop-input.invariant.left
    (omega (arith, leb-false _ _ (sym c.is_done.ensures ∙ c.loop-input-test.true), ap length c.loop-input.invariant.same)) c.loop-input.invariant.many _ read.1))

pub loop-input-preserved : goal.loop-input-preserved
loop-input-preserved c =
    let read = read_in (Ok c.in_ok-question.question) c.loop-input.input c.question.new.self (λ bs at. question_at bs c.args.size at) c.in_ok-question.ensures.value c.loop-input.invariant.same in
    record {
      same = read.0;
      many = omega (arith, c.in_ok-push.ensures.len, c.in_ok-question.ensures.bound, c.loop-input.invariant.many);
      left = ap₂ (λ qs n. behind qs (questions_at (length c.args.input.now.bytes.now - n) c.args.input.now.bytes.now c.args.size c.question.new.self.at)) c.in_ok-push.ensures.items c.in_ok-push.ensures.len ∙
          question_on c.args.input.now.bytes.now c.args.size c.loop-input.input.at (vec_items c.loop-input.questions) (vec_len c.loop-input.questions) c.loop-input.invariant.left
          (omega (arith, leb-false _ _ (sym c.is_done.ensures ∙ c.loop-input-test.true), ap length c.loop-input.invariant.same)) c.loop-input.invariant.many c.in_ok-question.question c.question.new.self.at read.1;
    }

pub returns : goal.returns
returns c =
    sym (questions_done c.args.input.now.bytes.now c.args.size c.loop-input.input.at (vec_items c.loop-input.questions) (vec_len c.loop-input.questions) c.loop-input.invariant.left
    (omega (arith, leb-true _ _ (sym c.is_done.ensures ∙ c.loop-input-test.false), ap length c.loop-input.invariant.same)))
