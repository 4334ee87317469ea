use Rattle.std.proofs.Common.{sym, ap, ◌∙◌, ap₂}
use Rattle.std.proofs.lemmas.Result.{err_from_is_err_and}
use Rattle.codec.specs.Kinds.{kind_number}
use Rattle.codec.specs.Reading.{byte_at}
use Rattle.codec.specs.declared.kind.Kind.TheVariants.{Book}
use Rattle.codec.proofs.BookBytes.{few, first_byte}
use Rattle.codec.proofs.Inverted.{no_kind, no_kind_in, not_kind}
use Rattle.codec.proofs.question.read_narrow_book.Goals as goal

pub returns-in_err-kind-clause-value : goal.returns-in_err-kind-clause-value
returns-in_err-kind-clause-value c =
    let p = err_from_is_err_and c.from_residual.result c.from_residual.ensures.1 in
    rw (p.1, p.2)
    (no_kind c.args.bytes.now 0 _ _ (no_kind_in c.new.ensures.input c.new.ensures.start c.in_err-kind.ensures.value)
    (λ n next none. not_kind Book n _ _ none))

pub returns-clause-bound : goal.returns-clause-bound
returns-clause-bound c =
    few c.args.bytes.now
    (first_byte c.args.bytes.now _ _ (ap₂ byte_at (sym c.new.ensures.input) (sym c.new.ensures.start) ∙ c.in_ok-kind.ensures.value) ∙ ap kind_number c.in-Book.is) c.read_book.result c.read_book.ensures.says
