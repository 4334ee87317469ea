use Rattle.std.proofs.Common.{◌∙◌}
use Rattle.std.proofs.lemmas.Result.{err_from_is_err_and}
use Rattle.codec.specs.declared.kind.Kind.TheVariants.{Book, WideBook}
use Rattle.codec.proofs.Inverted.{no_kind, not_kind}
use Rattle.codec.proofs.reader.Reader.layout.Goals as goal

pub returns-in_err-kind : goal.returns-in_err-kind
returns-in_err-kind c =
    let p = err_from_is_err_and c.from_residual.result c.from_residual.ensures.1 in
    rw (p.1, p.2) (
      c.in_err-kind.ensures.input,
      no_kind c.args.self.now.bytes.now c.args.self.now.at _ _ c.in_err-kind.ensures.value (λ n next none. not_kind Book n _ _ none ∙ not_kind WideBook n _ _ none),
    )
