use Rattle.std.proofs.Common.{◌∙◌}
use Rattle.std.proofs.lemmas.Result.{err_from_is_err_and}
use Rattle.codec.specs.declared.kind.Kind.TheVariants.{Take, Grant, Create, Remove}
use Rattle.codec.proofs.Inverted.{no_kind, not_kind}
use Rattle.codec.proofs.reader.Reader.act.Goals as goal

pub returns-in_err-kind-clause-value : goal.returns-in_err-kind-clause-value
returns-in_err-kind-clause-value c =
    let p = err_from_is_err_and c.from_residual.result c.from_residual.ensures.1 in
    rw (p.1, p.2) (
      c.in_err-kind.ensures.input,
      no_kind c.args.self.now.bytes.now c.args.self.now.at _ _ c.in_err-kind.ensures.value
          (λ n next none. not_kind Take n _ _ none ∙ not_kind Grant n _ _ none ∙ not_kind Create n _ _ none ∙ not_kind Remove n _ _ none),
    )
