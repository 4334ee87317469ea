use Rattle.std.proofs.Common.{◌+◌, ◌*◌, ◌≤◌, length, sym, ap, ◌∙◌, subst, ap₂, inl, inr, arith}
use Rattle.bits.specs.Rows.{cell}
use Rattle.graph.specs.Table.{row_width}
use Rattle.graph.proofs.Rows.{width_covers}
use Rattle.sharing.specs.Of.{answered}
use Rattle.sharing.specs.Table.{table_words}
use Rattle.sharing.proofs.Size.{row_there, row_says}
use Rattle.sharing.proofs.Beyond.{not_there}
use Rattle.sharing.proofs.sharing.Sharing.can_share.Goals as goal

pub returns-then-holder-n : goal.returns-then-holder-n
returns-then-holder-n c =
    let size = c.size-n.ensures.value in
    record {
      value = sym (not_there c.args.self.now.graph.now c.args.question.holder c.args.question.right c.args.question.target (λ h.
          let a = h.0 in
          let b = h.1.0 in
          let d = h.1.1 in
          elim c.then-holder-n.either [ inl l ↦ omega arith | inr e ↦ elim e [ inl l ↦ let m = l.1 in omega arith | inr f ↦ let m = f.2 in omega arith ] ]));
    }

pub row_contains-requires : goal.row_contains-requires
row_contains-requires c =
    let size = c.size-n.ensures.value in
    let cover = width_covers c.size-n.result (omega arith) in
    let width = c.width.ensures in (
      subst (λ i. i * c.width.result + c.width.result ≤ length c.args.self.now.rows.now) (sym c.row.ensures)
          (row_there c.size-n.result c.width.result (length c.args.self.now.rows.now) c.args.question.target c.args.question.right c.width.ensures
          (omega (arith, c.args.self.now.fits, ap table_words size)) (omega arith) (omega arith)),
      omega (arith, c.from.ensures),
    )

pub returns : goal.returns
returns c =
    record {
      value =
          c.row_contains.ensures
          ∙ ap₂ (λ w i. cell c.args.self.now.rows.now w i c.from.result) (c.width.ensures ∙ ap row_width c.size-n.ensures.value) c.row.ensures
          ∙ ap (λ x. cell c.args.self.now.rows.now (row_width (answered c.args.self.now).size) (8 * c.args.question.target + c.args.question.right) x) c.from.ensures
          ∙ c.args.self.now.shared (8 * c.args.question.target + c.args.question.right) c.args.question.holder
          ∙ row_says (answered c.args.self.now) c.args.question.holder c.args.question.right c.args.question.target (omega arith);
    }
