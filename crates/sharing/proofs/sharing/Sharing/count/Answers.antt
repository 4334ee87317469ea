use Rattle.std.proofs.Common.{◌+◌, ◌*◌, ◌≤◌, length, sym, ap, ◌∙◌, subst, ap₂, inl, inr, arith}
use Rattle.bits.specs.Rows.{cell}
use Rattle.model.specs.Sharing.{can_share}
use Rattle.graph.specs.Table.{row_width}
use Rattle.graph.proofs.Rows.{width_covers, width_most}
use Rattle.sharing.specs.Of.{answered}
use Rattle.sharing.specs.Table.{table_words}
use Rattle.sharing.proofs.Size.{row_there, row_says}
use Rattle.sharing.proofs.Beyond.{not_there, count_none, count_stops}
use Rattle.sharing.proofs.sharing.Sharing.count.Goals as goal

pub returns-then-y-n : goal.returns-then-y-n
returns-then-y-n c =
    let size = c.size-n.ensures.value in
    record {
      value = sym (count_none _ _ (λ x. not_there c.args.self.now.graph.now x c.args.r c.args.y (λ h.
          let b = h.1.0 in
          let d = h.1.1 in
          elim c.then-y-n.either [ inl l ↦ omega arith | inr e ↦ let l = e.1 in omega arith ])));
    }

pub row_count-requires : goal.row_count-requires
row_count-requires c =
    let size = c.size-n.ensures.value in
    let most = width_most c.size-n.result in (
      subst (λ i. i * c.width.result + c.width.result ≤ length c.args.self.now.rows.now) (sym c.row.ensures)
          (row_there c.size-n.result c.width.result (length c.args.self.now.rows.now) c.args.y c.args.r c.width.ensures
          (omega (arith, c.args.self.now.fits, ap table_words size)) (omega arith) (omega arith)),
      omega (arith, c.width.ensures),
    )

pub returns : goal.returns
returns c =
    let size = c.size-n.ensures.value in
    let cover = width_covers c.size-n.result (omega arith) in
    let width = c.width.ensures in
    record {
      value =
          c.row_count.ensures
          ∙ count_stops (64 * c.width.result) (answered c.args.self.now).size _ (λ x. can_share (answered c.args.self.now) x c.args.r c.args.y) (omega arith)
          (λ x.
          ap₂ (λ w i. cell c.args.self.now.rows.now w i x) (c.width.ensures ∙ ap row_width size) c.row.ensures
          ∙ c.args.self.now.shared (8 * c.args.y + c.args.r) x
          ∙ row_says (answered c.args.self.now) x c.args.r c.args.y (omega arith))
          (λ x l. not_there c.args.self.now.graph.now x c.args.r c.args.y (λ h. let a = h.0 in omega arith));
    }
