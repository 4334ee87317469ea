use Rattle.std.proofs.Common.{◌≡◌, ℕ, sym, ◌∙◌, ap, inl, inr, rules, arith}
use Rattle.std.proofs.lemmas.Bool.{cases_lt}
use Rattle.std.proofs.lemmas.List.{get_or_past}
use Rattle.bits.specs.Rows.{cell}
use Rattle.bits.specs.Sets.{holds, in_row, none}
use Rattle.bits.proofs.FromFn.{each_made}
use Rattle.bits.proofs.Holds.{holds_none}
use Rattle.graph.specs.Graphs.{state}
use Rattle.graph.proofs.Sound.{few_vertices}
use Rattle.model.proofs.Tests.{is_false}
use Rattle.spans.specs.Paths.{path_from}
use Rattle.spans.proofs.Spanning.{path_below}
use Rattle.bits.proofs.Cell.{cell_zeros}
use Rattle.spans.proofs.paths.work.rows_of.Goals as goal

pub lead-requires-clause-by_index : goal.lead-requires-clause-by_index
lead-requires-clause-by_index g c = λ x y. cell_zeros 1024 g.row.W x y

pub returns : goal.returns
unfolding in_row
returns g c = λ x y.
    let s = state c.args.graph.now in
    elim (cases_lt x 256) [
      | inl h ↦
          each_made _ (λ i row. (k : ℕ) → holds row k ≡ cell c.lead.new.rows g.row.W i k) _ (λ i row q call. (search rules, search rules)) c.from_fn.result none 256 c.from_fn.ensures.items x h y
          ∙ c.lead.ensures x y
      | inr h ↦
          ap (λ row. holds row y) (get_or_past c.from_fn.result x none (omega (arith, c.from_fn.ensures.items.long))) ∙ holds_none y
          ∙ sym (is_false (path_from s x y) (λ t. let l = path_below s x y t in let few = few_vertices c.args.graph.now in omega arith))
    ]
