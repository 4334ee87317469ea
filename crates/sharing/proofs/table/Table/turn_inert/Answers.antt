use Rattle.std.proofs.Common.{◌≡◌, ℕ, ◌%◌, ◌<◌, not, ◌&&◌, ◌||◌, leb, ltb, ap, ◌∙◌, arith}
use Rattle.std.proofs.lemmas.Bool.Decides.{nat_tests}
use Rattle.bits.specs.Sets.{among}
use Rattle.graph.proofs.Sound.{well_formed-law}
use Rattle.sharing.specs.Filling.{about, cells}
use Rattle.sharing.specs.Table.{has_row}
use Rattle.sharing.proofs.Spreading.{lacking_more}
use Rattle.sharing.proofs.table.Table.turn_inert.Goals as goal

above : (k : ℕ) → k < 8 → (leb 2 k && ltb k 8) ≡ not (ltb k 2)
above k h = grind (arith, nat_tests)

pub returns-else-count-lt-SEVERAL : goal.returns-else-count-lt-SEVERAL
returns-else-count-lt-SEVERAL g c =
    let t = c.args.self.now in
    let s = about g.row.W t in
    record {
      graph = c.turn_blocks.ensures.graph;
      cells = λ i x.
          c.turn_blocks.ensures.cells i x
          ∙ ap (λ b. cells g.row.W t i x || (b && has_row s i x)) (above (i % 8) (omega arith))
          ∙ lacking_more s (well_formed-law t.graph.now) (cells g.row.W t) (among g.row.W c.args.set.now) i x (c.requires.lacking i x);
    }
