use Rattle.std.proofs.Common.{◌≡◌, ℕ, ◌%◌, Bool, false, ◌&&◌, ◌||◌, leb, ltb, refl, ap, ◌∙◌, arith}
use Rattle.std.proofs.lemmas.Bool.Decides.{nat_tests}
use Rattle.bits.specs.Rows.{cell}
use Rattle.bits.proofs.Cell.{cell_zeros}
use Rattle.sharing.specs.Filling.{about}
use Rattle.sharing.specs.Table.{has_row}
use Rattle.sharing.proofs.table.Table.turn_links.Goals as goal

none : (w h v : Bool) → w ≡ false → h ≡ v → (w || h) ≡ v
none w h v e f = grind (arith, nat_tests)

below : (k : ℕ) → (leb 0 k && ltb k 2) ≡ ltb k 2
below k = grind (arith, nat_tests)

pub returns-then-few : goal.returns-then-few
returns-then-few g c =
    let s = about g.row.W c.args.self.now in
    record {
      graph = c.enter_links.ensures.graph;
      cells = λ i x.
          c.enter_links.ensures.cells i x
          ∙ none _ _ _ (ap (λ rows. cell rows g.row.W i x) (c.fill.ensures.after (λ y e. e)) ∙ cell_zeros _ g.row.W i x) refl;
    }

pub returns-else-few : goal.returns-else-few
returns-else-few g c =
    let s = about g.row.W c.args.self.now in
    record {
      graph = c.turn_blocks.ensures.graph;
      cells = λ i x.
          c.turn_blocks.ensures.cells i x
          ∙ none _ _ _ (ap (λ rows. cell rows g.row.W i x) (c.fill.ensures.after (λ y e. e)) ∙ cell_zeros _ g.row.W i x) (ap (λ b. b && has_row s i x) (below (i % 8)));
    }
