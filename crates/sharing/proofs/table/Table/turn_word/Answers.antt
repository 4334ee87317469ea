use Rattle.std.proofs.Common.{◌≡◌, ℕ, ◌+◌, ◌*◌, ◌/◌, ◌%◌, true, ◌&&◌, eqb, sym, ◌∙◌, ap₂, arith}
use Rattle.std.proofs.lemmas.Bool.Decides.{nat_tests}
use Rattle.bits.specs.Rows.{cell}
use Rattle.sharing.specs.Filling.{about, block_row, cells}
use Rattle.sharing.specs.Table.{has_row}
use Rattle.sharing.proofs.Filling.{becomes_same, placed_by}
use Rattle.sharing.proofs.table.Table.turn_word.Goals as goal

both_are : (a r b g : ℕ) → (eqb a r && eqb b g) ≡ true → (a ≡ r) × (b ≡ g)
both_are a r b g t = (grind (arith, nat_tests), grind (arith, nat_tests))

pub returns : goal.returns
unfolding has_row
returns g c =
    let t = c.args.self.now in
    let s = about g.row.W t in
    becomes_same g.row.W t c.store.new.self _ c.store.ensures _ (λ i x.
    placed_by s (λ i x. eqb (i % 8) c.args.r && eqb (x / 64) c.args.g) (block_row (cell c.transpose.new.block g.row.W)) (has_row s) (cells g.row.W t) i x (λ p l.
    let f = both_are (i % 8) c.args.r (x / 64) c.args.g p in
    let col : (64 * (i / 8 / 64) + x % 64) % 64 ≡ x % 64 = omega arith in
    let row : 64 * ((64 * (i / 8 / 64) + x % 64) / 64) + i / 8 % 64 ≡ i / 8 = omega arith in
    let who : 64 * c.args.g + x % 64 ≡ x = omega arith in
    c.transpose.ensures (i / 8 % 64) (64 * (i / 8 / 64) + x % 64) (omega arith) (omega (arith, t.wide))
    ∙ ap₂ (cell c.load.new.block g.row.W) col row
    ∙ c.load.ensures (x % 64) (i / 8) (omega arith)
    ∙ ap₂ (λ a b. s.has a b (i / 8)) who (sym f.0)))
