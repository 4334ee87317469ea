use Rattle.std.proofs.Common.{◌≡◌, ◌/◌, ◌%◌, Bool, true, false, ◌&&◌, ◌||◌, T, ltb, arith}
use Rattle.std.proofs.lemmas.Bool.{lt-ltb}
use Rattle.std.proofs.lemmas.Bool.Decides.{nat_tests}
use Rattle.graph.proofs.Sound.{holder_below}
use Rattle.sharing.specs.Filling.{about, cells, of_links}
use Rattle.sharing.specs.Table.{has_row}
use Rattle.sharing.proofs.Filling.{becomes_same}
use Rattle.sharing.proofs.table.Table.enter_links.Goals as goal

passed : (w b t h : Bool) → (T h → t ≡ true) → (w || ((b && t) && h)) ≡ (w || (b && h))
passed w b t true f = let e = f tt in grind (arith, nat_tests)
passed w b t false f = grind (arith, nat_tests)

pub returns : goal.returns
unfolding has_row
returns g c =
    let t = c.args.self.now in
    becomes_same g.row.W t c.loop-x.self _ c.loop-x.invariant _ (λ i y.
    passed (cells g.row.W t i y) (of_links i) (ltb y c.loop-x.x) (has_row (about g.row.W t) i y) (λ h. let l = holder_below t.graph.now y (i % 8) (i / 8) h in lt-ltb y c.loop-x.x (omega (arith, c.size-x-end.ensures.value))))
