use Rattle.std.proofs.Common.{◌+◌, ◌*◌, length, arith}
use Rattle.sharing.specs.Filling.{about}
use Rattle.sharing.proofs.Holding.{row_fits}
use Rattle.sharing.proofs.table.Table.store_word.Goals as goal

pub gain_column-requires-clause-there : goal.gain_column-requires-clause-there
gain_column-requires-clause-there g c = λ i l.
    let t = c.args.self.now in
    row_fits (about g.row.W t).size g.row.W (length t.rows.now) (64 * c.args.c + i) c.args.r t.fits (omega (arith, c.size.ensures.value)) (omega arith)
