use Rattle.std.proofs.Common.{rules}
use Rattle.bits.specs.Sets.{in_row}
use Rattle.witness.proofs.tables.gather.Goals as goal

pub returns : goal.returns
unfolding in_row
returns c = c.united.ensures (in_row c.args.table.now) (λ v set t told k. search rules)
