use Rattle.std.proofs.Common.{arith}
use Rattle.sharing.proofs.Size.{table_is, table_most}
use Rattle.sharing.proofs.sharing.Sharing.words.Goals as goal

pub overflow_mul-result-2 : goal.overflow_mul-result-2
overflow_mul-result-2 c = omega (arith, table_is c.args.size c.width.result c.width.ensures, table_most c.args.size (omega arith))

pub returns : goal.returns
returns c = record { value = table_is c.args.size c.width.result c.width.ensures }
