use Rattle.std.proofs.Common.{◌≡◌, string_bytes}
use Rattle.sharing.specs.Of.{answered}
use Rattle.answers.specs.Lines.{table_of}
use Rattle.answers.proofs.table.table.Given as goal

abbrev pub invariant-loop-y : goal.invariant-loop-y
invariant-loop-y l = string_bytes l.text ≡ table_of (answered l.sharing) l.y
