use Rattle.std.proofs.Common.{◌≡◌, ◌++◌, string_bytes}
use Rattle.sharing.specs.Of.{answered}
use Rattle.answers.specs.Lines.{counts_of}
use Rattle.answers.proofs.table.write_counts.Given as goal

abbrev pub invariant-loop-r : goal.invariant-loop-r
invariant-loop-r l = string_bytes l.text ≡ string_bytes l.initial.text ++ counts_of (answered l.sharing) l.y l.r
