-- What is printed, and what is written beside it: a line and a record for each question, of the state as it was then.
use Rattle.std.specs.Prelude.{ℕ, List}
use Rattle.std.specs.List.{flat_map}
use Rattle.answers.specs.Lines.{line_of, answer_to}
use Rattle.answers.specs.Records.{record_of}
use Rattle.history.specs.Posed.{Posed}

abbrev pub line_to : Posed → List ℕ
line_to p = line_of (answer_to p.about p.question)

abbrev pub record_to : Posed → List ℕ
record_to p = record_of p.about p.question

abbrev pub lines_to : List Posed → List ℕ
lines_to ps = flat_map line_to ps

abbrev pub records_to : List Posed → List ℕ
records_to ps = flat_map record_to ps
