-- What is printed: a line for each question, or a table of counts.
use Rattle.std.specs.Prelude.{ℕ, zero, suc, Bool, true, false, List, [], ◌∷◌, ◌++◌, codes, decimal, ◌==◌}
use Rattle.model.specs.Bounded.{count_below}
use Rattle.model.specs.Sharing.{can_share}
use Rattle.model.specs.State.{State}
use Rattle.model.specs.declared.Question.{Question}

abbrev pub line_of : Bool → List ℕ
line_of true = 121 ∷ 101 ∷ 115 ∷ 10 ∷ []
line_of false = 110 ∷ 111 ∷ 10 ∷ []

abbrev pub answer_to : State → Question → Bool
answer_to s q = can_share s q.holder q.right q.target

unfoldable pub lines_of : State → List Question → List ℕ
lines_of s [] = []
lines_of s (q ∷ more) = line_of (answer_to s q) ++ lines_of s more

-- How many can come to have right r to y.
abbrev pub sharers : State → ℕ → ℕ → ℕ
sharers s r y = count_below s.size (λ x. can_share s x r y)

-- A count, and the space or the end of the line behind it.
abbrev pub count_of : ℕ → Bool → List ℕ
count_of n true = decimal n ++ codes "\n"
count_of n false = decimal n ++ codes " "

-- The counts of the rights below k to y, of which right 7 is the last of its line.
unfoldable pub counts_of : State → ℕ → ℕ → List ℕ
counts_of s y zero = []
counts_of s y (suc r) = counts_of s y r ++ count_of (sharers s r y) (r == 7)

-- The lines of the first m vertices.
unfoldable pub table_of : State → ℕ → List ℕ
table_of s zero = []
table_of s (suc m) = table_of s m ++ counts_of s m 8
