-- The number of each fault, the numbers of the place that is told with it, and its words.
use Rattle.std.specs.Prelude.{ℕ, List, [], ◌∷◌, ◌++◌, codes, decimal}
use Rattle.codec.specs.Faults.{fault_number, fault_place, fault_text}
use Rattle.checker.specs.declared.fault.CheckFault.{CheckFault}
use Rattle.checker.specs.declared.fault.CheckFault.TheVariants.{Input, LeftOver, NoVertex, Held, OutHolds, UnfitVertex, UnfitRight, TooLong, NotReached}
use Rattle.checker.specs.declared.fault.Place.{Place}
use Rattle.checker.specs.declared.fault.Place.TheVariants.{At, Right}

abbrev pub check_number : CheckFault → ℕ
check_number (Input f) = fault_number f
check_number (LeftOver at) = 1
check_number (NoVertex at) = 6
check_number (Held vertex) = 7
check_number (OutHolds vertex) = 9
check_number (UnfitVertex vertex) = 8
check_number (UnfitRight vertex right to) = 8
check_number (TooLong count) = 10
check_number (NotReached count) = 10

abbrev pub check_place : CheckFault → List ℕ
check_place (Input f) = fault_place f ∷ []
check_place (LeftOver at) = at ∷ []
check_place (NoVertex at) = at ∷ []
check_place (Held vertex) = vertex ∷ []
check_place (OutHolds vertex) = vertex ∷ []
check_place (UnfitVertex vertex) = vertex ∷ []
check_place (UnfitRight vertex right to) = vertex ∷ right ∷ to ∷ []
check_place (TooLong count) = count ∷ []
check_place (NotReached count) = count ∷ []

abbrev pub place_numbers : Place → List ℕ
place_numbers (At place) = place ∷ []
place_numbers (Right vertex right to) = vertex ∷ right ∷ to ∷ []

abbrev pub place_text : Place → List ℕ
place_text (At place) = decimal place
place_text (Right vertex right to) = decimal vertex ++ (codes " " ++ (decimal right ++ (codes " " ++ decimal to)))

-- The fault in words, as a user reads it.
abbrev pub check_text : CheckFault → List ℕ
check_text (Input f) = fault_text f
check_text (LeftOver at) = codes "byte " ++ (decimal at ++ codes ": the answer ends before it, and the input doesn't")
check_text (NoVertex at) = codes "byte " ++ (decimal at ++ codes ": the sheet names a thing that isn't in the book")
check_text (Held vertex) = codes "thing " ++ (decimal vertex ++ codes " has the right, so no sheet for it is right")
check_text (OutHolds vertex) = codes "thing " ++ (decimal vertex ++ codes " is in O and has the right")
check_text (UnfitVertex vertex) = codes "thing " ++ (decimal vertex ++ codes ": the sets that it is in don't fit together")
check_text (UnfitRight vertex right to) =
    codes "thing " ++ (decimal vertex ++ (codes ": its right " ++ (decimal right ++ (codes " to thing " ++ (decimal to ++ codes " leads out of the sets")))))
check_text (TooLong count) = decimal count ++ codes " acts are more than a plan for this book may have"
check_text (NotReached count) = codes "the right hasn't come about after the " ++ (decimal count ++ codes " acts of the plan")
