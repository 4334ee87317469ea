-- The protection state that a graph stands for, and what applying a rule to a graph answers.
use Rattle.std.specs.Prelude.{ℕ, suc, Bool, true, false, cond, ◌&&◌, ◌||◌, ◌==◌, nat_lt, Result, Ok, Err}
use Rattle.bits.specs.Sets.{holds}
use Rattle.model.specs.Bit.{bit}
use Rattle.model.specs.State.{State, take_right, grant_right}
use Rattle.model.specs.Rules.{applicable}
use Rattle.model.specs.declared.Rule.{Rule}
use Rattle.model.specs.declared.Rule.TheVariants.{Take, Grant, Create, Remove}
use Rattle.graph.specs.Table.{in_table}
use Rattle.graph.specs.declared.graph.Graph.{Graph}
use Rattle.graph.specs.declared.refusal.Refusal.{Refusal}
use Rattle.graph.specs.declared.refusal.Refusal.TheVariants.{NotApplicable, Full}

unfoldable pub state : Graph → State
state g = record { size = g.size; subject = holds g.subjects; has = in_table g.rows }

-- A state of so many vertices with these subjects, in which nobody has a right.
abbrev pub bare : ℕ → (ℕ → Bool) → State
bare n subjects = record { size = n; subject = subjects; has = λ _ _ _. false }

-- A vertex more, which has no right and to which nobody has one.
abbrev pub grown : Bool → State → State
grown acting s =
    record { size = suc s.size; subject = λ p. cond (p == s.size) acting (s.subject p); has = s.has }

-- p has to q those of the rights below k that the number `rights` has a bit for.
abbrev pub gifted : ℕ → ℕ → ℕ → ℕ → State → State
gifted p rights q k s =
    record {
      size = s.size;
      subject = s.subject;
      has = λ x r y. (x == p && (y == q && (nat_lt r k && bit rights r))) || s.has x r y;
    }

-- A subject, the rights that the rule uses, and for a removal a target: in a graph that is all that makes a rule applicable.
abbrev pub entitled : State → Rule → Bool
entitled s (Take t) = s.subject t.who && (s.has t.who take_right t.from && s.has t.from t.right t.to)
entitled s (Grant g) = s.subject g.who && (s.has g.who grant_right g.into && s.has g.who g.right g.to)
entitled s (Create c) = s.subject c.who
entitled s (Remove d) = s.subject d.who && nat_lt d.to s.size

abbrev pub creates : Rule → Bool
creates (Take _) = false
creates (Grant _) = false
creates (Create _) = true
creates (Remove _) = false

-- What is answered: a rule that may not be applied is refused, and so is a 256th vertex; any other is done.
abbrev pub answer : State → Rule → Result Unit Refusal
answer s a = cond (applicable s a) (cond (creates a && s.size == 255) (Err Full) (Ok tt)) (Err NotApplicable)
