-- Which rows of take paths a rule has worked out anew.
use Rattle.std.specs.Prelude.{ℕ, Bool, not, ◌&&◌, ◌||◌, ◌==◌}
use Rattle.model.specs.Bit.{bit}
use Rattle.model.specs.State.{State, take_right}
use Rattle.model.specs.Spans.{can_take}
use Rattle.model.specs.Changes.{changed}
use Rattle.model.specs.declared.Rule.{Rule}
use Rattle.model.specs.declared.Rule.TheVariants.{Take, Grant, Create, Remove}
use Rattle.graph.specs.Graphs.{creates}
use Rattle.spans.specs.Paths.{path_from}

-- Does the rule change a take right?
abbrev pub changes_take : State → Rule → Bool
changes_take s (Take t) = t.right == take_right && not (can_take s t.who t.to)
changes_take s (Grant g) = g.right == take_right && not (can_take s g.into g.to)
changes_take s (Create c) = bit c.rights take_right
changes_take s (Remove d) = d.right == take_right && can_take s d.who d.to

-- The row of a new vertex; and, where a take right changed, those of the vertex that has it and of all from which a take path led to that vertex.
unfoldable pub renews : State → Rule → ℕ → Bool
renews s a v = (creates a && v == s.size) || (changes_take s a && path_from s v (changed a))
