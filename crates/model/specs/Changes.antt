-- Whose rights a rule changes.
use Rattle.std.specs.Prelude.{ℕ}
use Rattle.model.specs.declared.Rule.{Rule}
use Rattle.model.specs.declared.Rule.TheVariants.{Take, Grant, Create, Remove}

-- One vertex alone: who takes, who is granted to, who creates, who gives up.
abbrev pub changed : Rule → ℕ
changed (Take t) = t.who
changed (Grant g) = g.into
changed (Create c) = c.who
changed (Remove d) = d.who
