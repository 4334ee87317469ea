-- The four rules: when one may be applied, and what is then.
use Rattle.std.specs.Prelude.{ℕ, suc, Bool, true, false, cond, not, ◌&&◌, ◌||◌, List, [], ◌∷◌, ◌==◌}
use Rattle.model.specs.Bit.{bit}
use Rattle.model.specs.State.{State, is_vertex, is_subject, take_right, grant_right}
use Rattle.model.specs.declared.Rule.{Rule}
use Rattle.model.specs.declared.Rule.TheVariants.{Take, Grant, Create, Remove}

-- This right of this vertex to that one.
abbrev pub this_right : ℕ → ℕ → ℕ → ℕ → ℕ → ℕ → Bool
this_right x r y p k q = p == x && (k == r && q == y)

abbrev pub given : ℕ → ℕ → ℕ → State → State
given x r y s = record { size = s.size; subject = s.subject; has = λ p k q. this_right x r y p k q || s.has p k q }

abbrev pub removed : ℕ → ℕ → ℕ → State → State
removed x r y s = record { size = s.size; subject = s.subject; has = λ p k q. not (this_right x r y p k q) && s.has p k q }

-- The new vertex has the next number. Its creator has the rights that it chose to it; it has none, and nobody else has any to it.
abbrev pub created : ℕ → Bool → ℕ → State → State
created x acting rights s =
    record {
      size = suc s.size;
      subject = λ p. cond (p == s.size) acting (s.subject p);
      has =
          λ p k q.
          cond (q == s.size) (p == x && bit rights k) (cond (p == s.size) false (s.has p k q));
    }

-- May this rule be applied: a subject applies it, it names vertices that are there, and the rights that it uses are held.
abbrev pub applicable : State → Rule → Bool
applicable s (Take t) =
    is_subject s t.who && (is_vertex s t.from && (is_vertex s t.to && (s.has t.who take_right t.from && s.has t.from t.right t.to)))
applicable s (Grant g) =
    is_subject s g.who && (is_vertex s g.into && (is_vertex s g.to && (s.has g.who grant_right g.into && s.has g.who g.right g.to)))
applicable s (Create c) = is_subject s c.who
applicable s (Remove d) = is_subject s d.who && is_vertex s d.to

-- The state after a rule that may be applied.
abbrev pub applied : State → Rule → State
applied s (Take t) = given t.who t.right t.to s
applied s (Grant g) = given g.into g.right g.to s
applied s (Create c) = created c.who c.subject c.rights s
applied s (Remove d) = removed d.who d.right d.to s

-- The state after any rule: one that may not be applied changes nothing.
abbrev pub step : State → Rule → State
step s a = cond (applicable s a) (applied s a) s

-- The state after a row of rules, the first first.
unfoldable pub after : State → List Rule → State
after s [] = s
after s (a ∷ more) = after (step s a) more

-- Each rule of the row may be applied when its turn comes.
unfoldable pub all_applicable : State → List Rule → Bool
all_applicable s [] = true
all_applicable s (a ∷ more) = applicable s a && all_applicable (applied s a) more
