-- What belongs to one of a set: whom its members have grant to, who has grant to them, where take paths from them lead.
use Rattle.std.specs.Prelude.{ℕ, Bool, ◌&&◌, ◌||◌}
use Rattle.model.specs.State.{State, is_subject}
use Rattle.model.specs.Bounded.{some_below}
use Rattle.model.specs.Spans.{can_grant}
use Rattle.spans.specs.Paths.{path_from}

-- Is y of one of the set?
unfoldable pub of_some : (ℕ → Bool) → (ℕ → ℕ → Bool) → ℕ → Bool
of_some set of y = some_below 256 (λ t. set t && of t y)

-- A take path leads from q to one of the set.
abbrev pub leads_into : State → (ℕ → Bool) → ℕ → Bool
leads_into s set q = of_some set (λ e p. path_from s p e) q

-- Where take paths lead to from those of `from` from which one leads to one of the set.
abbrev pub reached_from : State → (ℕ → Bool) → (ℕ → Bool) → ℕ → Bool
reached_from s from set o = of_some from (λ q t. leads_into s set q && path_from s q t) o

-- Who has grant to one of the set, and those of it that are subjects: these can give something to one of it.
abbrev pub giver : State → (ℕ → Bool) → ℕ → Bool
giver s set v = of_some set (λ o p. can_grant s p o) v || (is_subject s v && set v)

-- And whom one of the set has grant to.
abbrev pub beside : State → (ℕ → Bool) → ℕ → Bool
beside s set v = giver s set v || of_some set (can_grant s) v
