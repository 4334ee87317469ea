-- How the first fault is found: by looking at one vertex after the other, at whole rows of rights.
use Rattle.std.specs.Prelude.{ℕ, Bool, not, ◌&&◌, ◌||◌, None}
use Rattle.std.specs.Option.{option_or}
use Rattle.bits.specs.Sets.{holds}
use Rattle.model.specs.State.{State, take_right, grant_right}
use Rattle.model.specs.Certificates.{Certificate}
use Rattle.checker.specs.First.{first_below}
use Rattle.checker.specs.FirstFault.{held_at, out_holds_at, unfit_at}
use Rattle.checker.specs.declared.certificate.Certificate.{Certificate as Stored}
use Rattle.checker.specs.declared.certificate.Standing.{Standing}
use Rattle.checker.specs.declared.certificate.Looked.{Looked}

-- The model's certificate that stands in three sets of bits.
abbrev pub certificate : Stored → Certificate
certificate c = record { inner = holds c.inner; out = holds c.out; into = holds c.into }

-- What is found at one vertex, and at all vertices below a bound.
abbrev pub looked_at : State → (ℕ → Bool) → ℕ → (ℕ → Bool) → Certificate → ℕ → Looked
looked_at s X r Y c p = record { held = held_at s X r Y p; out_holds = out_holds_at s r Y c p; unfit = unfit_at s X c p }

abbrev pub looked_below : State → (ℕ → Bool) → ℕ → (ℕ → Bool) → Certificate → ℕ → Looked
looked_below s X r Y c n =
    record {
      held = first_below n (held_at s X r Y);
      out_holds = first_below n (out_holds_at s r Y c);
      unfit = first_below n (unfit_at s X c);
    }

abbrev pub nothing_found : Looked
nothing_found = record { held = None; out_holds = None; unfit = None }

-- What was found before stays.
abbrev pub found_then : Looked → Looked → Looked
found_then l next =
    record {
      held = option_or l.held next.held;
      out_holds = option_or l.out_holds next.out_holds;
      unfit = option_or l.unfit next.unfit;
    }

-- The conditions of a vertex alone, of where it stands.
abbrev pub standing_fits : Standing → Bool
standing_fits v =
    (not v.inner || (v.subject && (v.out && v.into))) &&
    ((not (v.subject && (v.out || v.into)) || v.inner) && (not (v.holder && v.subject) || v.into))

-- What p may not have take or grant to, as sets.
abbrev pub take_broken : State → Certificate → ℕ → ℕ → Bool
take_broken s c p q =
    (c.out p && (s.has p take_right q && not (c.out q))) || (not (c.into p) && (s.has p take_right q && c.into q))

abbrev pub grant_broken : State → (ℕ → Bool) → Certificate → ℕ → ℕ → Bool
grant_broken s X c p q =
    (c.out p && (s.has p grant_right q && not (c.into q))) || (not (c.into p) && (s.has p grant_right q && (c.out q || X q)))
