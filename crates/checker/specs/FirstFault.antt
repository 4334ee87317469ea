-- The first fault of a certificate for holders X, a right r and targets Y: first of all holders that have the right, then one of O that has it,
-- then what breaks the other conditions, with vertices rising. Of one vertex its own conditions come first, then its takes, then its grants.
use Rattle.std.specs.Prelude.{ℕ, Bool, not, ◌&&◌, Option}
use Rattle.std.specs.Option.{option_or}
use Rattle.std.specs.Bool.{then_some}
use Rattle.model.specs.State.{State, take_right, grant_right}
use Rattle.model.specs.Bounded.{some_below}
use Rattle.model.specs.Certificates.{Certificate, vertex_fits, take_fits, grant_fits}
use Rattle.checker.specs.First.{first_below}
use Rattle.checker.specs.declared.fault.CheckFault.{CheckFault}
use Rattle.checker.specs.declared.fault.CheckFault.TheVariants.{Held, OutHolds, UnfitVertex, UnfitRight}

-- Has p the right to one of Y?
unfoldable pub has_some : State → ℕ → (ℕ → Bool) → ℕ → Bool
has_some s r Y p = some_below s.size (λ y. s.has p r y && Y y)

abbrev pub held_at : State → (ℕ → Bool) → ℕ → (ℕ → Bool) → ℕ → Option CheckFault
held_at s X r Y p = then_some (X p && has_some s r Y p) (Held p)

abbrev pub out_holds_at : State → ℕ → (ℕ → Bool) → Certificate → ℕ → Option CheckFault
out_holds_at s r Y c p = then_some (c.out p && has_some s r Y p) (OutHolds p)

abbrev pub vertex_at : State → (ℕ → Bool) → Certificate → ℕ → Option CheckFault
vertex_at s X c p = then_some (not (vertex_fits s X c p)) (UnfitVertex p)

abbrev pub taking_at : State → Certificate → ℕ → ℕ → Option CheckFault
taking_at s c p q = then_some (s.has p take_right q && not (take_fits c p q)) (UnfitRight p take_right q)

abbrev pub grant_at : State → (ℕ → Bool) → Certificate → ℕ → ℕ → Option CheckFault
grant_at s X c p q = then_some (s.has p grant_right q && not (grant_fits X c p q)) (UnfitRight p grant_right q)

abbrev pub unfit_at : State → (ℕ → Bool) → Certificate → ℕ → Option CheckFault
unfit_at s X c p =
    option_or (option_or (vertex_at s X c p) (first_below s.size (taking_at s c p))) (first_below s.size (grant_at s X c p))

unfoldable pub first_fault : State → (ℕ → Bool) → ℕ → (ℕ → Bool) → Certificate → Option CheckFault
first_fault s X r Y c =
    option_or (option_or (first_below s.size (held_at s X r Y)) (first_below s.size (out_holds_at s r Y c)))
    (first_below s.size (unfit_at s X c))
