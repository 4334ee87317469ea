-- The conditions of a right certificate, as the code looks at them.
use Rattle.std.proofs.Common.{◌≡◌, ℕ, Bool, not, ◌&&◌, ◌||◌, T, sym, ap, subst, inl, inr, arith, T_not}
use lib.Dec.{not_T}
use Rattle.std.proofs.lemmas.Bool.Decides.{nat_tests}
use Rattle.bits.specs.Sets.{Same}
use Rattle.bits.proofs.Gathered.{some_narrow}
use Rattle.model.specs.State.{State, is_subject, take_right, grant_right}
use Rattle.model.specs.Bounded.{some_below, all_below}
use Rattle.model.specs.Certificates.{Certificate, vertex_fits, take_fits, grant_fits}
use Rattle.model.proofs.Tests.{same, decide, parts, some_from, some_below-law, all_from, all_at}
use Rattle.graph.specs.Graphs.{state}
use Rattle.graph.specs.declared.graph.Graph.{Graph}
use Rattle.graph.proofs.Sound.{target_below, few_vertices}
use Rattle.checker.specs.FirstFault.{has_some}
use Rattle.checker.specs.Looking.{standing_fits, take_broken, grant_broken}

-- A right to one of Y, found by going through the whole row.
pub one_held : (g : Graph) (p r : ℕ) (Y row : ℕ → Bool) → Same row (λ k. (state g).has p r k) → some_below 256 (λ k. row k && Y k) ≡ has_some (state g) r Y p
unfolding has_some
one_held g p r Y row e =
    some_narrow 256 (state g).size _ _ (let few = few_vertices g in omega arith) (λ k. ap (λ b. b && Y k) (e k)) (λ k t. target_below g p r k (parts ((state g).has p r k) _ t).0)

-- A vertex alone.
pub standing_fits-law : (s : State) (X : ℕ → Bool) (c : Certificate) (p : ℕ) (subject holder inner out into : Bool) → subject ≡ is_subject s p → holder ≡ X p → inner ≡ c.inner p → out ≡ c.out p → into ≡ c.into p → standing_fits (record { subject = subject; holder = holder; inner = inner; out = out; into = into }) ≡ vertex_fits s X c p
unfolding vertex_fits
standing_fits-law s X c p subject holder inner out into a h j o i = rw (a, h, j, o, i)

-- Takes and grants.
pub take_broken-law : (s : State) (c : Certificate) (p q : ℕ) → (s.has p take_right q && not (take_fits c p q)) ≡ take_broken s c p q
unfolding take_fits
take_broken-law s c p q = law (s.has p take_right q) (c.out p) (c.out q) (c.into p) (c.into q)
  where
    law : (h o o' i i' : Bool) → (h && not ((not o || o') && (not i' || i))) ≡ ((o && (h && not o')) || (not i && (h && i')))
    law h o o' i i' = grind (arith, nat_tests)

pub grant_broken-law : (s : State) (X : ℕ → Bool) (c : Certificate) (p q : ℕ) → (s.has p grant_right q && not (grant_fits X c p q)) ≡ grant_broken s X c p q
unfolding grant_fits
grant_broken-law s X c p q = law (s.has p grant_right q) (c.out p) (c.into q) (c.into p) (c.out q) (X q)
  where
    law : (h o i' i o' x : Bool) → (h && not ((not o || i') && ((not o' || i) && (not x || i)))) ≡ ((o && (h && not i')) || (not i && (h && (o' || x))))
    law h o i' i o' x = grind (arith, nat_tests)
