-- No fault is found exactly where the certificate is right.
use Rattle.std.proofs.Common.{◌≡◌, ℕ, ◌<◌, Bool, not, ◌&&◌, ◌||◌, T, is_some, Some, None, Option, refl, inl, inr, arith, T_not}
use Rattle.std.proofs.lemmas.Bool.Decides.{nat_tests}
use lib.Dec.{not_T}
use Rattle.model.specs.State.{State, take_right, grant_right}
use Rattle.model.specs.Bounded.{all_below, implies}
use Rattle.model.specs.Certificates.{Certificate, lacks, vertex_fits, take_fits, grant_fits, right_fits, is_right}
use Rattle.model.proofs.Tests.{both, parts, cases, left, right, same, implied, implying, some_from, some_below-law, all_from, all_at}
use Rattle.checker.specs.First.{first_below}
use Rattle.checker.specs.FirstFault.{has_some, held_at, out_holds_at, vertex_at, taking_at, grant_at, unfit_at, first_fault}
use Rattle.checker.proofs.First.{or_none, none_or, when_none, none_when, first_none, none_first}

twice_not : (b : Bool) → (T (not b) → ⊥) → T b
twice_not b h = grind (arith, nat_tests)

is_none : {A : Type 0} (o : Option A) → T (not (is_some o)) → o ≡ None
is_none None t = refl
is_none (Some x) t = absurd t

from_none : {A : Type 0} (o : Option A) → o ≡ None → T (not (is_some o))
from_none None e = tt
from_none (Some x) e = cc

module _ (s : State) (X : ℕ → Bool) (r : ℕ) (Y : ℕ → Bool) (c : Certificate) where
  -- None of those who pass the test has the right to one of Y.
  abbrev Without : (ℕ → Bool) → Type 0
  Without test = (p : ℕ) → p < s.size → T (test p && has_some s r Y p) → ⊥

  lacking : Without X → Without c.out → T (all_below s.size (lacks s X r Y c))
  unfolding lacks has_some
  lacking held out =
      all_from s.size _ λ p l.
      implying (X p || c.out p) _ λ h. all_from s.size _ λ y m. implying (Y y) _ λ k. not_T (s.has p r y) λ t.
      let one = some_from s.size (λ z. s.has p r z && Y z) y m (both (s.has p r y) (Y y) t k) in
      elim (cases (X p) (c.out p) h) [ inl x ↦ held p l (both (X p) _ x one) | inr o ↦ out p l (both (c.out p) _ o one) ]

  without : T (all_below s.size (lacks s X r Y c)) → (test : ℕ → Bool) → ((p : ℕ) → T (test p) → T (X p || c.out p)) → Without test
  unfolding lacks has_some
  without t test of p l h =
      let a = parts (test p) _ h in
      let one = some_below-law s.size (λ z. s.has p r z && Y z) a.1 in
      let b = parts (s.has p r one.at) (Y one.at) one.passes in
      T_not (s.has p r one.at) (implied (Y one.at) _ (all_at s.size (λ y. implies (Y y) (not (s.has p r y))) (implied (X p || c.out p) _ (all_at s.size (lacks s X r Y c) t p l) (of p a.0)) one.at one.below) b.1) b.0

  -- Of one vertex and its rights.
  fitting : (p : ℕ) → unfit_at s X c p ≡ None → T (vertex_fits s X c p) × T (all_below s.size (right_fits s X c p))
  unfolding right_fits
  fitting p e =
      let u = or_none _ (first_below s.size (grant_at s X c p)) e in
      let v = or_none (vertex_at s X c p) (first_below s.size (taking_at s c p)) u.0 in (
        twice_not (vertex_fits s X c p) (when_none _ _ v.0),
        all_from s.size _ λ q m.
            both (implies (s.has p take_right q) (take_fits c p q)) _
            (implying (s.has p take_right q) _ λ h. twice_not (take_fits c p q) λ n. when_none _ _ (first_none s.size _ v.1 q m) (both (s.has p take_right q) _ h n))
            (implying (s.has p grant_right q) _ λ h. twice_not (grant_fits X c p q) λ n. when_none _ _ (first_none s.size _ u.1 q m) (both (s.has p grant_right q) _ h n)),
      )

  unfitting : (p : ℕ) → T (vertex_fits s X c p) → T (all_below s.size (right_fits s X c p)) → unfit_at s X c p ≡ None
  unfolding right_fits
  unfitting p t a =
      none_or _ (first_below s.size (grant_at s X c p))
      (none_or (vertex_at s X c p) (first_below s.size (taking_at s c p)) (none_when _ _ (λ n. T_not (vertex_fits s X c p) n t))
      (none_first s.size _ (λ q m. none_when _ _ (λ h. let b = parts (s.has p take_right q) _ h in T_not (take_fits c p q) b.1 (implied (s.has p take_right q) _ (rights q m).0 b.0)))))
      (none_first s.size _ (λ q m. none_when _ _ (λ h. let b = parts (s.has p grant_right q) _ h in T_not (grant_fits X c p q) b.1 (implied (s.has p grant_right q) _ (rights q m).1 b.0))))
    where
      rights : (q : ℕ) → q < s.size → T (implies (s.has p take_right q) (take_fits c p q)) × T (implies (s.has p grant_right q) (grant_fits X c p q))
      rights q m = parts (implies (s.has p take_right q) (take_fits c p q)) _ (all_at s.size (right_fits s X c p) a q m)

  pub none_right : first_fault s X r Y c ≡ None → T (is_right s X r Y c)
  unfolding first_fault is_right
  none_right e =
      let a = or_none _ (first_below s.size (unfit_at s X c)) e in
      let b = or_none (first_below s.size (held_at s X r Y)) (first_below s.size (out_holds_at s r Y c)) a.0 in
      let fits : (p : ℕ) → p < s.size → T (vertex_fits s X c p) × T (all_below s.size (right_fits s X c p)) = λ p l. fitting p (first_none s.size _ a.1 p l) in
      both (all_below s.size (lacks s X r Y c)) _
      (lacking (λ p l. when_none _ _ (first_none s.size _ b.0 p l)) (λ p l. when_none _ _ (first_none s.size _ b.1 p l)))
      (both (all_below s.size (vertex_fits s X c)) _ (all_from s.size _ λ p l. (fits p l).0) (all_from s.size _ λ p l. (fits p l).1))

  pub right_none : T (is_right s X r Y c) → first_fault s X r Y c ≡ None
  unfolding first_fault is_right
  right_none t =
      let a = parts (all_below s.size (lacks s X r Y c)) _ t in
      let b = parts (all_below s.size (vertex_fits s X c)) _ a.1 in
      none_or _ (first_below s.size (unfit_at s X c))
      (none_or (first_below s.size (held_at s X r Y)) (first_below s.size (out_holds_at s r Y c))
      (none_first s.size _ (λ p l. none_when _ _ (without a.0 X (λ q h. left (X q) _ h) p l)))
      (none_first s.size _ (λ p l. none_when _ _ (without a.0 c.out (λ q h. right (X q) _ h) p l))))
      (none_first s.size _ (λ p l. unfitting p (all_at s.size _ b.0 p l) (all_at s.size _ b.1 p l)))

  pub exact : is_right s X r Y c ≡ not (is_some (first_fault s X r Y c))
  exact = same _ _ (λ t. from_none _ (right_none t)) (λ t. none_right (is_none _ t))
