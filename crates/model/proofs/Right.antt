-- Right certificates as facts: what their tests say of each vertex and each right; and a right certificate is a barrier.
use Rattle.std.proofs.Common.{ℕ, ◌<◌, Bool, not, ◌&&◌, ◌||◌, T, List, inl, inr, T_not}
use lib.Dec.{not_T}
use Rattle.model.specs.State.{State, WellFormed, is_subject, take_right, grant_right}
use Rattle.model.specs.Bounded.{all_below, implies}
use Rattle.model.specs.Spans.{can_take, can_grant}
use Rattle.model.specs.Sharing.{CanShare}
use Rattle.model.specs.Rules.{after}
use Rattle.model.specs.declared.Rule.{Rule}
use Rattle.model.specs.Certificates.{Certificate, lacks, vertex_fits, take_fits, grant_fits, right_fits, is_right}
use Rattle.model.specs.Certified.{ClosedFor}
use Rattle.model.proofs.Tests.{both, parts, cases, left, right, implied, implying, all_from, all_at}
use Rattle.model.proofs.Barrier.{Barrier, Lacking, barrier_bars}
use Rattle.model.proofs.NothingNew.{barred_never}

-- The members of a set below n.
abbrev pub In : ℕ → (ℕ → Bool) → ℕ → Type 0
In n f p = (p < n) × T (f p)

pub record VertexFacts (s : State) (X : ℕ → Bool) (c : Certificate) (p : ℕ) : Type 0 where
  pub acts : T (c.inner p) → T (is_subject s p)
  pub inner_out : T (c.inner p) → T (c.out p)
  pub inner_into : T (c.inner p) → T (c.into p)
  pub out_inner : T (is_subject s p) → T (c.out p) → T (c.inner p)
  pub into_inner : T (is_subject s p) → T (c.into p) → T (c.inner p)
  pub holder_into : T (is_subject s p) → T (X p) → T (c.into p)

pub record RightFacts (s : State) (X : ℕ → Bool) (c : Certificate) (p q : ℕ) : Type 0 where
  pub out_takes : T (can_take s p q) → T (c.out p) → T (c.out q)
  pub into_taken : T (can_take s p q) → T (c.into q) → T (c.into p)
  pub out_grants : T (can_grant s p q) → T (c.out p) → T (c.into q)
  pub out_granted : T (can_grant s p q) → T (c.out q) → T (c.into p)
  pub giver_into : T (can_grant s p q) → T (X q) → T (c.into p)

-- Closed: all conditions but that O and X lack the right.
pub record Closed (s : State) (X : ℕ → Bool) (c : Certificate) : Type 0 where
  pub vertex : (p : ℕ) → p < s.size → VertexFacts s X c p
  pub right : (p q : ℕ) → p < s.size → q < s.size → RightFacts s X c p q

pub record Right (s : State) (X : ℕ → Bool) (r : ℕ) (Y : ℕ → Bool) (c : Certificate) : Type 0 where
  pub holder_lacks : (p y : ℕ) → p < s.size → y < s.size → T (X p) → T (Y y) → T (s.has p r y) → ⊥
  pub out_lacks : (p y : ℕ) → p < s.size → y < s.size → T (c.out p) → T (Y y) → T (s.has p r y) → ⊥
  pub closed : Closed s X c

module _ (s : State) (X : ℕ → Bool) (c : Certificate) where
  pub vertex_facts : (p : ℕ) → T (vertex_fits s X c p) → VertexFacts s X c p
  unfolding vertex_fits
  vertex_facts p t =
      record {
        acts = λ j. (parts (is_subject s p) _ (inner j)).0;
        inner_out = λ j. (parts (c.out p) _ (parts (is_subject s p) _ (inner j)).1).0;
        inner_into = λ j. (parts (c.out p) _ (parts (is_subject s p) _ (inner j)).1).1;
        out_inner = λ a o. implied (is_subject s p && (c.out p || c.into p)) _ rest.0 (both (is_subject s p) _ a (left (c.out p) _ o));
        into_inner = λ a i. implied (is_subject s p && (c.out p || c.into p)) _ rest.0 (both (is_subject s p) _ a (right (c.out p) _ i));
        holder_into = λ a x. implied (X p && is_subject s p) _ rest.1 (both (X p) _ x a);
      }
    where
      inner : T (c.inner p) → T (is_subject s p && (c.out p && c.into p))
      inner j = implied (c.inner p) _ (parts (implies (c.inner p) (is_subject s p && (c.out p && c.into p))) _ t).0 j

      rest : T (implies (is_subject s p && (c.out p || c.into p)) (c.inner p)) × T (implies (X p && is_subject s p) (c.into p))
      rest =
          parts (implies (is_subject s p && (c.out p || c.into p)) (c.inner p)) _
          (parts (implies (c.inner p) (is_subject s p && (c.out p && c.into p))) _ t).1

  pub vertex_fits-law : (p : ℕ) → VertexFacts s X c p → T (vertex_fits s X c p)
  unfolding vertex_fits
  vertex_fits-law p f =
      both (implies (c.inner p) (is_subject s p && (c.out p && c.into p))) _
      (implying (c.inner p) _ (λ j. both (is_subject s p) _ (f.acts j) (both (c.out p) _ (f.inner_out j) (f.inner_into j))))
      (both (implies (is_subject s p && (c.out p || c.into p)) (c.inner p)) _ (implying (is_subject s p && (c.out p || c.into p)) _ to_inner)
      (implying (X p && is_subject s p) _ (λ t. f.holder_into (parts (X p) _ t).1 (parts (X p) _ t).0)))
    where
      to_inner : T (is_subject s p && (c.out p || c.into p)) → T (c.inner p)
      to_inner t =
          let u = parts (is_subject s p) _ t in
          elim (cases (c.out p) _ u.1) [ inl o ↦ f.out_inner u.0 o | inr i ↦ f.into_inner u.0 i ]

  pub right_facts : (p q : ℕ) → T (right_fits s X c p q) → RightFacts s X c p q
  unfolding right_fits take_fits grant_fits
  right_facts p q t =
      record {
        out_takes = λ h o. implied (c.out p) _ (take h).0 o;
        into_taken = λ h i. implied (c.into q) _ (take h).1 i;
        out_grants = λ g o. implied (c.out p) _ (grant g).0 o;
        out_granted = λ g o. implied (c.out q) _ (parts (implies (c.out q) (c.into p)) _ (grant g).1).0 o;
        giver_into = λ g x. implied (X q) _ (parts (implies (c.out q) (c.into p)) _ (grant g).1).1 x;
      }
    where
      take : T (can_take s p q) → T (implies (c.out p) (c.out q)) × T (implies (c.into q) (c.into p))
      take h =
          parts (implies (c.out p) (c.out q)) _ (implied (can_take s p q) _ (parts (implies (can_take s p q) (take_fits c p q)) _ t).0 h)

      grant : T (can_grant s p q) → T (implies (c.out p) (c.into q)) × T (implies (c.out q) (c.into p) && implies (X q) (c.into p))
      grant g =
          parts (implies (c.out p) (c.into q)) _ (implied (can_grant s p q) _ (parts (implies (can_take s p q) (take_fits c p q)) _ t).1 g)

  pub right_fits-law : (p q : ℕ) → RightFacts s X c p q → T (right_fits s X c p q)
  unfolding right_fits take_fits grant_fits
  right_fits-law p q f =
      both (implies (can_take s p q) (take_fits c p q)) _
      (implying (can_take s p q) _ (λ h.
      both (implies (c.out p) (c.out q)) _ (implying (c.out p) _ (f.out_takes h)) (implying (c.into q) _ (f.into_taken h))))
      (implying (can_grant s p q) _ (λ g.
      both (implies (c.out p) (c.into q)) _ (implying (c.out p) _ (f.out_grants g))
      (both (implies (c.out q) (c.into p)) _ (implying (c.out q) _ (f.out_granted g)) (implying (X q) _ (f.giver_into g)))))

  pub closed_to : ClosedFor s X c → Closed s X c
  closed_to h =
      record {
        vertex = λ p l. vertex_facts p (all_at s.size (vertex_fits s X c) h.vertices p l);
        right = λ p q l m. right_facts p q (all_at s.size (right_fits s X c p) (all_at s.size _ h.rights p l) q m);
      }

  pub closed_from : Closed s X c → ClosedFor s X c
  closed_from f =
      record {
        vertices = all_from s.size (vertex_fits s X c) (λ p l. vertex_fits-law p (f.vertex p l));
        rights = all_from s.size _ (λ p l. all_from s.size (right_fits s X c p) (λ q m. right_fits-law p q (f.right p q l m)));
      }

module _ (s : State) (X : ℕ → Bool) (r : ℕ) (Y : ℕ → Bool) (c : Certificate) where
  pub right_to : T (is_right s X r Y c) → Right s X r Y c
  unfolding is_right lacks
  right_to t =
      record {
        holder_lacks = λ p y l m x. without p y l m (left (X p) _ x);
        out_lacks = λ p y l m o. without p y l m (right (X p) _ o);
        closed = closed_to s X c (record { vertices = rest.0; rights = rest.1 });
      }
    where
      rest : T (all_below s.size (vertex_fits s X c)) × T (all_below s.size (λ p. all_below s.size (right_fits s X c p)))
      rest = parts (all_below s.size (vertex_fits s X c)) _ (parts (all_below s.size (lacks s X r Y c)) _ t).1

      without : (p y : ℕ) → p < s.size → y < s.size → T (X p || c.out p) → T (Y y) → T (s.has p r y) → ⊥
      without p y l m h k =
          T_not (s.has p r y) (implied (Y y) _ (all_at s.size (λ z. implies (Y z) (not (s.has p r z)))
          (implied (X p || c.out p) _ (all_at s.size (lacks s X r Y c) (parts (all_below s.size (lacks s X r Y c)) _ t).0 p l) h) y m) k)

  pub right_from : Right s X r Y c → T (is_right s X r Y c)
  unfolding is_right lacks
  right_from f =
      both (all_below s.size (lacks s X r Y c)) _
      (all_from s.size (lacks s X r Y c) (λ p l.
      implying (X p || c.out p) _ (λ h. all_from s.size _ (λ y m. implying (Y y) _ (λ k. not_T (s.has p r y) (without p y l m h k))))))
      (both (all_below s.size (vertex_fits s X c)) _ fits.vertices fits.rights)
    where
      fits : ClosedFor s X c
      fits = closed_from s X c f.closed

      without : (p y : ℕ) → p < s.size → y < s.size → T (X p || c.out p) → T (Y y) → T (s.has p r y) → ⊥
      without p y l m h k = elim (cases (X p) _ h) [ inl x ↦ f.holder_lacks p y l m x k | inr o ↦ f.out_lacks p y l m o k ]

-- A closed certificate whose O lacks the right is a barrier.
pub closed_barrier :
    (s : State) → WellFormed s → (X : ℕ → Bool) (c : Certificate) → Closed s X c → (r : ℕ) (Y : ℕ → Type 0) →
    ((p y : ℕ) → In s.size c.out p → Y y → T (s.has p r y) → ⊥) →
    Barrier s (In s.size X) r Y (In s.size c.inner) (In s.size c.out) (In s.size c.into)
closed_barrier s wf X c f r Y without =
    record {
      out_lacks = without;
      inner_out = λ p j. (j.0, (f.vertex p j.0).inner_out j.1);
      inner_into = λ p j. (j.0, (f.vertex p j.0).inner_into j.1);
      out_inner = λ p a o. (o.0, (f.vertex p o.0).out_inner a o.1);
      into_inner = λ p a i. (i.0, (f.vertex p i.0).into_inner a i.1);
      holder_into = λ p a x. (x.0, (f.vertex p x.0).holder_into a x.1);
      giver_into = λ p q g x. (from p grant_right q g, (f.right p q (from p grant_right q g) x.0).giver_into g x.1);
      out_takes = λ p q t o. (to p take_right q t, (f.right p q o.0 (to p take_right q t)).out_takes t o.1);
      into_taken = λ p q t i. (from p take_right q t, (f.right p q (from p take_right q t) i.0).into_taken t i.1);
      out_grants = λ p q g o. (to p grant_right q g, (f.right p q o.0 (to p grant_right q g)).out_grants g o.1);
      out_granted = λ p q g o. (from p grant_right q g, (f.right p q (from p grant_right q g) o.0).out_granted g o.1);
    }
  where
    from : (p k q : ℕ) → T (s.has p k q) → p < s.size
    from = wf.holder

    to : (p k q : ℕ) → T (s.has p k q) → q < s.size
    to = wf.target

module _ (s : State) (wf : WellFormed s) (X : ℕ → Bool) (r : ℕ) (Y : ℕ → Bool) (c : Certificate) (h : T (is_right s X r Y c)) where
  facts : Right s X r Y c
  facts = right_to s X r Y c h

  pub right_barrier : Barrier s (In s.size X) r (In s.size Y) (In s.size c.inner) (In s.size c.out) (In s.size c.into)
  right_barrier = closed_barrier s wf X c facts.closed r (In s.size Y) (λ p y o k. facts.out_lacks p y o.0 k.0 o.1 k.1)

  pub right_lacking : Lacking s (In s.size X) r (In s.size Y)
  right_lacking x y hx hy = facts.holder_lacks x y hx.0 hy.0 hx.1 hy.1

  -- A right certificate, whoever wrote it, shows that none of X can share, and that none ever has, the right to any of Y.
  pub right_no_share : (x y : ℕ) → In s.size X x → In s.size Y y → CanShare s x r y → ⊥
  right_no_share x y hx hy (inl t) = right_lacking x y hx hy t
  right_no_share x y hx hy (inr g) = barrier_bars s _ r _ _ _ _ right_barrier x y hx hy g

  pub right_never : (rules : List Rule) (x y : ℕ) → In s.size X x → In s.size Y y → T ((after s rules).has x r y) → ⊥
  right_never rules =
      barred_never s wf (In s.size X) r (In s.size Y) (λ x k. k.0) (λ y k. k.0)
      (record { J = _; O = _; I = _; barrier = right_barrier }) right_lacking rules
