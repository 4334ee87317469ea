-- The certificate of a no is closed, it is the least that is, and it is right exactly where none can share.
use Rattle.std.proofs.Common.{◌≡◌, ℕ, ◌<◌, Bool, not, ◌&&◌, T, subst, inl, inr, eqb→eq, T_not}
use lib.Dec.{eqb_refl, not_T}
use Rattle.model.specs.State.{State, WellFormed, is_subject}
use Rattle.model.specs.Bounded.{some_below, only}
use Rattle.model.specs.Sharing.{can_get, CanGet, can_share, CanShare}
use Rattle.model.specs.Certificates.{Certificate, is_right, inner_of, out_of, into_of, certificate_of}
use Rattle.model.proofs.Tests.{both, parts, same, Some, some_from, some_below-law}
use Rattle.model.proofs.Readings.{subject_vertex, can_get-to, can_get-from, can_share-to, can_share-from}
use Rattle.model.proofs.Barrier.{Barrier, Inner, Out, Into, inner_subject, least_barrier, out_gets, out_get, get_out, inner_least, out_least, into_least}
use Rattle.model.proofs.Right.{In, VertexFacts, Closed, right_from, closed_barrier, right_no_share}
use Rattle.model.proofs.Sets.{inner_of-to, inner_of-from, out_of-to, out_of-from, into_of-to, into_of-from}

module _ (s : State) (wf : WellFormed s) (X : ℕ → Bool) where
  -- Whatever can be shared, the sets of the certificate are closed.
  pub certificate_closed : Closed s X (certificate_of s X)
  certificate_closed =
      record {
        vertex = λ p l.
            record {
              acts = λ j. inner_subject s _ p (inner_of-to s X p j);
              inner_out = λ j. out_of-from s wf X p (b.inner_out p (inner_of-to s X p j));
              inner_into = λ j. into_of-from s wf X p (b.inner_into p (inner_of-to s X p j));
              out_inner = λ a o. inner_of-from s wf X p (b.out_inner p a (out_of-to s X p o));
              into_inner = λ a i. inner_of-from s wf X p (b.into_inner p a (into_of-to s X p i));
              holder_into = λ a x. into_of-from s wf X p (b.holder_into p a (l, x));
            };
        right = λ p q l m.
            record {
              out_takes = λ t o. out_of-from s wf X q (b.out_takes p q t (out_of-to s X p o));
              into_taken = λ t i. into_of-from s wf X p (b.into_taken p q t (into_of-to s X q i));
              out_grants = λ g o. into_of-from s wf X q (b.out_grants p q g (out_of-to s X p o));
              out_granted = λ g o. into_of-from s wf X p (b.out_granted p q g (out_of-to s X q o));
              giver_into = λ g x. into_of-from s wf X p (b.giver_into p q g (m, x));
            };
      }
    where
      b : Barrier s (In s.size X) 0 (λ y. ⊥) (Inner s (In s.size X)) (Out s (In s.size X)) (Into s (In s.size X))
      b = least_barrier s (In s.size X) 0 (λ y. ⊥) (λ p y o h t. h)

  -- Where none of X can share the right to any of Y, the certificate is right.
  pub certificate_right :
      (r : ℕ) (Y : ℕ → Bool) → ((x y : ℕ) → In s.size X x → In s.size Y y → CanShare s x r y → ⊥) → T (is_right s X r Y (certificate_of s X))
  certificate_right r Y none =
      right_from s X r Y (certificate_of s X) (record {
        holder_lacks = λ p y l m x h t. none p y (l, x) (m, h) (inl t);
        out_lacks = λ p y l m o h t.
            out_gets s (In s.size X) r (In s.size Y) (λ x z hx hz g. none x z hx hz (inr g)) p y (out_of-to s X p o) (m, h) t;
        closed = certificate_closed;
      })

  -- And it is the least of all that are closed.
  module _ (c : Certificate) (f : Closed s X c) where
    closed_any : Barrier s (In s.size X) 0 (λ y. ⊥) (In s.size c.inner) (In s.size c.out) (In s.size c.into)
    closed_any = closed_barrier s wf X c f 0 (λ y. ⊥) (λ p y o h t. h)

    pub certificate_inner : (p : ℕ) → T (inner_of s X p) → T (c.inner p)
    certificate_inner p t = (inner_least s _ 0 _ _ _ _ closed_any p (inner_of-to s X p t)).1

    pub certificate_out : (p : ℕ) → T (out_of s X p) → T (c.out p)
    certificate_out p t = (out_least s _ 0 _ _ _ _ closed_any p (out_of-to s X p t)).1

    pub certificate_into : (p : ℕ) → T (into_of s X p) → T (c.into p)
    certificate_into p t = (into_least s _ 0 _ _ _ _ closed_any p (into_of-to s X p t)).1

  subject_facts : (p : ℕ) → T (is_subject s p) → VertexFacts s X (certificate_of s X) p
  subject_facts p a = certificate_closed.vertex p (subject_vertex s p a)

  inner_facts : (p : ℕ) → T (inner_of s X p) → VertexFacts s X (certificate_of s X) p
  inner_facts p j = subject_facts p (inner_subject s _ p (inner_of-to s X p j))

  -- J is what are subjects of O, and of I.
  pub inner_by_out : (p : ℕ) → inner_of s X p ≡ (is_subject s p && out_of s X p)
  inner_by_out p =
      same _ _ (λ j. both (is_subject s p) _ ((inner_facts p j).acts j) ((inner_facts p j).inner_out j))
      (λ t. let u = parts (is_subject s p) _ t in (subject_facts p u.0).out_inner u.0 u.1)

  pub inner_by_into : (p : ℕ) → inner_of s X p ≡ (is_subject s p && into_of s X p)
  inner_by_into p =
      same _ _ (λ j. both (is_subject s p) _ ((inner_facts p j).acts j) ((inner_facts p j).inner_into j))
      (λ t. let u = parts (is_subject s p) _ t in (subject_facts p u.0).into_inner u.0 u.1)

-- What x can get is what O of x has.
pub get_by_out :
    (s : State) → WellFormed s → (x r y : ℕ) → x < s.size → can_get s x r y ≡ some_below s.size (λ t. out_of s (only x) t && s.has t r y)
get_by_out s wf x r y l = same _ _ (λ t. got (can_get-to s x r y t)) (λ t. held (some_below-law s.size _ t))
  where
    got : CanGet s x r y → T (some_below s.size (λ t. out_of s (only x) t && s.has t r y))
    got g =
        some_from s.size _ g.holder (wf.holder g.holder r y g.holds)
        (both (out_of s (only x) g.holder) _ (out_of-from s wf (only x) g.holder (get_out s _ x r y (l, eqb_refl x) g)) g.holds)

    held : Some s.size (λ t. out_of s (only x) t && s.has t r y) → T (can_get s x r y)
    held k =
        let u = parts (out_of s (only x) k.at) _ k.passes in
        let o = out_of-to s (only x) k.at u.0 in
        can_get-from s wf x r y (subst (λ z. CanGet s z r y) (eqb→eq o.inner.holder x o.inner.is.1) (out_get s _ k.at r y o u.1))

-- Of one holder and one target: the certificate is right exactly where x cannot share the right to y.
pub certificate_decides :
    (s : State) → WellFormed s → (x r y : ℕ) → x < s.size → y < s.size →
    is_right s (only x) r (only y) (certificate_of s (only x)) ≡ not (can_share s x r y)
certificate_decides s wf x r y hx hy =
    same _ _ (λ h. not_T (can_share s x r y) (λ t. shown h (can_share-to s x r y t)))
    (λ u. certificate_right s wf (only x) r (only y) (λ a b ha hb g.
    T_not (can_share s x r y) u (can_share-from s wf x r y (moved a b (eqb→eq a x ha.1) (eqb→eq b y hb.1) g))))
  where
    shown : T (is_right s (only x) r (only y) (certificate_of s (only x))) → CanShare s x r y → ⊥
    shown h g = right_no_share s wf (only x) r (only y) (certificate_of s (only x)) h x y (hx, eqb_refl x) (hy, eqb_refl y) g

    moved : (a b : ℕ) → a ≡ x → b ≡ y → CanShare s a r b → CanShare s x r y
    moved a b d e g = subst (λ z. CanShare s z r y) d (subst (λ z. CanShare s a r z) e g)
