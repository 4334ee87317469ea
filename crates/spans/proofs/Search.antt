-- The search for a barrier: what was found belongs to it, and what was looked at is closed under single rights.
use Rattle.std.proofs.Common.{◌≡◌, ℕ, ◌<◌, Bool, true, false, ◌&&◌, ◌||◌, T, eqb, ◌⊎◌, sym, subst, inl, inr, eqb→eq}
use lib.Dec.{eqb_refl}
use Rattle.model.specs.State.{State, WellFormed, is_subject, take_right, grant_right}
use Rattle.model.specs.Bounded.{only}
use Rattle.model.specs.Spans.{can_take, can_grant}
use Rattle.model.specs.Certificates.{out_of, into_of, certificate_of}
use Rattle.model.proofs.Tests.{both, parts, cases, left, right, same, eq_test}
use Rattle.model.proofs.Readings.{subject_vertex}
use Rattle.model.proofs.Right.{Closed}
use Rattle.model.proofs.Least.{certificate_closed, certificate_out, certificate_into}
use Rattle.spans.specs.Searching.{Searching}

abbrev pub None : (ℕ → Bool) → Type 0
None f = (p : ℕ) → f p ≡ false

module _ (s : State) (wf : WellFormed s) (x : ℕ) where
  facts : Closed s (only x) (certificate_of s (only x))
  facts = certificate_closed s wf (only x)

  none : (f : ℕ → Bool) → None f → (p : ℕ) → T (f p) → ⊥
  none f e p t = subst T (e p) t

  -- What can give something to x is in I.
  giving : (p : ℕ) → T (can_grant s p x) → T (into_of s (only x) p)
  giving p t = (facts.right p x (wf.holder p grant_right x t) (wf.target p grant_right x t)).giver_into t (eqb_refl x)

  holding : T (is_subject s x) → T (into_of s (only x) x)
  holding a = (facts.vertex x (subject_vertex s x a)).holder_into a (eqb_refl x)

  pub searching_none : (out into outSeen intoSeen : ℕ → Bool) → None out → None outSeen → None intoSeen →
      ((p : ℕ) → into p ≡ ((eqb p x && is_subject s x) || can_grant s p x)) → Searching s x out into outSeen intoSeen
  searching_none out into outSeen intoSeen a b c e =
      record {
        out_sound = λ p t. absurd (none out a p t);
        into_sound = λ p t. first p (cases (eqb p x && is_subject s x) _ (subst T (e p) t));
        holder = λ h. subst T (sym (e x)) (left (eqb x x && is_subject s x) _ (both (eqb x x) _ (eqb_refl x) h));
        giver = λ p t. subst T (sym (e p)) (right (eqb p x && is_subject s x) _ t);
        out_takes = λ p q t. absurd (none outSeen b p t);
        out_grants = λ p q t. absurd (none outSeen b p t);
        out_granted = λ p q t. absurd (none outSeen b q t);
        out_acts = λ p t. absurd (none outSeen b p t);
        into_taken = λ p q t. absurd (none intoSeen c q t);
        into_acts = λ p t. absurd (none intoSeen c p t);
      }
    where
      first : (p : ℕ) → T (eqb p x && is_subject s x) ⊎ T (can_grant s p x) → T (into_of s (only x) p)
      first p (inr t) = giving p t
      first p (inl t) =
          let u = parts (eqb p x) _ t in
          subst (λ z. T (into_of s (only x) z)) (sym (eqb→eq p x u.0)) (holding u.1)

  -- What one of O leads to.
  taken : (p q : ℕ) → T (out_of s (only x) p) → T (can_take s p q) → T (out_of s (only x) q)
  taken p q o t = (facts.right p q (wf.holder p take_right q t) (wf.target p take_right q t)).out_takes t o

  beside : (p q : ℕ) → T (out_of s (only x) p) → T (can_grant s p q || ((eqb q p && is_subject s p) || can_grant s q p)) → T (into_of s (only x) q)
  beside p q o t =
      elim (cases (can_grant s p q) _ t) [
        | inl g ↦ (facts.right p q (wf.holder p grant_right q g) (wf.target p grant_right q g)).out_grants g o
        | inr u ↦
            elim (cases (eqb q p && is_subject s p) _ u) [
              | inl v ↦ itself (parts (eqb q p) _ v).0 (parts (eqb q p) _ v).1
              | inr g ↦ (facts.right q p (wf.holder q grant_right p g) (wf.target q grant_right p g)).out_granted g o
            ]
      ]
    where
      itself : T (eqb q p) → T (is_subject s p) → T (into_of s (only x) q)
      itself e a =
          let f = facts.vertex p (subject_vertex s p a) in
          subst (λ z. T (into_of s (only x) z)) (sym (eqb→eq q p e)) (f.inner_into (f.out_inner a o))

  -- What leads to one of I.
  taking : (p q : ℕ) → T (into_of s (only x) q) → T (can_take s p q) → T (into_of s (only x) p)
  taking p q i t = (facts.right p q (wf.holder p take_right q t) (wf.target p take_right q t)).into_taken t i

  acting : (p q : ℕ) → T (into_of s (only x) p) → T (eqb q p && is_subject s p) → T (out_of s (only x) q)
  acting p q i t =
      let u = parts (eqb q p) _ t in
      let f = facts.vertex p (subject_vertex s p u.1) in
      subst (λ z. T (out_of s (only x) z)) (sym (eqb→eq q p u.0)) (f.inner_out (f.into_inner u.1 i))

  module _ (out into outSeen intoSeen : ℕ → Bool) (inv : Searching s x out into outSeen intoSeen) (p : ℕ) where
    -- One of O looked at.
    pub searching_out : (out' into' outSeen' intoSeen' : ℕ → Bool) → T (out p) →
        ((k : ℕ) → out' k ≡ (out k || can_take s p k)) →
        ((k : ℕ) → into' k ≡ (into k || (can_grant s p k || ((eqb k p && is_subject s p) || can_grant s k p)))) →
        ((k : ℕ) → outSeen' k ≡ (eqb k p || outSeen k)) → ((k : ℕ) → intoSeen' k ≡ intoSeen k) → Searching s x out' into' outSeen' intoSeen'
    searching_out out' into' outSeen' intoSeen' o a b d e =
        record {
          out_sound = λ k t. elim (cases (out k) _ (subst T (a k) t)) [ inl u ↦ inv.out_sound k u | inr u ↦ taken p k (inv.out_sound p o) u ];
          into_sound = λ k t. elim (cases (into k) _ (subst T (b k) t)) [ inl u ↦ inv.into_sound k u | inr u ↦ beside p k (inv.out_sound p o) u ];
          holder = λ h. more_into x (inv.holder h);
          giver = λ k t. more_into k (inv.giver k t);
          out_takes = λ k q t u. elim (which k t) [ inl e ↦ new_out q (subst (λ z. T (can_take s z q)) e u) | inr w ↦ more_out q (inv.out_takes k q w u) ];
          out_grants = λ k q t u. elim (which k t) [ inl e ↦ new_into q (left (can_grant s p q) _ (subst (λ z. T (can_grant s z q)) e u)) | inr w ↦ more_into q (inv.out_grants k q w u) ];
          out_granted = λ k q t u. elim (which q t) [
            | inl e ↦ new_into k (right (can_grant s p k) _ (right (eqb k p && is_subject s p) _ (subst (λ z. T (can_grant s k z)) e u)))
            | inr w ↦ more_into k (inv.out_granted k q w u)
          ];
          out_acts = λ k t u. elim (which k t) [
            | inl e ↦ new_into k (right (can_grant s p k) _ (left (eqb k p && is_subject s p) _ (both (eqb k p) _ (eq_test k p e) (subst (λ z. T (is_subject s z)) e u))))
            | inr w ↦ more_into k (inv.out_acts k w u)
          ];
          into_taken = λ k q t u. more_into k (inv.into_taken k q (subst T (e q) t) u);
          into_acts = λ k t u. more_out k (inv.into_acts k (subst T (e k) t) u);
        }
      where
        more_out : (k : ℕ) → T (out k) → T (out' k)
        more_out k t = subst T (sym (a k)) (left (out k) _ t)

        new_out : (k : ℕ) → T (can_take s p k) → T (out' k)
        new_out k t = subst T (sym (a k)) (right (out k) _ t)

        more_into : (k : ℕ) → T (into k) → T (into' k)
        more_into k t = subst T (sym (b k)) (left (into k) _ t)

        new_into : (k : ℕ) → T (can_grant s p k || ((eqb k p && is_subject s p) || can_grant s k p)) → T (into' k)
        new_into k t = subst T (sym (b k)) (right (into k) _ t)

        which : (k : ℕ) → T (outSeen' k) → (k ≡ p) ⊎ T (outSeen k)
        which k t = elim (cases (eqb k p) _ (subst T (d k) t)) [ inl e ↦ inl (eqb→eq k p e) | inr u ↦ inr u ]

    -- One of I looked at.
    pub searching_into : (out' into' outSeen' intoSeen' : ℕ → Bool) → T (into p) →
        ((k : ℕ) → out' k ≡ (out k || (eqb k p && is_subject s p))) →
        ((k : ℕ) → into' k ≡ (into k || can_take s k p)) →
        ((k : ℕ) → outSeen' k ≡ outSeen k) → ((k : ℕ) → intoSeen' k ≡ (eqb k p || intoSeen k)) → Searching s x out' into' outSeen' intoSeen'
    searching_into out' into' outSeen' intoSeen' i a b e d =
        record {
          out_sound = λ k t. elim (cases (out k) _ (subst T (a k) t)) [ inl u ↦ inv.out_sound k u | inr u ↦ acting p k (inv.into_sound p i) u ];
          into_sound = λ k t. elim (cases (into k) _ (subst T (b k) t)) [ inl u ↦ inv.into_sound k u | inr u ↦ taking k p (inv.into_sound p i) u ];
          holder = λ h. more_into x (inv.holder h);
          giver = λ k t. more_into k (inv.giver k t);
          out_takes = λ k q t u. more_out q (inv.out_takes k q (subst T (e k) t) u);
          out_grants = λ k q t u. more_into q (inv.out_grants k q (subst T (e k) t) u);
          out_granted = λ k q t u. more_into k (inv.out_granted k q (subst T (e q) t) u);
          out_acts = λ k t u. more_into k (inv.out_acts k (subst T (e k) t) u);
          into_taken = λ k q t u. elim (which q t) [ inl f ↦ subst T (sym (b k)) (right (into k) _ (subst (λ z. T (can_take s k z)) f u)) | inr w ↦ more_into k (inv.into_taken k q w u) ];
          into_acts = λ k t u. elim (which k t) [
            | inl f ↦ subst T (sym (a k)) (right (out k) _ (both (eqb k p) _ (eq_test k p f) (subst (λ z. T (is_subject s z)) f u)))
            | inr w ↦ more_out k (inv.into_acts k w u)
          ];
        }
      where
        more_out : (k : ℕ) → T (out k) → T (out' k)
        more_out k t = subst T (sym (a k)) (left (out k) _ t)

        more_into : (k : ℕ) → T (into k) → T (into' k)
        more_into k t = subst T (sym (b k)) (left (into k) _ t)

        which : (k : ℕ) → T (intoSeen' k) → (k ≡ p) ⊎ T (intoSeen k)
        which k t = elim (cases (eqb k p) _ (subst T (d k) t)) [ inl e ↦ inl (eqb→eq k p e) | inr u ↦ inr u ]

  -- Where all was looked at, the sets are those of the least barrier.
  module _ (out into outSeen intoSeen : ℕ → Bool) (inv : Searching s x out into outSeen intoSeen)
      (all-out : (p : ℕ) → T (out p) → T (outSeen p)) (all-into : (p : ℕ) → T (into p) → T (intoSeen p)) where
    closed : Closed s (only x) (record { inner = λ p. is_subject s p && out p; out = out; into = into })
    closed =
        record {
          vertex = λ p l.
              record {
                acts = λ j. (parts (is_subject s p) _ j).0;
                inner_out = λ j. (parts (is_subject s p) _ j).1;
                inner_into = λ j. let u = parts (is_subject s p) _ j in inv.out_acts p (all-out p u.1) u.0;
                out_inner = λ a o. both (is_subject s p) _ a o;
                into_inner = λ a i. both (is_subject s p) _ a (inv.into_acts p (all-into p i) a);
                holder_into = λ a e. subst (λ z. T (into z)) (sym (eqb→eq p x e)) (inv.holder (subst (λ z. T (is_subject s z)) (eqb→eq p x e) a));
              };
          right = λ p q l m.
              record {
                out_takes = λ t o. inv.out_takes p q (all-out p o) t;
                into_taken = λ t i. inv.into_taken p q (all-into q i) t;
                out_grants = λ g o. inv.out_grants p q (all-out p o) g;
                out_granted = λ g o. inv.out_granted p q (all-out q o) g;
                giver_into = λ g e. inv.giver p (subst (λ z. T (can_grant s p z)) (eqb→eq q x e) g);
              };
        }

    pub found_out : (p : ℕ) → out p ≡ out_of s (only x) p
    found_out p = same _ _ (inv.out_sound p) (certificate_out s wf (only x) _ closed p)

    pub found_into : (p : ℕ) → into p ≡ into_of s (only x) p
    found_into p = same _ _ (inv.into_sound p) (certificate_into s wf (only x) _ closed p)

  -- Every vertex was reached.
  pub found_all : (out into outSeen intoSeen : ℕ → Bool) → Searching s x out into outSeen intoSeen → ((k : ℕ) → k < s.size → T (out k)) → (k : ℕ) → out k ≡ out_of s (only x) k
  found_all out into outSeen intoSeen inv full k = same _ _ (inv.out_sound k) (certificate_out s wf (only x) _ closed k)
    where
      closed : Closed s (only x) (record { inner = is_subject s; out = out; into = λ p. true })
      closed =
          record {
            vertex = λ p l.
                record { acts = λ j. j; inner_out = λ j. full p l; inner_into = λ j. tt; out_inner = λ a o. a; into_inner = λ a i. a; holder_into = λ a e. tt };
            right = λ p q l m. record { out_takes = λ t o. full q m; into_taken = λ t i. tt; out_grants = λ g o. tt; out_granted = λ g o. tt; giver_into = λ g e. tt };
          }
