-- The search, round by round: what was found belongs to O and I of the certificate of x, and where a round finds nothing it is all of O.
use Rattle.std.proofs.Common.{◌≡◌, ℕ, ◌<◌, Bool, true, false, not, ◌&&◌, ◌||◌, T, eqb, ◌⊎◌, sym, refl, ap, ◌∙◌, subst, inl, inr, arith, eqb→eq, T_not}
use lib.Dec.{eqb_refl, not_T}
use Rattle.model.specs.State.{State, WellFormed, is_subject, take_right, grant_right}
use Rattle.model.specs.Bounded.{only, some_below, all_below, count_below}
use Rattle.model.specs.Closure.{here, next}
use Rattle.model.specs.Spans.{can_take, can_grant, TakePath}
use Rattle.model.specs.Certificates.{out_of, into_of, certificate_of}
use Rattle.model.proofs.Tests.{both, parts, cases, left, right, decide, same, from_true, all_at, Some, some_below-law, SomeBoth, some_both, both_from}
use Rattle.model.proofs.Stars.{append, along, against, one_step}
use Rattle.model.proofs.Readings.{subject_vertex}
use Rattle.model.proofs.Right.{Closed, VertexFacts}
use Rattle.model.proofs.Least.{certificate_closed, certificate_out}
use Rattle.spans.specs.Paths.{path_from}
use Rattle.bits.proofs.Walk.{less_part}
use Rattle.changing.specs.Reached.{of_some, leads_into, reached_from, giver, beside}
use Rattle.changing.proofs.Rounds.{path_to, path_from-law}
use Rattle.bits.proofs.Gathered.{not_all}
use Rattle.changing.proofs.Tested.{some_to, some_from}

-- `entries` is where something can come to x, or to one of `out`.
pub record Searching (s : State) (x : ℕ) (out entries : ℕ → Bool) : Type 0 where
  pub out_sound : (p : ℕ) → T (out p) → T (out_of s (only x) p)
  pub entry_sound : (p : ℕ) → T (entries p) → T (into_of s (only x) p)
  pub holder : T (is_subject s x) → T (entries x)
  pub giving : (p : ℕ) → T (can_grant s p x) → T (entries p)
  pub out_takes : (p q : ℕ) → T (out p) → T (can_take s p q) → T (out q)
  pub out_grants : (p q : ℕ) → T (out p) → T (can_grant s p q) → T (entries q)
  pub out_granted : (p q : ℕ) → T (out q) → T (can_grant s p q) → T (entries p)
  pub out_acts : (p : ℕ) → T (out p) → T (is_subject s p) → T (entries p)

module _ (s : State) (wf : WellFormed s) (few : s.size < 256) (x : ℕ) where
  facts : Closed s (only x) (certificate_of s (only x))
  facts = certificate_closed s wf (only x)

  small : (p : ℕ) → p < s.size → p < 256
  small p l = omega arith

  granter : (p q : ℕ) → T (can_grant s p q) → p < s.size
  granter p q t = wf.holder p grant_right q t

  granted : (p q : ℕ) → T (can_grant s p q) → q < s.size
  granted p q t = wf.target p grant_right q t

  -- Who can give something to one of a set, as a fact and back.
  giver_to : (set : ℕ → Bool) (v : ℕ) → T (giver s set v) → SomeBoth 256 set (λ o. can_grant s v o) ⊎ (T (is_subject s v) × T (set v))
  giver_to set v t =
      elim (cases (of_some set (λ o p. can_grant s p o) v) _ t) [
        | inl u ↦ inl (some_to set (λ o p. can_grant s p o) v u)
        | inr u ↦ inr (parts (is_subject s v) _ u)
      ]

  grants_one : (set : ℕ → Bool) (v o : ℕ) → T (set o) → T (can_grant s v o) → T (giver s set v)
  grants_one set v o m g =
      left (of_some set (λ z p. can_grant s p z) v) _ (some_from set (λ z p. can_grant s p z) v o (small o (granted v o g)) m g)

  acts_in : (set : ℕ → Bool) (v : ℕ) → T (is_subject s v) → T (set v) → T (giver s set v)
  acts_in set v a m = right (of_some set (λ z p. can_grant s p z) v) _ (both (is_subject s v) _ a m)

  pub searching_none :
      (out entries holds-x : ℕ → Bool) → ((p : ℕ) → out p ≡ false) → ((p : ℕ) → holds-x p ≡ eqb p x) → ((p : ℕ) → entries p ≡ giver s holds-x p) →
      Searching s x out entries
  searching_none out entries one none is e =
      record {
        out_sound = λ p t. absurd (subst T (none p) t);
        entry_sound = λ p t. first p (giver_to one p (subst T (e p) t));
        holder = λ a. subst T (sym (e x)) (acts_in one x a (subst T (sym (is x)) (eqb_refl x)));
        giving = λ p g. subst T (sym (e p)) (grants_one one p x (subst T (sym (is x)) (eqb_refl x)) g);
        out_takes = λ p q t. absurd (subst T (none p) t);
        out_grants = λ p q t. absurd (subst T (none p) t);
        out_granted = λ p q t. absurd (subst T (none q) t);
        out_acts = λ p t. absurd (subst T (none p) t);
      }
    where
      is_x : (p : ℕ) → T (one p) → T (only x p)
      is_x p t = subst T (is p) t

      first : (p : ℕ) → SomeBoth 256 one (λ o. can_grant s p o) ⊎ (T (is_subject s p) × T (one p)) → T (into_of s (only x) p)
      first p (inl k) = (facts.right p k.at (granter p k.at k.other) (granted p k.at k.other)).giver_into k.other (is_x k.at k.one)
      first p (inr a) = (facts.vertex p (subject_vertex s p a.0)).holder_into a.0 (is_x p a.1)

  -- What paths lead to from a subject from which one leads to one of I is in O.
  brought : (q e o : ℕ) → T (is_subject s q) → T (into_of s (only x) e) → TakePath s q e → TakePath s q o → T (out_of s (only x) o)
  brought q e o a i v w =
      along (λ z. T (out_of s (only x) z)) (λ b c t h. (facts.right b c (wf.holder b take_right c t) (wf.target b take_right c t)).out_takes t h) w
      (at.inner_out (at.into_inner a
      (against (λ z. T (into_of s (only x) z)) (λ b c t h. (facts.right b c (wf.holder b take_right c t) (wf.target b take_right c t)).into_taken t h) v i)))
    where
      at : VertexFacts s (only x) (certificate_of s (only x)) q
      at = facts.vertex q (subject_vertex s q a)

  -- What is beside one of O is in I.
  beside_into : (set : ℕ → Bool) → ((o : ℕ) → T (set o) → T (out_of s (only x) o)) → (v : ℕ) → T (beside s set v) → T (into_of s (only x) v)
  beside_into set sound v t =
      elim (cases (giver s set v) _ t) [
        | inl u ↦ gives (giver_to set v u)
        | inr u ↦
            let k = some_to set (can_grant s) v u in
            (facts.right k.at v (granter k.at v k.other) (granted k.at v k.other)).out_grants k.other (sound k.at k.one)
      ]
    where
      gives : SomeBoth 256 set (λ o. can_grant s v o) ⊎ (T (is_subject s v) × T (set v)) → T (into_of s (only x) v)
      gives (inl k) = (facts.right v k.at (granter v k.at k.other) (granted v k.at k.other)).out_granted k.other (sound k.at k.one)
      gives (inr a) = let f = facts.vertex v (subject_vertex s v a.0) in f.inner_into (f.out_inner a.0 (sound v a.1))

  module _ (out entries others reached fresh : ℕ → Bool) (inv : Searching s x out entries)
      (others-are : (q : ℕ) → others q ≡ (is_subject s q && not (out q)))
      (reached-is : (o : ℕ) → reached o ≡ reached_from s others entries o)
      (fresh-is : (o : ℕ) → fresh o ≡ (reached o && not (out o))) where
    -- Who brings o, and by which entry.
    pub record Brings (o : ℕ) : Type 0 where
      pub who : ℕ
      pub entry : ℕ
      pub acts : T (is_subject s who)
      pub other : T (others who)
      pub enters : T (entries entry)
      pub to_entry : T (path_from s who entry)
      pub takes : T (path_from s who o)

    brings : (o : ℕ) → T (reached o) → Brings o
    brings o t = by (some_to others (λ q z. leads_into s entries q && path_from s q z) o (subst T (reached-is o) t))
      where
        by : SomeBoth 256 others (λ q. leads_into s entries q && path_from s q o) → Brings o
        by k =
            let u = parts (leads_into s entries k.at) _ k.other in
            let e = some_to entries (λ z p. path_from s p z) k.at u.0 in
            record {
              who = k.at;
              entry = e.at;
              acts = (parts (is_subject s k.at) _ (subst T (others-are k.at) k.one)).0;
              other = k.one;
              enters = e.one;
              to_entry = e.other;
              takes = u.1;
            }

    bringing : (o : ℕ) → Brings o → T (reached o)
    bringing o b =
        subst T (sym (reached-is o)) (some_from others (λ q z. leads_into s entries q && path_from s q z) o b.who
        (small b.who (subject_vertex s b.who b.acts)) b.other
        (both (leads_into s entries b.who) _ (some_from entries (λ z p. path_from s p z) b.who b.entry (small b.entry entry_below) b.enters b.to_entry) b.takes))
      where
        entry_below : b.entry < s.size
        entry_below = path_end (path_to s b.who b.entry b.to_entry).0 (path_to s b.who b.entry b.to_entry).1
          where
            path_end : {p q : ℕ} → p < s.size → TakePath s p q → q < s.size
            path_end l v = along (λ z. z < s.size) (λ a c t _. wf.target a take_right c t) v l

    reached_sound : (o : ℕ) → T (reached o) → T (out_of s (only x) o)
    reached_sound o t =
        let b = brings o t in
        brought b.who b.entry o b.acts (inv.entry_sound b.entry b.enters) (path_to s b.who b.entry b.to_entry).1 (path_to s b.who o b.takes).1

    reached_takes : (p q : ℕ) → T (reached p) → T (can_take s p q) → T (reached q)
    reached_takes p q t k =
        let b = brings p t in
        let v = path_to s b.who p b.takes in
        bringing q (record {
          who = b.who;
          entry = b.entry;
          acts = b.acts;
          other = b.other;
          enters = b.enters;
          to_entry = b.to_entry;
          takes = path_from-law s wf b.who q v.0 (append v.1 (one_step k));
        })

    fresh_reached : (o : ℕ) → T (fresh o) → T (reached o)
    fresh_reached o t = (parts (reached o) _ (subst T (fresh-is o) t)).0

    reached_either : (o : ℕ) → T (reached o) → T (out o) ⊎ T (fresh o)
    reached_either o t =
        elim (decide (out o)) [ inl u ↦ inl u | inr f ↦ inr (subst T (sym (fresh-is o)) (both (reached o) _ t (not_T (out o) f))) ]

    pub searching_more :
        (out' entries' near : ℕ → Bool) → ((o : ℕ) → out' o ≡ (out o || fresh o)) → ((v : ℕ) → near v ≡ beside s fresh v) →
        ((v : ℕ) → entries' v ≡ (entries v || near v)) → Searching s x out' entries'
    searching_more out' entries' near a b d =
        record {
          out_sound = λ p t. elim (which p t) [ inl u ↦ inv.out_sound p u | inr u ↦ reached_sound p (fresh_reached p u) ];
          entry_sound = λ p t.
              elim (cases (entries p) _ (subst T (d p) t)) [
                | inl u ↦ inv.entry_sound p u
                | inr u ↦ beside_into fresh (λ o w. reached_sound o (fresh_reached o w)) p (subst T (b p) u)
              ];
          holder = λ h. more x (inv.holder h);
          giving = λ p t. more p (inv.giving p t);
          out_takes = λ p q t k.
              elim (which p t) [
                | inl u ↦ old q (inv.out_takes p q u k)
                | inr u ↦ elim (reached_either q (reached_takes p q (fresh_reached p u) k)) [ inl w ↦ old q w | inr w ↦ new q w ]
              ];
          out_grants = λ p q t g.
              elim (which p t) [
                | inl u ↦ more q (inv.out_grants p q u g)
                | inr u ↦ nearby q (right (giver s fresh q) _ (some_from fresh (can_grant s) q p (small p (granter p q g)) u g))
              ];
          out_granted = λ p q t g.
              elim (which q t) [ inl u ↦ more p (inv.out_granted p q u g) | inr u ↦ nearby p (left (giver s fresh p) _ (grants_one fresh p q u g)) ];
          out_acts = λ p t k.
              elim (which p t) [ inl u ↦ more p (inv.out_acts p u k) | inr u ↦ nearby p (left (giver s fresh p) _ (acts_in fresh p k u)) ];
        }
      where
        which : (p : ℕ) → T (out' p) → T (out p) ⊎ T (fresh p)
        which p t = cases (out p) _ (subst T (a p) t)

        old : (p : ℕ) → T (out p) → T (out' p)
        old p t = subst T (sym (a p)) (left (out p) _ t)

        new : (p : ℕ) → T (fresh p) → T (out' p)
        new p t = subst T (sym (a p)) (right (out p) _ t)

        more : (p : ℕ) → T (entries p) → T (entries' p)
        more p t = subst T (sym (d p)) (left (entries p) _ t)

        nearby : (p : ℕ) → T (beside s fresh p) → T (entries' p)
        nearby p t = subst T (sym (d p)) (right (entries p) _ (subst T (sym (b p)) t))

    -- Where a round finds nothing new, all was found.
    module _ (none : (o : ℕ) → T (fresh o) → ⊥) where
      into : ℕ → Bool
      into p = some_below s.size (λ e. entries e && path_from s p e)

      enters_at : (p : ℕ) → p < s.size → T (entries p) → T (into p)
      unfolding into
      enters_at p l t = both_from s.size entries (path_from s p) p l t (path_from-law s wf p p l here)

      found_subject : (p : ℕ) → T (is_subject s p) → T (into p) → T (out p)
      unfolding into
      found_subject p a t =
          elim (decide (out p)) [
            | inl o ↦ o
            | inr f ↦ elim (reached_either p (bringing p (here_by f (some_both s.size entries (path_from s p) t)))) [ inl o ↦ o | inr w ↦ absurd (none p w) ]
          ]
        where
          here_by : (T (out p) → ⊥) → SomeBoth s.size entries (path_from s p) → Brings p
          here_by f k =
              record {
                who = p;
                entry = k.at;
                acts = a;
                other = subst T (sym (others-are p)) (both (is_subject s p) _ a (not_T (out p) f));
                enters = k.one;
                to_entry = k.other;
                takes = path_from-law s wf p p (subject_vertex s p a) here;
              }

      closed : Closed s (only x) (record { inner = λ p. is_subject s p && out p; out = out; into = into })
      unfolding into
      closed =
          record {
            vertex = λ p l.
                record {
                  acts = λ j. (parts (is_subject s p) _ j).0;
                  inner_out = λ j. (parts (is_subject s p) _ j).1;
                  inner_into = λ j. let u = parts (is_subject s p) _ j in enters_at p l (inv.out_acts p u.1 u.0);
                  out_inner = λ a o. both (is_subject s p) _ a o;
                  into_inner = λ a i. both (is_subject s p) _ a (found_subject p a i);
                  holder_into = λ a e.
                      enters_at p l (subst (λ z. T (entries z)) (sym (eqb→eq p x e)) (inv.holder (subst (λ z. T (is_subject s z)) (eqb→eq p x e) a)));
                };
            right = λ p q l m.
                record {
                  out_takes = λ t o. inv.out_takes p q o t;
                  into_taken = λ t i.
                      let k = some_both s.size entries (path_from s q) i in
                      both_from s.size entries (path_from s p) k.at k.below k.one
                      (path_from-law s wf p k.at l (next t (path_to s q k.at k.other).1));
                  out_grants = λ g o. enters_at q m (inv.out_grants p q o g);
                  out_granted = λ g o. enters_at p l (inv.out_granted p q o g);
                  giver_into = λ g e. enters_at p l (inv.giving p (subst (λ z. T (can_grant s p z)) (eqb→eq q x e) g));
                };
          }

      pub found_out : (p : ℕ) → out p ≡ out_of s (only x) p
      found_out p = same _ _ (inv.out_sound p) (certificate_out s wf (only x) _ closed p)

-- A round that finds something leaves fewer to find; one that finds nothing has nothing new.
pub fewer_left :
    (out reached fresh out' : ℕ → Bool) → ((o : ℕ) → fresh o ≡ (reached o && not (out o))) → ((o : ℕ) → out' o ≡ (out o || fresh o)) →
    false ≡ all_below 256 (λ k. not (fresh k)) → count_below 256 (λ k. not (out' k)) < count_below 256 (λ k. not (out k))
fewer_left out reached fresh out' a b e = by (some_below-law 256 fresh (from_true _ (sym (not_all 256 fresh fresh (λ k. refl)) ∙ ap not (sym e))))
  where
    by : Some 256 fresh → count_below 256 (λ k. not (out' k)) < count_below 256 (λ k. not (out k))
    by k =
        less_part (λ o. not (out o)) (λ o. not (out' o)) (λ o t. not_T (out o) (λ u. T_not (out' o) t (subst T (sym (b o)) (left (out o) _ u)))) 256 k.at k.below
        (parts (reached k.at) _ (subst T (a k.at) k.passes)).1
        (λ t. T_not (out' k.at) t (subst T (sym (b k.at)) (right (out k.at) _ k.passes)))

pub none_fresh : (fresh : ℕ → Bool) → ((o : ℕ) → T (fresh o) → o < 256) → true ≡ all_below 256 (λ k. not (fresh k)) → (o : ℕ) → T (fresh o) → ⊥
none_fresh fresh bound e o t = T_not (fresh o) (all_at 256 (λ k. not (fresh k)) (from_true _ (sym e)) o (bound o t)) t
