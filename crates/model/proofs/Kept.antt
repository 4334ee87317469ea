-- A rule keeps a barrier. No path is followed through a rule: it is enough that the barrier bears the one right that is new.
use Rattle.std.proofs.Common.{◌≡◌, ℕ, ◌<◌, Bool, T, sym, refl, subst, inl, inr, arith}
use Rattle.model.specs.State.{State, WellFormed, is_subject, take_right, grant_right}
use Rattle.model.specs.Rules.{given, created}
use Rattle.model.proofs.Readings.{subject_vertex}
use Rattle.model.proofs.Barrier.{Barrier, Lacking}
use Rattle.model.proofs.Steps.{Same, given_has, created_has, created_subject, TakeHolds, GrantHolds}

-- What a barrier asks of the right k of p to q.
pub record Bears (X : ℕ → Type 0) (r : ℕ) (Y J O I : ℕ → Type 0) (p k q : ℕ) : Type 0 where
  pub lacks : k ≡ r → O p → Y q → ⊥
  pub gives : k ≡ grant_right → X q → I p
  pub takes : k ≡ take_right → O p → O q
  pub taken : k ≡ take_right → I q → I p
  pub grants : k ≡ grant_right → O p → I q
  pub granted : k ≡ grant_right → O q → I p

module _ (s : State) (X : ℕ → Type 0) (r : ℕ) (Y J O I : ℕ → Type 0) (b : Barrier s X r Y J O I) where
  bears : (p k q : ℕ) → T (s.has p k q) → Bears X r Y J O I p k q
  bears p k q t =
      record {
        lacks = λ e o y. b.out_lacks p q o y (as_right r e);
        gives = λ e x. b.giver_into p q (as_right grant_right e) x;
        takes = λ e o. b.out_takes p q (as_right take_right e) o;
        taken = λ e i. b.into_taken p q (as_right take_right e) i;
        grants = λ e o. b.out_grants p q (as_right grant_right e) o;
        granted = λ e o. b.out_granted p q (as_right grant_right e) o;
      }
    where
      as_right : (j : ℕ) → k ≡ j → T (s.has p j q)
      as_right j e = subst (λ i. T (s.has p i q)) e t

  -- A state whose subjects were subjects and whose rights the barrier bears has the same barrier.
  pub borne :
      (t : State) → ((p : ℕ) → T (is_subject t p) → T (is_subject s p)) → ((p k q : ℕ) → T (t.has p k q) → Bears X r Y J O I p k q) →
      Barrier t X r Y J O I
  borne t acts right =
      record {
        out_lacks = λ p y o h u. (right p r y u).lacks refl o h;
        inner_out = b.inner_out;
        inner_into = b.inner_into;
        out_inner = λ p a o. b.out_inner p (acts p a) o;
        into_inner = λ p a i. b.into_inner p (acts p a) i;
        holder_into = λ p a x. b.holder_into p (acts p a) x;
        giver_into = λ p q g x. (right p grant_right q g).gives refl x;
        out_takes = λ p q u o. (right p take_right q u).takes refl o;
        into_taken = λ p q u i. (right p take_right q u).taken refl i;
        out_grants = λ p q g o. (right p grant_right q g).grants refl o;
        out_granted = λ p q g o. (right p grant_right q g).granted refl o;
      }

  pub fewer :
      (t : State) → ((p : ℕ) → T (is_subject t p) → T (is_subject s p)) → ((p k q : ℕ) → T (t.has p k q) → T (s.has p k q)) → Barrier t X r Y J O I
  fewer t acts right = borne t acts (λ p k q h. bears p k q (right p k q h))

  given_borne : (p k q : ℕ) → Bears X r Y J O I p k q → Barrier (given p k q s) X r Y J O I
  given_borne p k q new =
      borne (given p k q s) (λ z a. a) (λ x j y h. elim (given_has p k q s x j y h) [ inl e ↦ moved x j y e | inr u ↦ bears x j y u ])
    where
      moved : (x j y : ℕ) → Same p k q x j y → Bears X r Y J O I x j y
      moved x j y e =
          subst (λ z. Bears X r Y J O I z j y) e.holder
          (subst (λ z. Bears X r Y J O I p z y) e.right (subst (λ z. Bears X r Y J O I p k z) e.target new))

  -- What is taken from a vertex is borne as that vertex's own right was.
  pub take_kept : (p f k q : ℕ) → TakeHolds s p f k q → Barrier (given p k q s) X r Y J O I
  take_kept p f k q h =
      given_borne p k q (record {
        lacks = λ e o y. old.lacks e (from_source o) y;
        gives = λ e x. to_taker (old.gives e x);
        takes = λ e o. old.takes e (from_source o);
        taken = λ e i. to_taker (old.taken e i);
        grants = λ e o. old.grants e (from_source o);
        granted = λ e o. to_taker (old.granted e o);
      })
    where
      old : Bears X r Y J O I f k q
      old = bears f k q h.held

      from_source : O p → O f
      from_source = b.out_takes p f h.takes

      to_taker : I f → I p
      to_taker = b.into_taken p f h.takes

  -- Whoever grants into O, or grants what concerns I, is a subject in I, so in J.
  actor_out : (p : ℕ) → T (is_subject s p) → I p → O p
  actor_out p a i = b.inner_out p (b.into_inner p a i)

  pub grant_kept : (p t k q : ℕ) → GrantHolds s p t k q → Barrier (given t k q s) X r Y J O I
  grant_kept p t k q h =
      given_borne t k q (record {
        lacks = λ e o y. old.lacks e (from_granter o) y;
        gives = λ e x. to_receiver (old.gives e x);
        takes = λ e o. old.takes e (from_granter o);
        taken = λ e i. to_receiver (old.taken e i);
        grants = λ e o. old.grants e (from_granter o);
        granted = λ e o. to_receiver (old.granted e o);
      })
    where
      old : Bears X r Y J O I p k q
      old = bears p k q h.held

      from_granter : O t → O p
      from_granter o = actor_out p h.acts (b.out_granted p t h.grants o)

      to_receiver : I p → I t
      to_receiver i = b.out_grants p t h.grants (actor_out p h.acts i)

  -- None of the holders comes to have the right by a take or a grant.
  pub take_lacking : (p f k q : ℕ) → TakeHolds s p f k q → Lacking s X r Y → Lacking (given p k q s) X r Y
  take_lacking p f k q h none x y hx hy t =
      elim (given_has p k q s x r y t) [
        | inl e ↦ (bears f k q h.held).lacks e.right (taker_out (subst X (sym e.holder) hx)) (subst Y (sym e.target) hy)
        | inr u ↦ none x y hx hy u
      ]
    where
      taker_out : X p → O f
      taker_out i = b.out_takes p f h.takes (actor_out p h.acts (b.holder_into p h.acts i))

  pub grant_lacking : (p t k q : ℕ) → GrantHolds s p t k q → Lacking s X r Y → Lacking (given t k q s) X r Y
  grant_lacking p t k q h none x y hx hy u =
      elim (given_has t k q s x r y u) [
        | inl e ↦ (bears p k q h.held).lacks e.right (granter_out (subst X (sym e.holder) hx)) (subst Y (sym e.target) hy)
        | inr v ↦ none x y hx hy v
      ]
    where
      granter_out : X t → O p
      granter_out i = actor_out p h.acts (b.giver_into p t h.grants i)

-- At a creation the new vertex is in O and I if its creator is in J, and in J if it is a subject too.
pub data With (n : ℕ) (P : ℕ → Type 0) (Q : Type 0) (p : ℕ) : Type 0 where
  was : p < n → P p → With n P Q p
  new : p ≡ n → Q → With n P Q p

with_map : {P R : ℕ → Type 0} {Q W : Type 0} (n p : ℕ) → ((k : ℕ) → P k → R k) → (Q → W) → With n P Q p → With n R W p
with_map n p f g (was l h) = was l (f p h)
with_map n p f g (new e h) = new e (g h)

at_old : {P : ℕ → Type 0} {Q : Type 0} (n p : ℕ) → p < n → With n P Q p → P p
at_old n p l (was m h) = h
at_old n p l (new e h) = absurd (omega arith)

at_new : {P : ℕ → Type 0} {Q : Type 0} (n p : ℕ) → p ≡ n → With n P Q p → Q
at_new n p e (was l h) = absurd (omega arith)
at_new n p e (new d h) = h

module _ (s : State) (wf : WellFormed s) (X : ℕ → Type 0) (r : ℕ) (Y J O I : ℕ → Type 0) (b : Barrier s X r Y J O I)
    (below-x : (x : ℕ) → X x → x < s.size) (below-y : (y : ℕ) → Y y → y < s.size)
    (who : ℕ) (acting : Bool) (rights : ℕ) (acts : T (is_subject s who)) where
  -- Each right is of the creator to the new vertex, or was there before.
  right_cases :
      {P : Type 0} (p k q : ℕ) → T ((created who acting rights s).has p k q) → (p ≡ who → q ≡ s.size → P) →
      (p < s.size → q < s.size → T (s.has p k q) → P) → P
  right_cases p k q t f g =
      elim (created_has who acting rights s p k q t) [ inl e ↦ f e.0 e.1 | inr h ↦ g (wf.holder p k q h) (wf.target p k q h) h ]

  to_old : {P : Type 0} (p k q : ℕ) → T ((created who acting rights s).has p k q) → q < s.size → (p < s.size → T (s.has p k q) → P) → P
  to_old p k q t l g = right_cases p k q t (λ e d. absurd (omega arith)) (λ h _ u. g h u)

  creator_inner : (p : ℕ) → p ≡ who → With s.size O (J who) p → J who
  creator_inner p e o = b.out_inner who acts (subst O e (at_old s.size p (omega (arith, subject_vertex s who acts)) o))

  creator_into : (p : ℕ) → p ≡ who → J who → With s.size I (J who) p
  creator_into p e j = was (omega (arith, subject_vertex s who acts)) (subst I (sym e) (b.inner_into who j))

  pub created_kept :
      Barrier (created who acting rights s) X r Y (With s.size J (J who × T acting)) (With s.size O (J who)) (With s.size I (J who))
  created_kept =
      record {
        out_lacks = λ p y o h u. to_old p r y u (below-y y h) (λ l t. b.out_lacks p y (at_old s.size p l o) h t);
        inner_out = λ p j. with_map s.size p b.inner_out (λ h. h.0) j;
        inner_into = λ p j. with_map s.size p b.inner_into (λ h. h.0) j;
        out_inner = λ p a o. subject_inner p a (at_new s.size p) (λ l t w. b.out_inner p t (at_old s.size p l w)) o;
        into_inner = λ p a i. subject_inner p a (at_new s.size p) (λ l t w. b.into_inner p t (at_old s.size p l w)) i;
        holder_into = λ p a x. was (below-x p x) (b.holder_into p (old_subject p a (below-x p x)) x);
        giver_into = λ p q g x. to_old p grant_right q g (below-x q x) (λ l t. was l (b.giver_into p q t x));
        out_takes = λ p q u o.
            right_cases p take_right q u (λ e d. new d (creator_inner p e o)) (λ l m t. was m (b.out_takes p q t (at_old s.size p l o)));
        into_taken = λ p q u i.
            right_cases p take_right q u (λ e d. creator_into p e (at_new s.size q d i))
            (λ l m t. was l (b.into_taken p q t (at_old s.size q m i)));
        out_grants = λ p q g o.
            right_cases p grant_right q g (λ e d. new d (creator_inner p e o)) (λ l m t. was m (b.out_grants p q t (at_old s.size p l o)));
        out_granted = λ p q g o.
            right_cases p grant_right q g (λ e d. creator_into p e (at_new s.size q d o))
            (λ l m t. was l (b.out_granted p q t (at_old s.size q m o)));
      }
    where
      old_subject : (p : ℕ) → T (is_subject (created who acting rights s) p) → p < s.size → T (is_subject s p)
      old_subject p a l = elim (created_subject who acting rights s p a) [ inl e ↦ absurd (omega (arith, e.0)) | inr t ↦ t ]

      subject_inner :
          {W : Type 0} (p : ℕ) → T (is_subject (created who acting rights s) p) → (p ≡ s.size → W → J who) →
          (p < s.size → T (is_subject s p) → W → J p) → W → With s.size J (J who × T acting) p
      subject_inner p a f g w =
          elim (created_subject who acting rights s p a) [
            | inl e ↦ new e.0 (f e.0 w, e.1)
            | inr t ↦ was (subject_vertex s p t) (g (subject_vertex s p t) t w)
          ]
