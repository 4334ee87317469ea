-- Barriers: three sets of vertices, closed under single rights, across which none of the holders X can get r to any of the targets Y.
-- One stands exactly if nothing of the kind can be got.
use Rattle.std.proofs.Common.{ℕ, T, ◌⊎◌, sym, refl, subst, inl, inr}
use Rattle.model.specs.State.{State, is_subject}
use Rattle.model.specs.Closure.{here, next}
use Rattle.model.specs.Spans.{can_take, can_grant, TakePath, Joins, ahead, back, over, under, Bridge, Connected, Grants, itself, through, InitialSpan}
use Rattle.model.specs.Sharing.{CanGet}
use Rattle.model.proofs.Stars.{append, along, against, one_step}

-- J: subjects on the holders' side; O: what they can take from; I: what can give something to a holder, or to one of J.
pub record Barrier (s : State) (X : ℕ → Type 0) (r : ℕ) (Y : ℕ → Type 0) (J O I : ℕ → Type 0) : Type 0 where
  pub out_lacks : (p y : ℕ) → O p → Y y → T (s.has p r y) → ⊥
  pub inner_out : (p : ℕ) → J p → O p
  pub inner_into : (p : ℕ) → J p → I p
  pub out_inner : (p : ℕ) → T (is_subject s p) → O p → J p
  pub into_inner : (p : ℕ) → T (is_subject s p) → I p → J p
  pub holder_into : (p : ℕ) → T (is_subject s p) → X p → I p
  pub giver_into : (p q : ℕ) → T (can_grant s p q) → X q → I p
  pub out_takes : (p q : ℕ) → T (can_take s p q) → O p → O q
  pub into_taken : (p q : ℕ) → T (can_take s p q) → I q → I p
  pub out_grants : (p q : ℕ) → T (can_grant s p q) → O p → I q
  pub out_granted : (p q : ℕ) → T (can_grant s p q) → O q → I p

-- Some barrier stands.
pub record Barred (s : State) (X : ℕ → Type 0) (r : ℕ) (Y : ℕ → Type 0) : Type 1 where
  pub J : ℕ → Type 0
  pub O : ℕ → Type 0
  pub I : ℕ → Type 0
  pub barrier : Barrier s X r Y J O I

abbrev pub Lacking : State → (ℕ → Type 0) → ℕ → (ℕ → Type 0) → Type 0
Lacking s X r Y = (x y : ℕ) → X x → Y y → T (s.has x r y) → ⊥

abbrev pub NoneGet : State → (ℕ → Type 0) → ℕ → (ℕ → Type 0) → Type 0
NoneGet s X r Y = (x y : ℕ) → X x → Y y → CanGet s x r y → ⊥

module _ (s : State) (X : ℕ → Type 0) (r : ℕ) (Y J O I : ℕ → Type 0) (b : Barrier s X r Y J O I) where
  pub out_along : {p q : ℕ} → TakePath s p q → O p → O q
  out_along v h = along O b.out_takes v h

  pub into_against : {p q : ℕ} → TakePath s p q → I q → I p
  into_against v h = against I b.into_taken v h

  over_joins : (p q : ℕ) → Joins s p q → J p → O q ⊎ I q
  over_joins p q (ahead w) h = inl (out_along w (b.inner_out p h))
  over_joins p q (back w) h = inr (into_against w (b.inner_into p h))
  over_joins p q (over u v w z g) h = inr (into_against z (b.out_grants u v g (out_along w (b.inner_out p h))))
  over_joins p q (under u v w z g) h = inr (into_against z (b.out_granted v u g (out_along w (b.inner_out p h))))

  over_bridge-law : (p q : ℕ) → Bridge s p q → J p → J q
  over_bridge-law p q h j = elim (over_joins p q h.joins j) [ inl o ↦ b.out_inner q h.other o | inr i ↦ b.into_inner q h.other i ]

  giver : (p x : ℕ) → T (is_subject s p) → Grants s p x → X x → J p
  giver p x a (itself e) h = b.into_inner p a (b.holder_into p a (subst X (sym e) h))
  giver p x a (through u w g) h = b.into_inner p a (into_against w (b.giver_into u x g h))

  -- Across a barrier nothing can be got.
  pub barrier_bars : NoneGet s X r Y
  barrier_bars x y hx hy g =
      b.out_lacks g.holder y (out_along g.terminal.takes (b.inner_out g.last last_inner)) hy g.holds
    where
      last_inner : J g.last
      last_inner = along J over_bridge-law g.joined (giver g.first x g.initial.acts g.initial.grants hx)

pub barred_none : (s : State) (X : ℕ → Type 0) (r : ℕ) (Y : ℕ → Type 0) → Barred s X r Y → NoneGet s X r Y
barred_none s X r Y b = barrier_bars s X r Y b.J b.O b.I b.barrier

-- The barrier that stands where nothing can be got. J: all who are connected with some subject that spans initially to one of X.
pub record Inner (s : State) (X : ℕ → Type 0) (q : ℕ) : Type 0 where
  pub holder : ℕ
  pub first : ℕ
  pub is : X holder
  pub initial : InitialSpan s first holder
  pub joined : Connected s first q

-- O: all to which a take path leads from one of J.
pub record Out (s : State) (X : ℕ → Type 0) (t : ℕ) : Type 0 where
  pub first : ℕ
  pub inner : Inner s X first
  pub takes : TakePath s first t

-- Where something could come to one of X or of J.
pub data Entry (s : State) (X : ℕ → Type 0) (e : ℕ) : Type 0 where
  holding : X e → T (is_subject s e) → Entry s X e
  giving : (x : ℕ) → X x → T (can_grant s e x) → Entry s X e
  inside : Inner s X e → Entry s X e
  granting : (o : ℕ) → Out s X o → T (can_grant s e o) → Entry s X e
  granted : (o : ℕ) → Out s X o → T (can_grant s o e) → Entry s X e

-- I: all from which a take path leads to such a place.
pub record Into (s : State) (X : ℕ → Type 0) (p : ℕ) : Type 0 where
  pub last : ℕ
  pub entry : Entry s X last
  pub takes : TakePath s p last

module _ (s : State) (X : ℕ → Type 0) where
  inner_more : (p q : ℕ) → Inner s X p → Bridge s p q → Inner s X q
  inner_more p q h b = record { holder = h.holder; first = h.first; is = h.is; initial = h.initial; joined = append h.joined (one_step b) }

  pub inner_subject : (q : ℕ) → Inner s X q → T (is_subject s q)
  inner_subject q h = along (λ p. T (is_subject s p)) (λ a b e _. e.other) h.joined h.initial.acts

  inner_reached : (q p : ℕ) → T (is_subject s p) → Inner s X q → Joins s q p → Inner s X p
  inner_reached q p a h w = inner_more q p h (record { one = inner_subject q h; other = a; joins = w })

  inner_first : (p x : ℕ) → X x → InitialSpan s p x → Inner s X p
  inner_first p x h i = record { holder = x; first = p; is = h; initial = i; joined = here }

  entered : (p e : ℕ) → T (is_subject s p) → Entry s X e → TakePath s p e → Inner s X p
  entered p e a (holding h t) w = inner_reached e p a (inner_first e e h (record { acts = t; grants = itself refl })) (back w)
  entered p e a (giving x h g) w = inner_first p x h (record { acts = a; grants = through e w g })
  entered p e a (inside h) w = inner_reached e p a h (back w)
  entered p e a (granting o h g) w = inner_reached h.first p a h.inner (under o e h.takes w g)
  entered p e a (granted o h g) w = inner_reached h.first p a h.inner (over o e h.takes w g)

  into_at : (p : ℕ) → Entry s X p → Into s X p
  into_at p e = record { last = p; entry = e; takes = here }

  -- All conditions but the first hold of these sets, whatever can be got.
  pub least_barrier :
      (r : ℕ) (Y : ℕ → Type 0) → ((p y : ℕ) → Out s X p → Y y → T (s.has p r y) → ⊥) → Barrier s X r Y (Inner s X) (Out s X) (Into s X)
  least_barrier r Y lacks =
      record {
        out_lacks = lacks;
        inner_out = λ p j. record { first = p; inner = j; takes = here };
        inner_into = λ p j. into_at p (inside j);
        out_inner = λ p a o. inner_reached o.first p a o.inner (ahead o.takes);
        into_inner = λ p a i. entered p i.last a i.entry i.takes;
        holder_into = λ p a h. into_at p (holding h a);
        giver_into = λ p q g h. into_at p (giving q h g);
        out_takes = λ p q t o. record { first = o.first; inner = o.inner; takes = append o.takes (one_step t) };
        into_taken = λ p q t i. record { last = i.last; entry = i.entry; takes = next t i.takes };
        out_grants = λ p q g o. into_at q (granted p o g);
        out_granted = λ p q g o. into_at p (granting q o g);
      }

  -- What one of O has, one of X can get; and what one of X can get, one of O has.
  pub out_get : (p r y : ℕ) → (o : Out s X p) → T (s.has p r y) → CanGet s o.inner.holder r y
  out_get p r y o t =
      record {
        holder = p;
        first = o.inner.first;
        last = o.first;
        holds = t;
        initial = o.inner.initial;
        terminal = record { acts = inner_subject o.first o.inner; takes = o.takes };
        joined = o.inner.joined;
      }

  pub get_out : (x r y : ℕ) → X x → (g : CanGet s x r y) → Out s X g.holder
  get_out x r y h g =
      record {
        first = g.last;
        inner = record { holder = x; first = g.first; is = h; initial = g.initial; joined = g.joined };
        takes = g.terminal.takes;
      }

  pub out_gets : (r : ℕ) (Y : ℕ → Type 0) → NoneGet s X r Y → (p y : ℕ) → Out s X p → Y y → T (s.has p r y) → ⊥
  out_gets r Y none p y o h t = none o.inner.holder y o.inner.is h (out_get p r y o t)

  -- Where nothing can be got a barrier stands.
  pub none_barred : (r : ℕ) (Y : ℕ → Type 0) → NoneGet s X r Y → Barred s X r Y
  none_barred r Y none = record { J = Inner s X; O = Out s X; I = Into s X; barrier = least_barrier r Y (out_gets r Y none) }

-- Its sets are the least: every barrier's sets hold them.
module _ (s : State) (X : ℕ → Type 0) (r : ℕ) (Y J O I : ℕ → Type 0) (b : Barrier s X r Y J O I) where
  pub inner_least : (q : ℕ) → Inner s X q → J q
  inner_least q h =
      along J (over_bridge-law s X r Y J O I b) h.joined
      (giver s X r Y J O I b h.first h.holder h.initial.acts h.initial.grants h.is)

  pub out_least : (t : ℕ) → Out s X t → O t
  out_least t h = out_along s X r Y J O I b h.takes (b.inner_out h.first (inner_least h.first h.inner))

  entry_least : (e : ℕ) → Entry s X e → I e
  entry_least e (holding h a) = b.holder_into e a h
  entry_least e (giving x h g) = b.giver_into e x g h
  entry_least e (inside h) = b.inner_into e (inner_least e h)
  entry_least e (granting o h g) = b.out_granted e o g (out_least o h)
  entry_least e (granted o h g) = b.out_grants o e g (out_least o h)

  pub into_least : (p : ℕ) → Into s X p → I p
  into_least p h = into_against s X r Y J O I b h.takes (entry_least h.last h.entry)
