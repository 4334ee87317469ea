-- Rows in which only some of the subjects at the start apply rules: they do the same in the state in which all others are objects.
use Rattle.std.proofs.Common.{◌≡◌, ℕ, suc, ◌<◌, ◌≤◌, Bool, true, false, cond, ◌&&◌, T, eqb, ltb, List, [], ◌∷◌, sym, refl, ap, ◌∙◌, subst, inl, inr, arith, ltb→lt, lt→ltb}
use Rattle.model.specs.State.{State, is_subject, WellFormed}
use Rattle.model.specs.Bounded.{implies}
use Rattle.model.specs.Rules.{all_applicable, step, applicable, applied, after}
use Rattle.model.specs.Sharing.{can_share}
use Rattle.model.specs.Restricted.{restricted, actor, all_by, only_by}
use Rattle.model.specs.declared.Rule.{Rule}
use Rattle.model.specs.declared.Rule.TheVariants.{Take, Grant, Create, Remove}
use Rattle.model.proofs.Steps.{cond_cases, apart}
use Rattle.model.proofs.Tests.{both, implying, parts, implied, eq_test}
use Rattle.model.proofs.Grown.{restricted_well}
use Rattle.model.proofs.NothingNew.{never_has}

abbrev state : ℕ → (ℕ → Bool) → (ℕ → ℕ → ℕ → Bool) → State
state n acts has = record { size = n; subject = acts; has = has }

and_same : (a b c : Bool) → (T a → b ≡ c) → (a && b) ≡ (a && c)
and_same true b c f = f tt
and_same false b c f = refl

and_first : (a b c : Bool) → a ≡ b → (a && c) ≡ (b && c)
and_first a b c e = ap (λ d. d && c) e

and_both : (a b c d : Bool) → a ≡ b → c ≡ d → (a && c) ≡ (b && d)
and_both a b c d e f = and_first a b c e ∙ ap (λ z. b && z) f

actor_acts : (s : State) (a : Rule) → T (applicable s a) → T (is_subject s (actor a))
actor_acts s (Take t) h = (parts (is_subject s t.who) _ h).0
actor_acts s (Grant g) h = (parts (is_subject s g.who) _ h).0
actor_acts s (Create c) h = h
actor_acts s (Remove d) h = (parts (is_subject s d.who) _ h).0

cond_same : (c a x y : Bool) → ((T c → ⊥) → x ≡ y) → cond c a x ≡ cond c a y
cond_same true a x y f = refl
cond_same false a x y f = f (λ t. t)

-- Of m vertices at the start, those of S may act, and so may all created since then.
abbrev MayAct : (ℕ → Bool) → ℕ → ℕ → Type 0
MayAct S m p = p < m → T (S p)

-- The same subjects among the vertices who may act.
abbrev Alike : (ℕ → Bool) → ℕ → ℕ → (ℕ → Bool) → (ℕ → Bool) → Type 0
Alike S m n f g = (p : ℕ) → p < n → MayAct S m p → f p ≡ g p

module _ (S : ℕ → Bool) (m : ℕ) where
  acts_alike : (n : ℕ) (f g : ℕ → Bool) → Alike S m n f g → (p : ℕ) → MayAct S m p → (ltb p n && f p) ≡ (ltb p n && g p)
  acts_alike n f g e p may = and_same (ltb p n) (f p) (g p) (λ l. e p (ltb→lt p n l) may)

  -- A rule of one who may act is applicable in both or in neither,
  applicable_alike :
      (n : ℕ) (f g : ℕ → Bool) (h : ℕ → ℕ → ℕ → Bool) → Alike S m n f g → (a : Rule) → MayAct S m (actor a) →
      applicable (state n f h) a ≡ applicable (state n g h) a
  applicable_alike n f g h e (Take t) may = and_first _ _ _ (acts_alike n f g e t.who may)
  applicable_alike n f g h e (Grant t) may = and_first _ _ _ (acts_alike n f g e t.who may)
  applicable_alike n f g h e (Create c) may = acts_alike n f g e c.who may
  applicable_alike n f g h e (Remove d) may = and_first _ _ _ (acts_alike n f g e d.who may)

  created_alike :
      (n : ℕ) (f g : ℕ → Bool) (a : Bool) → Alike S m n f g → Alike S m (suc n) (λ p. cond (eqb p n) a (f p)) (λ p. cond (eqb p n) a (g p))
  created_alike n f g a e p l may = cond_same (eqb p n) a (f p) (g p) (λ d. e p (omega (arith, apart d)) may)
    where
      apart : (T (eqb p n) → ⊥) → p ≡ n → ⊥
      apart d q = d (eq_test p n q)

  -- and then does the same in both.
  applied_alike : (P : State → State → Type 0) → ((n : ℕ) (f g : ℕ → Bool) (h : ℕ → ℕ → ℕ → Bool) → Alike S m n f g → P (state n f h) (state n g h)) →
      (n : ℕ) (f g : ℕ → Bool) (h : ℕ → ℕ → ℕ → Bool) → Alike S m n f g → (a : Rule) → P (applied (state n f h) a) (applied (state n g h) a)
  applied_alike P so n f g h e (Take t) = so n f g _ e
  applied_alike P so n f g h e (Grant t) = so n f g _ e
  applied_alike P so n f g h e (Create c) = so (suc n) _ _ _ (created_alike n f g c.subject e)
  applied_alike P so n f g h e (Remove d) = so n f g _ e

  first_may : (a : Rule) (more : List Rule) → T (only_by S m (a ∷ more)) → MayAct S m (actor a)
  unfolding all_by
  first_may a more u l = implied (ltb (actor a) m) _ (parts (implies (ltb (actor a) m) (S (actor a))) _ u).0 (lt→ltb (actor a) m l)

  rest_only : (a : Rule) (more : List Rule) → T (only_by S m (a ∷ more)) → T (only_by S m more)
  unfolding all_by
  rest_only a more u = (parts (implies (ltb (actor a) m) (S (actor a))) _ u).1

  after_alike :
      (rules : List Rule) → T (only_by S m rules) → (n : ℕ) (f g : ℕ → Bool) (h : ℕ → ℕ → ℕ → Bool) → Alike S m n f g →
      (after (state n f h) rules).has ≡ (after (state n g h) rules).has
  unfolding after all_by
  after_alike [] u n f g h e = refl
  after_alike (a ∷ more) u n f g h e =
      let s = state n f h in
      let t = state n g h in
      subst (λ d. (after (step s a) more).has ≡ (after (cond d (applied t a) t) more).has) (applicable_alike n f g h e a may)
      (elim (applicable s a) as (λ c. (after (cond c (applied s a) s) more).has ≡ (after (cond c (applied t a) t) more).has) [
        | true ↦ applied_alike (λ s t. (after s more).has ≡ (after t more).has) (after_alike more rest) n f g h e a
        | false ↦ after_alike more rest n f g h e
      ])
    where
      may : MayAct S m (actor a)
      may = first_may a more u

      rest : T (only_by S m more)
      rest = rest_only a more u

  -- Such a row is applicable, each rule when its turn comes, in both or in neither.
  all_alike :
      (rules : List Rule) → T (only_by S m rules) → (n : ℕ) (f g : ℕ → Bool) (h : ℕ → ℕ → ℕ → Bool) → Alike S m n f g →
      all_applicable (state n f h) rules ≡ all_applicable (state n g h) rules
  unfolding all_applicable all_by
  all_alike [] u n f g h e = refl
  all_alike (a ∷ more) u n f g h e =
      and_both _ _ _ _ (applicable_alike n f g h e a (first_may a more u))
      (applied_alike (λ s t. all_applicable s more ≡ all_applicable t more) (all_alike more (rest_only a more u)) n f g h e a)

  -- Where, of the m vertices at the start, no subject is outside S, every applicable row is by S.
  Limited : ℕ → (ℕ → Bool) → Type 0
  Limited n g = (m ≤ n) × ((p : ℕ) → p < m → T (g p) → T (S p))

  limited_applied : (n : ℕ) (g : ℕ → Bool) (h : ℕ → ℕ → ℕ → Bool) → Limited n g → (a : Rule) → Limited (applied (state n g h) a).size (applied (state n g h) a).subject
  unfolding Limited
  limited_applied n g h k (Take t) = k
  limited_applied n g h k (Grant t) = k
  limited_applied n g h k (Create c) = (omega (arith, k.0), λ p l t. k.1 p l (old p (omega (arith, k.0)) t))
    where
      old : (p : ℕ) → p < n → T (cond (eqb p n) c.subject (g p)) → T (g p)
      old p l t = elim (cond_cases (eqb p n) _ _ t) [ inl u ↦ absurd (apart p n l u.0) | inr u ↦ u ]
  limited_applied n g h k (Remove d) = k

  limited_only : (rules : List Rule) (n : ℕ) (g : ℕ → Bool) (h : ℕ → ℕ → ℕ → Bool) → Limited n g → T (all_applicable (state n g h) rules) → T (only_by S m rules)
  unfolding all_applicable all_by Limited
  limited_only [] n g h k t = tt
  limited_only (a ∷ more) n g h k t =
      both (implies (ltb (actor a) m) (S (actor a))) _
      (implying (ltb (actor a) m) _ (λ l. k.1 (actor a) (ltb→lt (actor a) m l) (parts (ltb (actor a) n) _ (actor_acts (state n g h) a u.0)).1))
      (limited_only more _ _ _ (limited_applied n g h k a) u.1)
    where
      u : T (applicable (state n g h) a) × T (all_applicable (applied (state n g h) a) more)
      u = parts (applicable (state n g h) a) _ t

module _ (S : ℕ → Bool) (s : State) where
  restricted_alike : Alike S s.size s.size s.subject (λ p. S p && s.subject p)
  restricted_alike p l may = kept (S p) (s.subject p) (may l)
    where
      kept : (a b : Bool) → T a → b ≡ (a && b)
      kept true b t = refl
      kept false b t = absurd t

  -- A row by S does in a state what it does in the state in which all others are objects,
  pub restricted_after : (rules : List Rule) → T (only_by S s.size rules) → (after s rules).has ≡ (after (restricted S s) rules).has
  restricted_after rules u = after_alike S s.size rules u s.size s.subject (λ p. S p && s.subject p) s.has restricted_alike

  -- so it never brings about what cannot be shared there.
  pub restricted_never :
      WellFormed s → (x r y : ℕ) → x < s.size → y < s.size → can_share (restricted S s) x r y ≡ false →
      (rules : List Rule) → T (only_by S s.size rules) → (after s rules).has x r y ≡ false
  restricted_never wf x r y hx hy e rules u =
      subst (λ (h : ℕ → ℕ → ℕ → Bool). h x r y ≡ false) (sym (restricted_after rules u))
      (never_has (restricted S s) (restricted_well S s wf) x r y hx hy e rules)

  -- A row that is applicable in the state in which all others are objects is by S,
  pub restricted_by : (rules : List Rule) → T (all_applicable (restricted S s) rules) → T (only_by S s.size rules)
  unfolding Limited
  restricted_by rules t =
      limited_only S s.size rules s.size (λ p. S p && s.subject p) s.has (omega arith, λ p l u. (parts (S p) (s.subject p) u).0) t

  -- and applicable in the state itself.
  pub restricted_applicable : (rules : List Rule) → T (all_applicable (restricted S s) rules) → T (all_applicable s rules)
  restricted_applicable rules t =
      subst T (sym (all_alike S s.size rules (restricted_by rules t) s.size s.subject (λ p. S p && s.subject p) s.has restricted_alike)) t
