-- What a right and a subject are after a rule: new, or there before.
use Rattle.std.proofs.Common.{◌≡◌, ℕ, suc, ◌<◌, Bool, true, false, cond, not, ◌&&◌, T, eqb, ◌⊎◌, List, [], ◌∷◌, sym, refl, subst, inl, inr, arith, eqb→eq, ltb→lt, lt→ltb}
use lib.Dec.{not_T}
use Rattle.std.proofs.lemmas.Bool.{cases_eq}
use Rattle.model.specs.State.{State, WellFormed, is_subject, is_vertex, take_right, grant_right}
use Rattle.model.specs.Bit.{bit}
use Rattle.model.specs.Rules.{this_right, given, removed, created, applicable, applied, step, after}
use Rattle.model.specs.declared.Rule.{Rule}
use Rattle.model.specs.declared.Rule.TheVariants.{Take, Grant, Create, Remove}
use Rattle.model.proofs.Tests.{both, parts, cases, left, right, eq_test}
use Rattle.model.proofs.Readings.{subject_vertex}

-- The right p k q is the right x r y.
pub record Same (x r y p k q : ℕ) : Type 0 where
  pub holder : x ≡ p
  pub right : r ≡ k
  pub target : y ≡ q

pub given_has : (x r y : ℕ) (s : State) (p k q : ℕ) → T ((given x r y s).has p k q) → Same x r y p k q ⊎ T (s.has p k q)
given_has x r y s p k q t = elim (cases (this_right x r y p k q) _ t) [ inl u ↦ inl (is_this u) | inr h ↦ inr h ]
  where
    is_this : T (eqb p x && (eqb k r && eqb q y)) → Same x r y p k q
    is_this u =
        record {
          holder = sym (eqb→eq p x (parts (eqb p x) _ u).0);
          right = sym (eqb→eq k r (parts (eqb k r) _ (parts (eqb p x) _ u).1).0);
          target = sym (eqb→eq q y (parts (eqb k r) _ (parts (eqb p x) _ u).1).1);
        }

pub given_had : (x r y : ℕ) (s : State) (p k q : ℕ) → T (s.has p k q) → T ((given x r y s).has p k q)
given_had x r y s p k q t = right (this_right x r y p k q) _ t

pub given_new : (x r y : ℕ) (s : State) → T ((given x r y s).has x r y)
given_new x r y s =
    left (this_right x r y x r y) _ (both (eqb x x) _ (eq_test x x refl) (both (eqb r r) _ (eq_test r r refl) (eq_test y y refl)))

pub removed_has : (x r y : ℕ) (s : State) (p k q : ℕ) → T ((removed x r y s).has p k q) → T (s.has p k q)
removed_has x r y s p k q t = (parts (not (this_right x r y p k q)) _ t).1

pub removed_had : (x r y : ℕ) (s : State) (p k q : ℕ) → (p ≡ x → ⊥) → T (s.has p k q) → T ((removed x r y s).has p k q)
removed_had x r y s p k q d t = both (not (this_right x r y p k q)) _ (not_T (this_right x r y p k q) (λ u. d (eqb→eq p x (parts (eqb p x) _ u).0))) t

cond_first : (c a b : Bool) → T c → T a → T (cond c a b)
cond_first true a b u t = t
cond_first false a b u t = absurd u

pub cond_cases : (c a b : Bool) → T (cond c a b) → (T c × T a) ⊎ T b
cond_cases true a b t = inl (tt, t)
cond_cases false a b t = inr t

cond_then : (c a b : Bool) → T c → T (cond c a b) → T a
cond_then true a b u t = t
cond_then false a b u t = absurd u

cond_else : (c a b : Bool) → (T c → ⊥) → T b → T (cond c a b)
cond_else true a b f t = absurd (f tt)
cond_else false a b f t = t

pub apart : (m n : ℕ) → m < n → T (eqb m n) → ⊥
apart m n h t = let e : m ≡ n = eqb→eq m n t in omega arith

pub created_has : (x : ℕ) (a : Bool) (w : ℕ) (s : State) (p k q : ℕ) → T ((created x a w s).has p k q) → ((p ≡ x) × (q ≡ s.size)) ⊎ T (s.has p k q)
created_has x a w s p k q t =
    elim (cond_cases (eqb q s.size) _ _ t) [
      | inl u ↦ inl (eqb→eq p x (parts (eqb p x) _ u.1).0, eqb→eq q s.size u.0)
      | inr u ↦ elim (cond_cases (eqb p s.size) false (s.has p k q) u) [ inl v ↦ absurd v.1 | inr h ↦ inr h ]
    ]

pub created_had : (x : ℕ) (a : Bool) (w : ℕ) (s : State) → WellFormed s → (p k q : ℕ) → T (s.has p k q) → T ((created x a w s).has p k q)
created_had x a w s wf p k q t =
    cond_else (eqb q s.size) _ _ (apart q s.size (wf.target p k q t))
    (cond_else (eqb p s.size) false (s.has p k q) (apart p s.size (wf.holder p k q t)) t)

-- The creator has to the new vertex the rights that it chose.
pub created_new : (x : ℕ) (a : Bool) (w : ℕ) (s : State) (k : ℕ) → T (bit w k) → T ((created x a w s).has x k s.size)
created_new x a w s k t =
    cond_first (eqb s.size s.size) _ _ (eq_test s.size s.size refl) (both (eqb x x) _ (eq_test x x refl) t)

pub created_subject : (x : ℕ) (a : Bool) (w : ℕ) (s : State) (p : ℕ) → T (is_subject (created x a w s) p) → ((p ≡ s.size) × T a) ⊎ T (is_subject s p)
created_subject x a w s p t =
    elim (cases_eq p s.size) [
      | inl e ↦ inl (e, cond_then (eqb p s.size) a (s.subject p) (eq_test p s.size e) acts)
      | inr d ↦
          elim (cond_cases (eqb p s.size) a (s.subject p) acts) [
            | inl u ↦ absurd (d (eqb→eq p s.size u.0))
            | inr h ↦ inr (both (is_vertex s p) _ (lt→ltb p s.size (omega (arith, below))) h)
          ]
    ]
  where
    acts : T (cond (eqb p s.size) a (s.subject p))
    acts = (parts (is_vertex (created x a w s) p) _ t).1

    below : p < suc s.size
    below = ltb→lt p (suc s.size) (parts (is_vertex (created x a w s) p) _ t).0

pub created_subject_had : (x : ℕ) (a : Bool) (w : ℕ) (s : State) (p : ℕ) → T (is_subject s p) → T (is_subject (created x a w s) p)
created_subject_had x a w s p t =
    both (is_vertex (created x a w s) p) _ (lt→ltb p (suc s.size) (omega (arith, below)))
    (cond_else (eqb p s.size) a (s.subject p) (apart p s.size below) (parts (is_vertex s p) _ t).1)
  where
    below : p < s.size
    below = subject_vertex s p t

-- A rule that may not be applied changes nothing.
pub step_keeps {ℓ} : (P : State → Type ℓ) (s : State) (a : Rule) → (T (applicable s a) → P (applied s a)) → P s → P (step s a)
step_keeps P s a f h =
    (elim (applicable s a) as (λ c. (T c → T (applicable s a)) → P (cond c (applied s a) s)) [
      | true ↦ λ g. f (g tt)
      | false ↦ λ g. h
    ]) (λ t. t)

-- What holds of a state, and after each rule that may be applied in one of which it holds, holds after each row of rules.
pub row_keeps {ℓ} :
    (P : State → Type ℓ) → ((s : State) (a : Rule) → T (applicable s a) → P s → P (applied s a)) → (rules : List Rule) (s : State) → P s → P (after s rules)
unfolding after
row_keeps P f [] s h = h
row_keeps P f (a ∷ more) s h = row_keeps P f more (step s a) (step_keeps P s a (λ t. f s a t h) h)

-- The parts of a rule's being applicable.
pub record TakeHolds (s : State) (who source right to : ℕ) : Type 0 where
  pub acts : T (is_subject s who)
  pub there : to < s.size
  pub takes : T (s.has who take_right source)
  pub held : T (s.has source right to)

pub take_holds :
    (s : State) (p f k q : ℕ) →
    T (is_subject s p && (is_vertex s f && (is_vertex s q && (s.has p take_right f && s.has f k q)))) → TakeHolds s p f k q
take_holds s p f k q t =
    let u = parts (is_subject s p) _ t in
    let v = parts (is_vertex s f) _ u.1 in
    let w = parts (is_vertex s q) _ v.1 in
    let z = parts (s.has p take_right f) _ w.1 in
    record { acts = u.0; there = ltb→lt q s.size w.0; takes = z.0; held = z.1 }

pub record GrantHolds (s : State) (who into right to : ℕ) : Type 0 where
  pub acts : T (is_subject s who)
  pub receiver : into < s.size
  pub there : to < s.size
  pub grants : T (s.has who grant_right into)
  pub held : T (s.has who right to)

pub grant_holds :
    (s : State) (p i k q : ℕ) →
    T (is_subject s p && (is_vertex s i && (is_vertex s q && (s.has p grant_right i && s.has p k q)))) → GrantHolds s p i k q
grant_holds s p i k q t =
    let u = parts (is_subject s p) _ t in
    let v = parts (is_vertex s i) _ u.1 in
    let w = parts (is_vertex s q) _ v.1 in
    let z = parts (s.has p grant_right i) _ w.1 in
    record { acts = u.0; receiver = ltb→lt i s.size v.0; there = ltb→lt q s.size w.0; grants = z.0; held = z.1 }

-- Rules keep a state well-formed.
pub given_well : (x r y : ℕ) (s : State) → x < s.size → y < s.size → WellFormed s → WellFormed (given x r y s)
given_well x r y s hx hy wf =
    record {
      holder = λ p k q t. elim (given_has x r y s p k q t) [ inl e ↦ subst (λ z. z < s.size) e.holder hx | inr h ↦ wf.holder p k q h ];
      target = λ p k q t. elim (given_has x r y s p k q t) [ inl e ↦ subst (λ z. z < s.size) e.target hy | inr h ↦ wf.target p k q h ];
    }

pub created_well : (x : ℕ) (a : Bool) (w : ℕ) (s : State) → x < s.size → WellFormed s → WellFormed (created x a w s)
created_well x a w s h wf =
    record {
      holder = λ p k q t. elim (created_has x a w s p k q t) [ inl e ↦ omega (arith, e.0, h) | inr g ↦ omega (arith, wf.holder p k q g) ];
      target = λ p k q t. elim (created_has x a w s p k q t) [ inl e ↦ omega (arith, e.1) | inr g ↦ omega (arith, wf.target p k q g) ];
    }

pub removed_well : (x r y : ℕ) (s : State) → WellFormed s → WellFormed (removed x r y s)
removed_well x r y s wf =
    record {
      holder = λ p k q t. wf.holder p k q (removed_has x r y s p k q t);
      target = λ p k q t. wf.target p k q (removed_has x r y s p k q t);
    }

pub applied_well : (s : State) (a : Rule) → T (applicable s a) → WellFormed s → WellFormed (applied s a)
applied_well s (Take t) h wf =
    let k = take_holds s t.who t.from t.right t.to h in
    given_well t.who t.right t.to s (subject_vertex s t.who k.acts) k.there wf
applied_well s (Grant g) h wf =
    let k = grant_holds s g.who g.into g.right g.to h in
    given_well g.into g.right g.to s k.receiver k.there wf
applied_well s (Create c) h wf = created_well c.who c.subject c.rights s (subject_vertex s c.who h) wf
applied_well s (Remove d) h wf = removed_well d.who d.right d.to s wf

pub step_well : (s : State) (a : Rule) → WellFormed s → WellFormed (step s a)
step_well s a wf = step_keeps WellFormed s a (λ t. applied_well s a t wf) wf

pub after_well : (rules : List Rule) (s : State) → WellFormed s → WellFormed (after s rules)
after_well rules s wf = row_keeps WellFormed applied_well rules s wf
