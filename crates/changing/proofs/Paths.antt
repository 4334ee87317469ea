-- What the rows of take paths are after a rule, by what they were before it.
use Rattle.std.proofs.Common.{◌≡◌, ℕ, ◌<◌, Bool, true, false, cond, not, ◌&&◌, ◌||◌, T, eqb, ltb, ◌⊎◌, sym, refl, ap, ◌∙◌, subst, ap₂, inl, inr, arith, eqb→eq, T_not}
use mathlib.Core.Path.{fun_ext}
use lib.Dec.{eqb_refl, not_T}
use Rattle.std.proofs.lemmas.Bool.{cases_Bool, lt-ltb}
use Rattle.std.proofs.lemmas.Bool.Decides.{nat_tests}
use Rattle.model.specs.State.{State, WellFormed, is_vertex, take_right}
use Rattle.model.specs.Closure.{within, here, next}
use Rattle.model.specs.Spans.{take_path, TakePath, can_take}
use Rattle.model.specs.Rules.{this_right, given, removed}
use Rattle.model.proofs.Tests.{both, parts, cases, left, right, same, is_false, from_false, from_true, is_true, eq_test, SomeBoth}
use Rattle.model.proofs.Stars.{append, map_steps}
use Rattle.model.proofs.Changes.{path_unchanged}
use Rattle.model.proofs.Steps.{given_has, given_had, given_new, given_well, removed_has, removed_had, removed_well}
use Rattle.spans.specs.Paths.{path_from, step_from}
use Rattle.changing.specs.Reached.{of_some}
use Rattle.changing.specs.Rounds.{rounds_of, begun_row, Shut}
use Rattle.changing.proofs.Tested.{some_to, some_from}
use Rattle.changing.proofs.Rounds.{path_to, path_from-law, step_to, step_parts, rounds_lead}

-- Paths depend on the number of vertices and on take rights alone.
pub same_takes : (s t : State) → s.size ≡ t.size → ((p q : ℕ) → can_take s p q ≡ can_take t p q) → (x y : ℕ) → path_from s x y ≡ path_from t x y
unfolding path_from take_path
same_takes s t e f x y = ap₂ (λ n g. ltb x n && within n n g x y) e (fun_ext λ p. fun_ext λ q. f p q)

-- What a row begins as, from the set of whom its vertex has take to.
pub begun_step : (s : State) (to : ℕ → Bool) (v : ℕ) → v < s.size → ((y : ℕ) → to y ≡ can_take s v y) → (y : ℕ) → (eqb y v || to y) ≡ step_from s v y
unfolding step_from
begun_step s to v l e y = ap (λ b. eqb y v || b) (e y) ∙ sym (ap (λ b. b && (eqb y v || can_take s v y)) (lt-ltb v s.size l))

-- One take right more, of c to z: a new path goes to c and on from z.
module _ (s t : State) (ws : WellFormed s) (wt : WellFormed t) (size : s.size ≡ t.size) (c z : ℕ) (there : z < s.size)
    (new : T (can_take t c z)) (old : (p q : ℕ) → T (can_take s p q) → T (can_take t p q))
    (split : (p q : ℕ) → T (can_take t p q) → ((p ≡ c) × (q ≡ z)) ⊎ T (can_take s p q)) where
  path_split : {x y : ℕ} → TakePath t x y → TakePath s x y ⊎ (TakePath s x c × TakePath s z y)
  path_split here = inl here
  path_split {x} {y} (next {z = w} h v) = by (split x w h) (path_split v)
    where
      by : ((x ≡ c) × (w ≡ z)) ⊎ T (can_take s x w) → TakePath s w y ⊎ (TakePath s w c × TakePath s z y) → TakePath s x y ⊎ (TakePath s x c × TakePath s z y)
      by (inl e) (inl p) = inr (subst (λ k. TakePath s x k) e.0 here, subst (λ k. TakePath s k y) e.1 p)
      by (inl e) (inr p) = inr (subst (λ k. TakePath s x k) e.0 here, p.1)
      by (inr g) (inl p) = inl (next g p)
      by (inr g) (inr p) = inr (next g p.0, p.1)

  path_joined : {x y : ℕ} → TakePath s x c → TakePath s z y → TakePath t x y
  path_joined v w = append (map_steps old v) (next new (map_steps old w))

  pub added_paths : (x y : ℕ) → path_from t x y ≡ (path_from s x y || (path_from s x c && path_from s z y))
  added_paths x y = same _ _ to from
    where
      to : T (path_from t x y) → T (path_from s x y || (path_from s x c && path_from s z y))
      to h =
          let u = path_to t x y h in
          let l : x < s.size = omega (arith, u.0) in
          elim (path_split u.1) [
            | inl p ↦ left (path_from s x y) _ (path_from-law s ws x y l p)
            | inr p ↦ right (path_from s x y) _ (both (path_from s x c) _ (path_from-law s ws x c l p.0) (path_from-law s ws z y there p.1))
          ]

      from : T (path_from s x y || (path_from s x c && path_from s z y)) → T (path_from t x y)
      from h =
          elim (cases (path_from s x y) _ h) [
            | inl u ↦ let p = path_to s x y u in path_from-law t wt x y (omega (arith, p.0)) (map_steps old p.1)
            | inr u ↦
                let v = parts (path_from s x c) _ u in
                let p = path_to s x c v.0 in
                path_from-law t wt x y (omega (arith, p.0)) (path_joined p.1 (path_to s z y v.1).1)
          ]

-- A right given.
pub given_paths :
    (s : State) → WellFormed s → (c r z : ℕ) → c < s.size → z < s.size → (x y : ℕ) →
    path_from (given c r z s) x y ≡ (path_from s x y || (((eqb r take_right && not (can_take s c z)) && path_from s x c) && path_from s z y))
given_paths s wf c r z lc lz x y =
    elim (cases_Bool (eqb r take_right && not (can_take s c z))) [
      | inl h ↦ more h ∙ ap (λ b. path_from s x y || ((b && path_from s x c) && path_from s z y)) (sym h)
      | inr h ↦ none h ∙ ap (λ b. path_from s x y || ((b && path_from s x c) && path_from s z y)) (sym h)
    ]
  where
    more : (eqb r take_right && not (can_take s c z)) ≡ true → path_from (given c r z s) x y ≡ (path_from s x y || (path_from s x c && path_from s z y))
    more h =
        added_paths s (given c r z s) wf (given_well c r z s lc lz wf) refl c z lz
        (subst (λ k. T ((given c r z s).has c k z)) is_take (given_new c r z s)) (λ p q. given_had c r z s p take_right q)
        (λ p q t. elim (given_has c r z s p take_right q t) [ inl e ↦ inl (sym e.holder, sym e.target) | inr u ↦ inr u ]) x y
      where
        is_take : r ≡ take_right
        is_take = eqb→eq r take_right (parts (eqb r take_right) _ (from_true _ h)).0

    kept : (p q : ℕ) → (eqb r take_right && not (can_take s c z)) ≡ false → T (can_take (given c r z s) p q) → T (can_take s p q)
    kept p q h t =
        elim (given_has c r z s p take_right q t) [
          | inr u ↦ u
          | inl e ↦ subst (λ k. T (can_take s k q)) e.holder (subst (λ k. T (can_take s c k)) e.target (from_true _ (law _ _ (is_true _ (subst (λ k. T (eqb r k)) e.right (eqb_refl r))) h)))
        ]
      where
        law : (a b : Bool) → a ≡ true → (a && not b) ≡ false → b ≡ true
        law a b e f = grind (arith, nat_tests)

    none : (eqb r take_right && not (can_take s c z)) ≡ false → path_from (given c r z s) x y ≡ (path_from s x y || false)
    none h =
        let k = same_takes (given c r z s) s refl (λ p q. same _ _ (kept p q h) (given_had c r z s p take_right q)) x y in grind (arith, nat_tests)

-- A right removed: whatever had no path to who had it has the paths that it had.
module _ (s : State) (wf : WellFormed s) (c r z : ℕ) where
  other_paths : (x y : ℕ) → ((eqb r take_right && can_take s c z) && path_from s x c) ≡ false → path_from s x y ≡ path_from (removed c r z s) x y
  unfolding path_from
  other_paths x y h =
      elim (cases_Bool (eqb r take_right && can_take s c z)) [
        | inr g ↦ same_takes s (removed c r z s) refl (λ p q. same _ _ (still g p q) (removed_has c r z s p take_right q)) x y
        | inl g ↦ away (ap (λ b. b && path_from s x c) (sym g) ∙ h)
      ]
    where
      still : (eqb r take_right && can_take s c z) ≡ false → (p q : ℕ) → T (can_take s p q) → T (can_take (removed c r z s) p q)
      still g p q t = both (not (this_right c r z p take_right q)) _ (not_T (this_right c r z p take_right q) never) t
        where
          never : T (this_right c r z p take_right q) → ⊥
          never u =
              let v = parts (eqb p c) _ u in
              let w = parts (eqb take_right r) _ v.1 in
              from_false (eqb r take_right && can_take s c z) g
              (both (eqb r take_right) _ (eq_test r take_right (sym (eqb→eq take_right r w.0)))
              (subst (λ k. T (can_take s k z)) (eqb→eq p c v.0) (subst (λ k. T (can_take s p k)) (eqb→eq q z w.1) t)))

      away : path_from s x c ≡ false → path_from s x y ≡ path_from (removed c r z s) x y
      away f =
          elim (cases_Bool (is_vertex s x)) [
            | inl v ↦
                ap (λ b. is_vertex s x && b)
                (sym (path_unchanged c s (removed c r z s) (λ p q d. same _ _ (removed_had c r z s p take_right q d) (removed_has c r z s p take_right q)) wf
                (removed_well c r z s wf) x y (ap (λ b. b && take_path s x c) (sym v) ∙ f)))
            | inr v ↦ ap (λ b. b && take_path s x y) v ∙ sym (ap (λ b. b && take_path (removed c r z s) x y) v)
          ]

  -- The rows of all others begin again.
  module _ (few : s.size < 256) (A : ℕ → Bool) (e : ℕ → ℕ → Bool) (is : (x : ℕ) → A x ≡ ((eqb r take_right && can_take s c z) && path_from s x c))
      (begun : (x y : ℕ) → e x y ≡ cond (A x) (begun_row (removed c r z s) A (path_from s) x y) (path_from s x y)) where
    inner : (x y : ℕ) → T (A x) → e x y ≡ begun_row (removed c r z s) A (path_from s) x y
    inner x y a = begun x y ∙ ap (λ b. cond b (begun_row (removed c r z s) A (path_from s) x y) (path_from s x y)) (is_true (A x) a)

    outer : (x y : ℕ) → A x ≡ false → e x y ≡ path_from s x y
    outer x y h = begun x y ∙ ap (λ b. cond b (begun_row (removed c r z s) A (path_from s) x y) (path_from s x y)) h

    led_on : (x y : ℕ) → T (begun_row (removed c r z s) A (path_from s) x y) → (x < s.size) × TakePath (removed c r z s) x y
    unfolding begun_row
    led_on x y t =
        elim (cases (step_from (removed c r z s) x y) _ t) [
          | inl u ↦ step_to (removed c r z s) x y u
          | inr u ↦ by (some_to (λ w. can_take (removed c r z s) x w && not (A w)) (path_from s) y u)
        ]
      where
        by : SomeBoth 256 (λ w. can_take (removed c r z s) x w && not (A w)) (λ w. path_from s w y) → (x < s.size) × TakePath (removed c r z s) x y
        by k =
            let u = parts (can_take (removed c r z s) x k.at) _ k.one in
            let out : A k.at ≡ false = is_false (A k.at) (T_not (A k.at) u.1) in (
              (removed_well c r z s wf).holder x take_right k.at u.0,
              next u.0 (path_to (removed c r z s) k.at y (subst T (other_paths k.at y (sym (is k.at) ∙ out)) k.other)).1,
            )

    -- Rounds over them close them.
    pub removed_paths : (x y : ℕ) → rounds_of A e s.size x y ≡ path_from (removed c r z s) x y
    unfolding begun_row
    removed_paths x y =
        rounds_lead (removed c r z s) (removed_well c r z s wf) A e (λ p q a t. subst T (sym (inner p q a)) (left (step_from (removed c r z s) p q) _ t))
        (λ p q a t. led_on p q (subst T (inner p q a) t)) (λ p q h. outer p q h ∙ other_paths p q (sym (is p) ∙ h)) x y

    -- What begins so has all that the rows outside have to which it leads.
    pub removed_shut : Shut A e
    unfolding begun_row
    removed_shut x k y a b f g = is_true (e x y) (subst T (sym (inner x y (from_true _ a))) (right (step_from (removed c r z s) x y) _ (by (cases (step_from (removed c r z s) x k) _ (subst T (inner x k (from_true _ a)) (from_true _ f))))))
      where
        onwards : T (path_from s k y)
        onwards = subst T (outer k y b) (from_true _ g)

        further : (w : ℕ) → w < 256 → T (can_take (removed c r z s) x w && not (A w)) → T (path_from s w y) → T (of_some (λ v. can_take (removed c r z s) x v && not (A v)) (path_from s) y)
        further w l t u = some_from (λ v. can_take (removed c r z s) x v && not (A v)) (path_from s) y w l t u

        single : T (step_from (removed c r z s) x k) → T (of_some (λ v. can_take (removed c r z s) x v && not (A v)) (path_from s) y)
        single t =
            elim (cases (eqb k x) _ (step_parts (removed c r z s) x k t)) [
              | inl e' ↦ absurd (from_false (A k) b (subst (λ v. T (A v)) (sym (eqb→eq k x e')) (from_true _ a)))
              | inr u ↦
                  let l = (removed_well c r z s wf).target x take_right k u in
                  further k (omega arith) (both (can_take (removed c r z s) x k) _ u (not_T (A k) (from_false (A k) b))) onwards
            ]

        by : T (step_from (removed c r z s) x k) ⊎ T (of_some (λ v. can_take (removed c r z s) x v && not (A v)) (path_from s) k) → T (of_some (λ v. can_take (removed c r z s) x v && not (A v)) (path_from s) y)
        by (inl t) = single t
        by (inr t) =
            let w = some_to (λ v. can_take (removed c r z s) x v && not (A v)) (path_from s) k t in
            let p = path_to s w.at k w.other in
            further w.at w.below w.one (path_from-law s wf w.at y p.0 (append p.1 (path_to s k y onwards).1))
