-- As many rounds as there are vertices, over some rows alone, make the rows of take paths, where all other rows are that already.
use Rattle.std.proofs.Common.{◌≡◌, ℕ, zero, suc, ◌+◌, ◌<◌, Bool, true, false, ◌&&◌, ◌||◌, T, eqb, ◌⊎◌, sym, refl, ap, ◌∙◌, subst, ap₂, inl, inr, add-one, arith, eqb→eq, ltb→lt, lt→ltb}
use lib.Dec.{eqb_refl}
use Rattle.std.proofs.lemmas.Bool.{cases_eq}
use Rattle.std.proofs.lemmas.Bool.Decides.{nat_tests}
use Rattle.model.specs.State.{State, WellFormed, is_vertex, take_right}
use Rattle.model.specs.Closure.{here}
use Rattle.model.specs.Spans.{TakePath, can_take}
use Rattle.model.proofs.Tests.{both, parts, cases, left, right, decide, same, is_true, is_false, from_true, from_false}
use Rattle.model.proofs.Stars.{append, along, one_step}
use Rattle.model.proofs.Readings.{take_path-to, take_path-from}
use Rattle.spans.specs.Paths.{path_from, step_from}
use Rattle.changing.specs.Rounds.{rounds_of, Shut}

-- One more round.
abbrev pub Closing : (ℕ → Bool) → (ℕ → ℕ → Bool) → (ℕ → ℕ → Bool) → ℕ → Type 0
Closing A was rows k = (x y : ℕ) → rows x y ≡ rounds_of A was k x y

pub closing_none : (A : ℕ → Bool) (was : ℕ → ℕ → Bool) → Closing A was was 0
unfolding rounds_of
closing_none A was x y = refl

pub closing_more :
    (A : ℕ → Bool) (was rows next : ℕ → ℕ → Bool) (k : ℕ) → ((x y : ℕ) → next x y ≡ (rows x y || (A x && (rows x k && rows k y)))) →
    Closing A was rows k → Closing A was next (k + 1)
unfolding rounds_of
closing_more A was rows next k step inv x y =
    step x y
    ∙ ap₂ (λ a b. a || (A x && b)) (inv x y) (ap₂ (λ a b. a && b) (inv x k) (inv k y))
    ∙ ap (λ m. rounds_of A was m x y) (sym (add-one k))

-- A round with a pivot outside A adds nothing, and one with a pivot of A leaves the rows shut.
pub closing_skip :
    (A : ℕ → Bool) (was rows : ℕ → ℕ → Bool) (k : ℕ) → false ≡ A k → Shut A rows → Closing A was rows k → Closing A was rows (k + 1)
closing_skip A was rows k out shut inv = closing_more A was rows rows k (λ x y. let h = shut x k y in grind (arith, nat_tests)) inv

pub shut_more :
    (A : ℕ → Bool) (rows next : ℕ → ℕ → Bool) (k : ℕ) → true ≡ A k → ((x y : ℕ) → next x y ≡ (rows x y || (A x && (rows x k && rows k y)))) →
    Shut A rows → Shut A next
shut_more A rows next k pivot step shut x j y a b c d =
    is_true (next x y) (by (cases (rows x j) _ (subst T (step x j) (from_true _ c))))
  where
    same_row : T (rows j y)
    same_row = elim (cases (rows j y) _ (subst T (step j y) (from_true _ d))) [ inl t ↦ t | inr t ↦ absurd (from_false (A j) b (parts (A j) _ t).0) ]

    by : T (rows x j) ⊎ T (A x && (rows x k && rows k j)) → T (next x y)
    by (inl t) = subst T (sym (step x y)) (left (rows x y) _ (from_true _ (shut x j y a b (is_true _ t) (is_true _ same_row))))
    by (inr t) =
        let u = parts (A x) _ t in
        let v = parts (rows x k) _ u.1 in
        subst T (sym (step x y)) (right (rows x y) _ (both (A x) _ u.0 (both (rows x k) _ v.0
        (from_true _ (shut k j y (sym pivot) b (is_true _ v.1) (is_true _ same_row))))))

-- A row that no round goes over stays as it is.
pub rounds_kept : (A : ℕ → Bool) (e : ℕ → ℕ → Bool) (x y : ℕ) → A x ≡ false → (k : ℕ) → rounds_of A e k x y ≡ e x y
unfolding rounds_of
rounds_kept A e x y h zero = refl
rounds_kept A e x y h (suc k) = let before = rounds_kept A e x y h k in grind (arith, nat_tests)

module _ (s : State) where
  pub path_to : (x y : ℕ) → T (path_from s x y) → (x < s.size) × TakePath s x y
  unfolding path_from
  path_to x y t = let u = parts (is_vertex s x) _ t in (ltb→lt x s.size u.0, take_path-to s x y u.1)

  pub path_from-law : WellFormed s → (x y : ℕ) → x < s.size → TakePath s x y → T (path_from s x y)
  unfolding path_from
  path_from-law wf x y l v = both (is_vertex s x) _ (lt→ltb x s.size l) (take_path-from s wf x y v)

  pub step_to : (x y : ℕ) → T (step_from s x y) → (x < s.size) × TakePath s x y
  unfolding step_from
  step_to x y t =
      let u = parts (is_vertex s x) _ t in (
        ltb→lt x s.size u.0,
        elim (cases (eqb y x) (can_take s x y) u.1) [
          | inl e ↦ subst (λ z. TakePath s x z) (sym (eqb→eq y x e)) here
          | inr v ↦ one_step v
        ],
      )

  pub step_parts : (x y : ℕ) → T (step_from s x y) → T (eqb y x || can_take s x y)
  unfolding step_from
  step_parts x y t = (parts (is_vertex s x) _ t).1

  one_take : (x y : ℕ) → x < s.size → T (can_take s x y) → T (step_from s x y)
  unfolding step_from
  one_take x y l t = both (is_vertex s x) _ (lt→ltb x s.size l) (right (eqb y x) _ t)

  no_take : (x : ℕ) → x < s.size → T (step_from s x x)
  unfolding step_from
  no_take x l = both (is_vertex s x) _ (lt→ltb x s.size l) (left (eqb x x) _ (eqb_refl x))

-- The rows of A start with single take rights, and with what take paths lead to at most; all others start as take paths.
module _ (s : State) (wf : WellFormed s) (A : ℕ → Bool) (e : ℕ → ℕ → Bool)
    (inside : (x y : ℕ) → T (A x) → T (step_from s x y) → T (e x y)) (within : (x y : ℕ) → T (A x) → T (e x y) → (x < s.size) × TakePath s x y)
    (outside : (x y : ℕ) → A x ≡ false → e x y ≡ path_from s x y) where
  abbrev row : ℕ → ℕ → ℕ → Bool
  row k = rounds_of A e k

  start_led : (x y : ℕ) → T (e x y) → (x < s.size) × TakePath s x y
  start_led x y t =
      elim (decide (A x)) [
        | inl a ↦ within x y a t
        | inr b ↦ path_to s x y (subst T (outside x y (is_false (A x) b)) t)
      ]

  start_from : (x y : ℕ) → x < s.size → T (step_from s x y) → T (e x y)
  start_from x y l t =
      elim (decide (A x)) [
        | inl a ↦ inside x y a t
        | inr b ↦ subst T (sym (outside x y (is_false (A x) b))) (path_from-law s wf x y l (step_to s x y t).1)
      ]

  grows : (k x y : ℕ) → T (row k x y) → T (row (suc k) x y)
  unfolding rounds_of
  grows k x y t = left (row k x y) _ t

  joins : (k x y : ℕ) → T (A x) → T (row k x k) → T (row k k y) → T (row (suc k) x y)
  unfolding rounds_of
  joins k x y a t u = right (row k x y) _ (both (A x) _ a (both (row k x k) _ t u))

  -- What round k adds to a row goes by way of k.
  added : (k x y : ℕ) → T (row (suc k) x y) → T (row k x y) ⊎ (T (A x) × (T (row k x k) × T (row k k y)))
  unfolding rounds_of
  added k x y t =
      elim (cases (row k x y) _ t) [
        | inl u ↦ inl u
        | inr u ↦ let v = parts (A x) _ u in inr (v.0, parts (row k x k) _ v.1)
      ]

  -- Round k adds nothing to what leads to k, or from it.
  to_last : (k x : ℕ) → T (row (suc k) x k) → T (row k x k)
  to_last k x t = elim (added k x k t) [ inl u ↦ u | inr u ↦ u.1.0 ]

  from_last : (k y : ℕ) → T (row (suc k) k y) → T (row k k y)
  from_last k y t = elim (added k k y t) [ inl u ↦ u | inr u ↦ u.1.1 ]

  started : (k x y : ℕ) → T (e x y) → T (row k x y)
  unfolding rounds_of
  started zero x y t = t
  started (suc k) x y t = grows k x y (started k x y t)

  -- Whatever a round adds, a take path leads there.
  led : (k x y : ℕ) → T (row k x y) → (x < s.size) × TakePath s x y
  unfolding rounds_of
  led zero x y t = start_led x y t
  led (suc k) x y t =
      elim (added k x y t) [
        | inl u ↦ led k x y u
        | inr u ↦ let v = led k x k u.1.0 in (v.0, append v.1 (led k k y u.1.1).1)
      ]

  -- A row that no round goes over has all to begin with.
  complete : (k x y : ℕ) → (T (A x) → ⊥) → x < s.size → TakePath s x y → T (row k x y)
  complete k x y b l v = started k x y (subst T (sym (outside x y (is_false (A x) b))) (path_from-law s wf x y l v))

  -- After k rounds, two rows that meet at a vertex below k are one.
  through : (k z x y : ℕ) → z < k → T (row k x z) → T (row k z y) → T (row k x y)
  through zero z x y l t u = absurd (omega arith)
  through (suc k) z x y l t u =
      elim (decide (A x)) [
        | inr b ↦ let v = led (suc k) x z t in complete (suc k) x y b v.0 (append v.1 (led (suc k) z y u).1)
        | inl a ↦
            elim (cases_eq z k) [
              | inl d ↦
                  joins k x y a (to_last k x (subst (λ v. T (row (suc k) x v)) d t)) (from_last k y (subst (λ v. T (row (suc k) v y)) d u))
              | inr d ↦ lower a (λ p q t u. through k z p q (omega arith) t u) (added k x z t) (added k z y u)
            ]
      ]
    where
      lower : T (A x) → ((p q : ℕ) → T (row k p z) → T (row k z q) → T (row k p q)) →
          T (row k x z) ⊎ (T (A x) × (T (row k x k) × T (row k k z))) →
          T (row k z y) ⊎ (T (A z) × (T (row k z k) × T (row k k y))) →
          T (row (suc k) x y)
      lower a one (inl p) (inl q) = grows k x y (one x y p q)
      lower a one (inl p) (inr q) = joins k x y a (one x k p q.1.0) q.1.1
      lower a one (inr p) (inl q) = joins k x y a p.1.0 (one k y p.1.1 q)
      lower a one (inr p) (inr q) = joins k x y a p.1.0 q.1.1

  pub rounds_lead : (x y : ℕ) → rounds_of A e s.size x y ≡ path_from s x y
  rounds_lead x y = same _ _ there (λ t. let u = path_to s x y t in back u.0 u.1)
    where
      there : T (row s.size x y) → T (path_from s x y)
      there t = let u = led s.size x y t in path_from-law s wf x y u.0 u.1

      further : (a b : ℕ) → T (can_take s a b) → T (row s.size x a) → T (row s.size x b)
      further a b t h =
          let l = wf.holder a take_right b t in
          through s.size a x b l h (started s.size a b (start_from a b l (one_take s a b l t)))

      back : x < s.size → TakePath s x y → T (row s.size x y)
      back l v = along (λ z. T (row s.size x z)) further v (started s.size x x (start_from x x l (no_take s x l)))
