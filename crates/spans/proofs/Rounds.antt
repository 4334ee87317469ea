-- As many rounds as there are vertices make the rows of take paths.
use Rattle.std.proofs.Common.{◌≡◌, ℕ, zero, suc, ◌<◌, Bool, ◌&&◌, T, eqb, ltb, ◌⊎◌, sym, subst, inl, inr, arith, eqb→eq, ltb→lt, lt→ltb}
use lib.Dec.{eqb_refl}
use Rattle.std.proofs.lemmas.Bool.{cases_eq}
use Rattle.model.specs.State.{State, WellFormed, is_vertex, take_right}
use Rattle.model.specs.Closure.{here}
use Rattle.model.specs.Spans.{take_path, TakePath, can_take}
use Rattle.model.proofs.Tests.{both, parts, cases, left, right, same}
use Rattle.model.proofs.Stars.{append, along, one_step}
use Rattle.model.proofs.Readings.{take_path-to, take_path-from}
use Rattle.spans.specs.Paths.{path_from, step_from, rounds}

module _ (s : State) where
  -- The rows after k rounds that start from single take rights.
  abbrev row : ℕ → ℕ → ℕ → Bool
  row k = rounds s.size (step_from s) k

  grows : (k x y : ℕ) → T (row k x y) → T (row (suc k) x y)
  unfolding rounds
  grows k x y t = left (row k x y) _ t

  joins : (k x y : ℕ) → x < s.size → T (row k x k) → T (row k k y) → T (row (suc k) x y)
  unfolding rounds
  joins k x y l t u = right (row k x y) _ (both (ltb x s.size) _ (lt→ltb x s.size l) (both (row k x k) _ t u))

  -- What round k adds to a row goes by way of k.
  added : (k x y : ℕ) → T (row (suc k) x y) → T (row k x y) ⊎ ((x < s.size) × (T (row k x k) × T (row k k y)))
  unfolding rounds
  added k x y t =
      elim (cases (row k x y) _ t) [
        | inl u ↦ inl u
        | inr u ↦
            let v = parts (ltb x s.size) _ u in
            inr (ltb→lt x s.size v.0, parts (row k x k) _ v.1)
      ]

  vertex : (k x y : ℕ) → T (row k x y) → x < s.size
  unfolding rounds step_from
  vertex zero x y t = ltb→lt x s.size (parts (is_vertex s x) _ t).0
  vertex (suc k) x y t = elim (added k x y t) [ inl u ↦ vertex k x y u | inr u ↦ u.0 ]

  -- Round k adds nothing to what leads to k, or from it.
  to_last : (k x : ℕ) → T (row (suc k) x k) → T (row k x k)
  to_last k x t = elim (added k x k t) [ inl u ↦ u | inr u ↦ u.1.0 ]

  from_last : (k y : ℕ) → T (row (suc k) k y) → T (row k k y)
  from_last k y t = elim (added k k y t) [ inl u ↦ u | inr u ↦ u.1.1 ]

  -- After k rounds, two rows that meet at a vertex below k are one.
  through : (k z x y : ℕ) → z < k → T (row k x z) → T (row k z y) → T (row k x y)
  through zero z x y l t u = absurd (omega arith)
  through (suc k) z x y l t u =
      elim (cases_eq z k) [
        | inl e ↦
            joins k x y (vertex (suc k) x z t) (to_last k x (subst (λ v. T (row (suc k) x v)) e t))
            (from_last k y (subst (λ v. T (row (suc k) v y)) e u))
        | inr d ↦ lower (λ a b t u. through k z a b (omega arith) t u) (added k x z t) (added k z y u)
      ]
    where
      lower : ((a b : ℕ) → T (row k a z) → T (row k z b) → T (row k a b)) →
          T (row k x z) ⊎ ((x < s.size) × (T (row k x k) × T (row k k z))) →
          T (row k z y) ⊎ ((z < s.size) × (T (row k z k) × T (row k k y))) →
          T (row (suc k) x y)
      lower one (inl a) (inl b) = grows k x y (one x y a b)
      lower one (inl a) (inr b) = joins k x y (vertex k x z a) (one x k a b.1.0) b.1.1
      lower one (inr a) (inl b) = joins k x y a.0 a.1.0 (one k y a.1.1 b)
      lower one (inr a) (inr b) = joins k x y a.0 a.1.0 b.1.1

  started : (k x y : ℕ) → T (step_from s x y) → T (row k x y)
  unfolding rounds
  started zero x y t = t
  started (suc k) x y t = grows k x y (started k x y t)

  -- Whatever a round adds, a take path leads there.
  led : (k x y : ℕ) → T (row k x y) → TakePath s x y
  unfolding rounds step_from
  led zero x y t =
      elim (cases (eqb y x) (can_take s x y) (parts (is_vertex s x) _ t).1) [
        | inl e ↦ subst (λ z. TakePath s x z) (sym (eqb→eq y x e)) here
        | inr u ↦ one_step u
      ]
  led (suc k) x y t = elim (added k x y t) [ inl u ↦ led k x y u | inr u ↦ append (led k x k u.1.0) (led k k y u.1.1) ]

  one_take : (x y : ℕ) → x < s.size → T (can_take s x y) → T (step_from s x y)
  unfolding step_from
  one_take x y l t = both (is_vertex s x) _ (lt→ltb x s.size l) (right (eqb y x) _ t)

  no_take : (x : ℕ) → x < s.size → T (step_from s x x)
  unfolding step_from
  no_take x l = both (is_vertex s x) _ (lt→ltb x s.size l) (left (eqb x x) _ (eqb_refl x))

  pub rounds_lead : WellFormed s → (x y : ℕ) → rounds s.size (step_from s) s.size x y ≡ path_from s x y
  unfolding path_from
  rounds_lead wf x y = same _ _ there (λ t. let u = parts (is_vertex s x) _ t in back (ltb→lt x s.size u.0) (take_path-to s x y u.1))
    where
      there : T (row s.size x y) → T (is_vertex s x && take_path s x y)
      there t = both (is_vertex s x) _ (lt→ltb x s.size (vertex s.size x y t)) (take_path-from s wf x y (led s.size x y t))

      further : (a b : ℕ) → T (can_take s a b) → T (row s.size x a) → T (row s.size x b)
      further a b t h =
          let l = wf.holder a take_right b t in
          through s.size a x b l h (started s.size a b (one_take a b l t))

      back : x < s.size → TakePath s x y → T (row s.size x y)
      back l v = along (λ z. T (row s.size x z)) further v (started s.size x x (no_take x l))
