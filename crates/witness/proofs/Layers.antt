-- Layers round a vertex: from where at most so many steps of a table lead to it.
use Rattle.std.proofs.Common.{◌≡◌, ℕ, zero, suc, ◌+◌, ◌<◌, ◌≤◌, not, ◌&&◌, ◌||◌, Bool, false, T, List, eqb, eqb→eq, sym, subst, inl, inr, add-one, arith}
use lib.Dec.{not_T}
use Rattle.bits.specs.Sets.{holds, VertexSet}
use Rattle.model.specs.Bounded.{some_below}
use Rattle.model.specs.Closure.{within}
use Rattle.model.proofs.ExactChoices.{within_more}
use Rattle.model.proofs.Rounds.{within_here, within_next, first_step-law, round_grows}
use Rattle.model.proofs.Tests.{both, parts, cases, left, right, decide, same, some_both, both_from, from_false}
use Rattle.witness.specs.Rows.{Fits, IsLayer, turned}
use Rattle.witness.specs.declared.layer.Layer.{Layer}

module _ (n : ℕ) (back : List VertexSet) (y : ℕ) where
  abbrev e : ℕ → ℕ → Bool
  e = turned back

  pub layer_none : (layer : Layer) → layer.fresh ≡ layer.near → ((z : ℕ) → holds layer.near z ≡ eqb z y) → IsLayer n back y 0 layer
  unfolding within
  layer_none layer o f = record { last = f; found = λ z t. subst (λ s. T (holds s z)) o t; done = λ x z t u. absurd (u (subst (λ s. T (holds s z)) (sym o) t)) }

  -- Where nothing is fresh, no step leads to the layer but from inside it.
  module _ (k : ℕ) (layer : Layer) (is : IsLayer n back y k layer) (none : (z : ℕ) → holds layer.fresh z ≡ false) where
    closed : (m x : ℕ) → T (within m n e x y) → T (holds layer.near x)
    unfolding within
    closed zero x t = subst T (sym (is.last x)) (within_here n e k x y (eqb→eq x y t))
    closed (suc m) x t =
        elim (first_step-law n e m x y t) [
          | inl h ↦ subst T (sym (is.last x)) (within_here n e k x y h)
          | inr s ↦ is.done x s.to (closed m s.to s.rest) (from_false _ (none s.to)) s.edge
        ]

    pub layer_whole : k ≤ n → (z : ℕ) → holds layer.near z ≡ within n n e z y
    layer_whole l z = same _ _ (λ t. within_more n e k n z y l (subst T (is.last z) t)) (closed n z)

  module _ (fits : Fits n back) (few : n ≤ 256) (k : ℕ) (layer next : Layer) (more : ℕ → Bool) (g : (x : ℕ) → more x ≡ some_below 256 (λ z. holds layer.fresh z && e x z))
      (f : (x : ℕ) → holds next.near x ≡ (holds layer.near x || more x)) (d : (x : ℕ) → holds next.fresh x ≡ (holds next.near x && not (holds layer.near x)))
      (is : IsLayer n back y k layer) where
    fit : (x z : ℕ) → T (e x z) → z < n
    fit x z t = (fits z x t).0

    to : (x : ℕ) → T (holds next.near x) → T (within (suc k) n e x y)
    to x t =
        elim (cases (holds layer.near x) _ (subst T (f x) t)) [
          | inl h ↦ round_grows n e k x y (subst T (is.last x) h)
          | inr h ↦
              let j = some_both 256 (holds layer.fresh) (e x) (subst T (g x) h) in
              within_next n e k x j.at y (fit x j.at j.other) j.other (subst T (is.last j.at) (is.found j.at j.one))
        ]

    from : (x : ℕ) → T (within (suc k) n e x y) → T (holds next.near x)
    from x t =
        elim (first_step-law n e k x y t) [
          | inl h ↦ subst T (sym (f x)) (left (holds layer.near x) _ (subst T (sym (is.last x)) (within_here n e k x y h)))
          | inr s ↦
              subst T (sym (f x))
              (elim (decide (holds layer.fresh s.to)) [
                | inl a ↦ right (holds layer.near x) _ (subst T (sym (g x)) (both_from 256 (holds layer.fresh) (e x) s.to (let b = fit x s.to s.edge in omega arith) a s.edge))
                | inr b ↦ left (holds layer.near x) _ (is.done x s.to (subst T (sym (is.last s.to)) s.rest) b s.edge)
              ])
        ]

    older : (z : ℕ) → T (holds next.near z) → (T (holds next.fresh z) → ⊥) → T (holds layer.near z)
    older z t old =
        elim (decide (holds layer.near z)) [ inl h ↦ h | inr h ↦ absurd (old (subst T (sym (d z)) (both (holds next.near z) _ t (not_T (holds layer.near z) h)))) ]

    pub layer_more : IsLayer n back y (k + 1) next
    layer_more =
        subst (λ m. IsLayer n back y m next) (sym (add-one k))
        (record {
          last = λ x. same _ _ (to x) (from x);
          found = λ z t. (parts (holds next.near z) _ (subst T (d z) t)).0;
          done = λ x z t old h. from x (within_next n e k x z y (fit x z h) h (subst T (is.last z) (older z t old)));
        })
