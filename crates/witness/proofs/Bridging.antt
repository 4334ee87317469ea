-- Bridges from sets: take paths either way, and those that meet at a grant.
use Rattle.std.proofs.Common.{◌≡◌, ℕ, ◌<◌, ◌≤◌, Bool, true, false, ◌&&◌, ◌||◌, T, sym, refl, ap, ◌∙◌, ap₂, inl, inr, lt→ltb}
use mathlib.Core.Path.{fun_ext}
use Rattle.std.proofs.lemmas.Bool.{cases_Bool}
use Rattle.model.specs.State.{State, WellFormed, is_vertex, is_subject, grant_right}
use Rattle.model.specs.Bounded.{some_below}
use Rattle.model.specs.Spans.{can_grant, take_path, meet, bridge}
use Rattle.model.proofs.Tests.{both, parts, cases, same, from_true, some_both, both_from}
use Rattle.model.proofs.Readings.{subject_vertex}
use Rattle.spans.specs.Paths.{path_from}
use Rattle.bits.proofs.Gathered.{some_narrow}
use Rattle.witness.specs.Beside.{beside_some, near}

module _ (s : State) where
  pub path_to : (x y : ℕ) → T (path_from s x y) → T (take_path s x y)
  unfolding path_from
  path_to x y t = (parts (is_vertex s x) _ t).1

  pub path_from-law : (x y : ℕ) → x < s.size → T (take_path s x y) → T (path_from s x y)
  unfolding path_from
  path_from-law x y l t = both (is_vertex s x) _ (lt→ltb x s.size l) t

  pub path_of : (x y : ℕ) → x < s.size → path_from s x y ≡ take_path s x y
  path_of x y l = same _ _ (path_to x y) (path_from-law x y l)

  -- The take paths of p and q meet at a grant.
  pub meet_is : (p q : ℕ) → p < s.size → q < s.size →
      some_below s.size (λ v. beside_some s (path_from s p) v && path_from s q v) ≡ meet s p q
  unfolding meet beside_some
  meet_is p q lp lq = same _ _ to from
    where
      to : T (some_below s.size (λ v. beside_some s (path_from s p) v && path_from s q v)) → T (meet s p q)
      to t =
          let k = some_both s.size (beside_some s (path_from s p)) (path_from s q) t in
          let j = some_both s.size (path_from s p) (λ u. near s u k.at) k.one in
          both_from s.size (take_path s p) (λ u. some_below s.size (λ v. take_path s q v && near s u v)) j.at j.below (path_to p j.at j.one)
          (both_from s.size (take_path s q) (near s j.at) k.at k.below (path_to q k.at k.other) j.other)

      from : T (meet s p q) → T (some_below s.size (λ v. beside_some s (path_from s p) v && path_from s q v))
      from t =
          let j = some_both s.size (take_path s p) (λ u. some_below s.size (λ v. take_path s q v && near s u v)) t in
          let k = some_both s.size (take_path s q) (near s j.at) j.other in
          both_from s.size (beside_some s (path_from s p)) (path_from s q) k.at k.below
          (both_from s.size (path_from s p) (λ u. near s u k.at) j.at j.below (path_from-law p j.at lp j.one) k.other)
          (path_from-law q k.at lq k.one)

  pub bridge_is : (p : ℕ) → is_subject s p ≡ true → (q : ℕ) →
      (is_subject s q && ((path_from s p q || path_from s q p) || some_below s.size (λ v. beside_some s (path_from s p) v && path_from s q v))) ≡ bridge s p q
  unfolding bridge
  bridge_is p a q =
      elim (cases_Bool (is_subject s q)) [
        | inr h ↦ neither (is_subject s p) (is_subject s q) _ _ h
        | inl h ↦
            let lp = subject_vertex s p (from_true _ a) in
            let lq = subject_vertex s q (from_true _ h) in
            ap₂ (λ b c. b && c) h
            (ap₂ (λ b c. b || c) (ap₂ (λ b c. b || c) (path_of p q lp) (path_of q p lq)) (meet_is p q lp lq)
            ∙ or_assoc (take_path s p q) (take_path s q p) (meet s p q))
            ∙ sym (ap₂ (λ b c. b && (c && (take_path s p q || (take_path s q p || meet s p q)))) a h)
      ]
    where
      neither : (a b j m : Bool) → b ≡ false → (b && j) ≡ (a && (b && m))
      neither true b j m h = ap (λ c. c && j) h ∙ sym (ap (λ c. c && m) h)
      neither false b j m h = ap (λ c. c && j) h

      or_assoc : (x y z : Bool) → ((x || y) || z) ≡ (x || (y || z))
      or_assoc true y z = refl
      or_assoc false y z = refl

  -- Unions over a set from a table of who is beside whom.
  pub beside_is : WellFormed s → s.size ≤ 256 → (rows : ℕ → ℕ → Bool) → ((u v : ℕ) → rows u v ≡ near s u v) → (f : ℕ → Bool) (v : ℕ) →
      some_below 256 (λ u. f u && rows u v) ≡ beside_some s f v
  unfolding beside_some
  beside_is wf l rows e f v =
      some_narrow 256 s.size _ _ l (λ u. ap (λ b. f u && b) (e u v))
      (λ u t. elim (cases (can_grant s u v) _ (parts (f u) _ t).1) [ inl h ↦ wf.holder u grant_right v h | inr h ↦ wf.target v grant_right u h ])

  beside_vertex : WellFormed s → (f : ℕ → Bool) (v : ℕ) → T (beside_some s f v) → v < s.size
  unfolding beside_some
  beside_vertex wf f v t =
      let k = some_both s.size f (λ u. near s u v) t in
      elim (cases (can_grant s k.at v) _ k.other) [ inl h ↦ wf.target k.at grant_right v h | inr h ↦ wf.holder v grant_right k.at h ]

  -- The same from sets that say so, of a state t that is s.
  module _ (wf : WellFormed s) (few : s.size ≤ 256) (t : State) (e : t ≡ s) (p : ℕ) (acts : is_subject s p ≡ true) (ahead side : ℕ → Bool) (to : ℕ → ℕ → Bool)
      (paths : (k : ℕ) → ahead k ≡ path_from t p k) (sides : (v : ℕ) → side v ≡ beside_some s ahead v) (reach : (v q : ℕ) → to v q ≡ path_from t q v) where
    ahead_is : ahead ≡ path_from s p
    ahead_is = fun_ext (λ k. paths k ∙ ap (λ z. path_from z p k) e)

    met_is : (q : ℕ) → some_below 256 (λ v. side v && to v q) ≡ some_below s.size (λ v. beside_some s (path_from s p) v && path_from s q v)
    met_is q =
        some_narrow 256 s.size _ _ few
        (λ v. ap₂ (λ a b. a && b) (sides v ∙ ap (λ f. beside_some s f v) ahead_is) (reach v q ∙ ap (λ z. path_from z q v) e))
        (λ v h. beside_vertex wf (path_from s p) v (parts (beside_some s (path_from s p) v) _ h).0)

    pub bridge_found : (q : ℕ) (subject back either met joined found : Bool) → subject ≡ is_subject s q → back ≡ path_from t q p →
        met ≡ some_below 256 (λ v. side v && to v q) → either ≡ (ahead q || back) → joined ≡ (either || met) → found ≡ (subject && joined) →
        found ≡ bridge s p q
    bridge_found q subject back either met joined found es eb em ee ej ef =
        ef
        ∙ ap₂ (λ a b. a && b) es
        (ej ∙ ap₂ (λ a b. a || b) (ee ∙ ap₂ (λ a b. a || b) (ap (λ f. f q) ahead_is) (eb ∙ ap (λ z. path_from z q p) e)) (em ∙ met_is q))
        ∙ bridge_is p acts q

  pub no_bridge : (p : ℕ) → is_subject s p ≡ false → (q : ℕ) → false ≡ bridge s p q
  unfolding bridge
  no_bridge p a q = sym (ap (λ b. b && (is_subject s q && (take_path s p q || (take_path s q p || meet s p q)))) a)
