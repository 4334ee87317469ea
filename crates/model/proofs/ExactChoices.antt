-- The choices of the exact witness: the lowest number that passes a test is what it says, and the first of the shortest rows leads where it should,
-- in fewer steps than there are vertices.
use Rattle.std.proofs.Common.{◌≡◌, ℕ, zero, suc, ◌+◌, ◌-◌, ◌<◌, ◌≤◌, Bool, true, false, cond, ◌&&◌, T, List, [], ◌∷◌, length, sym, refl, ap, ◌∙◌, subst, ap₂, inl, inr, arith, eqb→eq}
use Rattle.std.proofs.lemmas.Bool.{cases_eq, cases_lt}
use Rattle.model.specs.Bounded.{some_below}
use Rattle.model.specs.Closure.{within}
use Rattle.model.specs.Exact.{lowest_from, lowest, first_row, shortest_row_of}
use Rattle.model.proofs.Tests.{both, parts, some_from, some_below-law}
use Rattle.model.proofs.Rounds.{within_here, within_next, first_step-law, round_grows, enough}

-- What holds of both ways of a choice, each where it is taken, holds of the choice.
pub either_way : {A : Type 0} (P : A → Type 0) (c : Bool) (a b : A) → (T c → P a) → ((T c → ⊥) → P b) → P (cond c a b)
either_way P true a b f g = f tt
either_way P false a b f g = g (λ t. t)

-- A number that passes shows that the lowest from k on passes, and is no higher.
lowest_from-law : (k m : ℕ) (f : ℕ → Bool) (j : ℕ) → k ≤ j → j < k + m → T (f j) → T (f (lowest_from k m f)) × (lowest_from k m f ≤ j)
unfolding lowest_from
lowest_from-law k zero f j l h t = absurd (omega arith)
lowest_from-law k (suc m) f j l h t =
    either_way (λ i. T (f i) × (i ≤ j)) (f k) k (lowest_from (suc k) m f) (λ s. (s, l)) (λ fails.
    elim (cases_eq j k) [
      | inl e ↦ absurd (fails (subst (λ i. T (f i)) e t))
      | inr d ↦ lowest_from-law (suc k) m f j (omega arith) (omega arith) t
    ])

lowest_from_most : (k m : ℕ) (f : ℕ → Bool) → lowest_from k m f ≤ k + m
unfolding lowest_from
lowest_from_most k zero f = omega arith
lowest_from_most k (suc m) f =
    let more = lowest_from_most (suc k) m f in
    either_way (λ i. i ≤ k + suc m) (f k) k (lowest_from (suc k) m f) (λ _. omega arith) (λ _. omega arith)

lowest_from_passes : (k m : ℕ) (f : ℕ → Bool) → lowest_from k m f < k + m → T (f (lowest_from k m f))
unfolding lowest_from
lowest_from_passes k zero f h = absurd (omega arith)
lowest_from_passes k (suc m) f h =
    either_way (λ i. i < k + suc m → T (f i)) (f k) k (lowest_from (suc k) m f) (λ t _. t) (λ _ l. lowest_from_passes (suc k) m f (omega arith)) h

lowest_from_same : (k m : ℕ) (f g : ℕ → Bool) → ((j : ℕ) → k ≤ j → j < k + m → f j ≡ g j) → lowest_from k m f ≡ lowest_from k m g
unfolding lowest_from
lowest_from_same k zero f g h = refl
lowest_from_same k (suc m) f g h =
    ap₂ (λ c i. cond c k i) (h k (omega arith) (omega arith)) (lowest_from_same (suc k) m f g (λ j l i. h j (omega arith) (omega arith)))

module _ (n : ℕ) (f : ℕ → Bool) where
  -- The lowest is below n or is n; where some number passes it is below n, and passes;
  pub lowest_most : lowest n f ≤ n
  lowest_most = omega (arith, lowest_from_most 0 n f)

  pub lowest_below : T (some_below n f) → lowest n f < n
  lowest_below t = let s = some_below-law n f t in omega (arith, (lowest_from-law 0 n f s.at (omega arith) (omega arith) s.passes).1)

  pub lowest_passes : T (some_below n f) → T (f (lowest n f))
  lowest_passes t = let s = some_below-law n f t in (lowest_from-law 0 n f s.at (omega arith) (omega arith) s.passes).0

  -- and nothing below it passes.
  pub lowest_least : (j : ℕ) → j < lowest n f → T (f j) → ⊥
  lowest_least j l t = omega (arith, lowest_most, (lowest_from-law 0 n f j (omega arith) (omega (arith, lowest_most)) t).1)

  pub lowest_no_more : (j : ℕ) → T (f j) → lowest n f ≤ j
  lowest_no_more j t = elim (cases_lt j (lowest n f)) [ inl l ↦ absurd (lowest_least j l t) | inr l ↦ l ]

  -- So it is the number that passes, below which none does;
  pub lowest_is : (k : ℕ) → k < n → T (f k) → ((j : ℕ) → j < k → T (f j) → ⊥) → lowest n f ≡ k
  lowest_is k l t none =
      let h = lowest_from-law 0 n f k (omega arith) (omega arith) t in
      elim (cases_eq (lowest n f) k) [
        | inl e ↦ e
        | inr d ↦ absurd (none (lowest n f) (omega (arith, h.1)) h.0)
      ]

  -- and n where none does.
  pub lowest_none : ((j : ℕ) → j < n → T (f j) → ⊥) → lowest n f ≡ n
  lowest_none none =
      elim (cases_eq (lowest n f) n) [
        | inl e ↦ e
        | inr d ↦ let l : lowest n f < n = omega (arith, lowest_most) in absurd (none (lowest n f) l (lowest_from_passes 0 n f (omega arith)))
      ]

-- Tests that agree below n have the same lowest.
pub lowest_same : (n : ℕ) (f g : ℕ → Bool) → ((j : ℕ) → j < n → f j ≡ g j) → lowest n f ≡ lowest n g
lowest_same n f g h = lowest_from_same 0 n f g (λ j _ l. h j (omega arith))

-- A list of vertices below n, each a step of e from the one before, the first from x and the last y.
pub data Leads (n : ℕ) (e : ℕ → ℕ → Bool) : ℕ → List ℕ → ℕ → Type 0 where
  arrived : {x : ℕ} → Leads n e x [] x
  onward : {x z y : ℕ} {more : List ℕ} → z < n → T (e x z) → Leads n e z more y → Leads n e x (z ∷ more) y

module _ (n : ℕ) (e : ℕ → ℕ → Bool) where
  -- More steps lead wherever fewer do.
  pub within_more : (j k x y : ℕ) → j ≤ k → T (within j n e x y) → T (within k n e x y)
  within_more j zero x y l t = subst (λ i. T (within i n e x y)) (omega arith) t
  within_more j (suc k) x y l t =
      elim (cases_eq j (suc k)) [
        | inl same ↦ subst (λ i. T (within i n e x y)) same t
        | inr d ↦ round_grows n e k x y (within_more j k x y (omega arith) t)
      ]

  pub leads_within : {x y : ℕ} {list : List ℕ} → Leads n e x list y → T (within (length list) n e x y)
  leads_within {x} arrived = within_here n e 0 x x refl
  leads_within {x} {y} (onward {z = z} {more = more} l t v) = within_next n e (length more) x z y l t (leads_within v)

  -- k steps lead from x to y, and no fewer do.
  pub record Distance (k x y : ℕ) : Type 0 where
    pub reached : T (within k n e x y)
    pub nearest : (j : ℕ) → j < k → T (within j n e x y) → ⊥

  -- The first step that brings y nearer, as the first row takes it.
  abbrev pub first_step : ℕ → ℕ → ℕ → ℕ
  first_step k x y = lowest n (λ z. e x z && within k n e z y)

  some_step : (k x y : ℕ) → Distance (suc k) x y → T (some_below n (λ z. e x z && within k n e z y))
  some_step k x y d =
      elim (first_step-law n e k x y d.reached) [
        | inl same ↦ absurd (d.nearest 0 (omega arith) (within_here n e 0 x y same))
        | inr s ↦ some_from n _ s.to s.below (both (e x s.to) _ s.edge s.rest)
      ]

  pub first_below-law : (k x y : ℕ) → Distance (suc k) x y → first_step k x y < n
  first_below-law k x y d = lowest_below n _ (some_step k x y d)

  pub first_edge : (k x y : ℕ) → Distance (suc k) x y → T (e x (first_step k x y))
  first_edge k x y d = (parts (e x (first_step k x y)) _ (lowest_passes n _ (some_step k x y d))).0

  pub first_nearer : (k x y : ℕ) → Distance (suc k) x y → Distance k (first_step k x y) y
  first_nearer k x y d =
      record {
        reached = (parts (e x (first_step k x y)) _ (lowest_passes n _ (some_step k x y d))).1;
        nearest = λ j l t. d.nearest (suc j) (omega arith) (within_next n e j x (first_step k x y) y (first_below-law k x y d) (first_edge k x y d) t);
      }

  pub first_leads : (k x y : ℕ) → Distance k x y → Leads n e x (first_row k n e x y) y
  unfolding first_row within
  first_leads zero x y d = subst (λ z. Leads n e x [] z) (eqb→eq x y d.reached) arrived
  first_leads (suc k) x y d =
      onward (first_below-law k x y d) (first_edge k x y d) (first_leads k (first_step k x y) y (first_nearer k x y d))

  pub first_length : (k x y : ℕ) → length (first_row k n e x y) ≡ k
  unfolding first_row
  first_length zero x y = refl
  first_length (suc k) x y = ap suc (first_length k (first_step k x y) y)

  -- The distance, as the shortest row has it.
  abbrev pub distance : ℕ → ℕ → ℕ
  distance x y = lowest n (λ k. within k n e x y)

  module _ (x y : ℕ) (below : x < n) (t : T (within n n e x y)) where
    some_distance : T (some_below n (λ k. within k n e x y))
    some_distance = some_from n _ (n - 1) (omega arith) (enough n e (n - 1) n x y (omega arith) below t)

    pub distance_below : distance x y < n
    distance_below = lowest_below n _ some_distance

    pub distance_is : Distance (distance x y) x y
    distance_is = record { reached = lowest_passes n _ some_distance; nearest = lowest_least n _ }

    -- Where a row leads, the shortest one does, and has fewer than n steps.
    pub shortest_leads : Leads n e x (shortest_row_of n e x y) y
    unfolding shortest_row_of
    shortest_leads = first_leads (distance x y) x y distance_is

    pub shortest_short : length (shortest_row_of n e x y) < n
    unfolding shortest_row_of
    shortest_short = subst (λ k. k < n) (sym (first_length (distance x y) x y)) distance_below

  pub shortest_least : {x y : ℕ} {list : List ℕ} → Leads n e x list y → length (shortest_row_of n e x y) ≤ length list
  unfolding shortest_row_of
  shortest_least {x} {y} {list} v = omega (arith, first_length (distance x y) x y, lowest_no_more n (λ k. within k n e x y) (length list) (leads_within v))

  -- A row of k steps where no fewer do is the shortest: by its distance,
  pub shortest_is : (k x y : ℕ) → k < n → Distance k x y → shortest_row_of n e x y ≡ first_row k n e x y
  unfolding shortest_row_of
  shortest_is k x y l d = ap (λ j. first_row j n e x y) (lowest_is n _ k l d.reached d.nearest)

  -- and by its steps.
  pub shortest_none : (x : ℕ) → 0 < n → shortest_row_of n e x x ≡ []
  unfolding first_row
  shortest_none x l = shortest_is 0 x x l (record { reached = within_here n e 0 x x refl; nearest = λ j h t. omega arith })

  pub shortest_next : (k x y : ℕ) → suc k < n → Distance (suc k) x y → shortest_row_of n e x y ≡ first_step k x y ∷ shortest_row_of n e (first_step k x y) y
  unfolding first_row
  shortest_next k x y l d =
      shortest_is (suc k) x y l d ∙ ap {B = List ℕ} (λ row. first_step k x y ∷ row) (sym (shortest_is k (first_step k x y) y (omega arith) (first_nearer k x y d)))
