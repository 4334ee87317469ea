-- Rounds of a closure over n vertices: each round adds a vertex or nothing, so fewer than n steps lead wherever a row of steps leads.
use Rattle.std.proofs.Common.{◌≡◌, ℕ, zero, suc, ◌+◌, ◌<◌, ◌≤◌, Bool, true, false, cond, ◌&&◌, T, eqb, ◌⊎◌, sym, refl, subst, inl, inr, arith, eqb→eq}
use Rattle.std.proofs.lemmas.Bool.{cases_eq}
use Rattle.model.specs.Bounded.{count_below}
use Rattle.model.specs.Closure.{within, Star, here, next}
use Rattle.model.proofs.Tests.{both, parts, cases, left, right, decide, same, eq_test, Some, some_from, some_below-law}
use Rattle.model.proofs.Stars.{along, map_steps}

-- A set lies within another, below n.
abbrev pub Within : ℕ → (ℕ → Bool) → (ℕ → Bool) → Type 0
Within n f g = (x : ℕ) → x < n → T (f x) → T (g x)

below_more : (n : ℕ) (f g : ℕ → Bool) → (T (f n) → T (g n)) → Within n f g → Within (suc n) f g
below_more n f g h w x l t =
    elim (cases_eq x n) [
      | inl e ↦ subst (λ k. T (g k)) (sym e) (h (subst (λ k. T (f k)) e t))
      | inr d ↦ w x (omega arith) t
    ]

-- One more vertex: how the counts of two sets compare.
more : (a b : Bool) (m n : ℕ) → (T a → T b) → m ≤ n → cond a (suc m) m ≤ cond b (suc n) n
more true true m n h l = omega arith
more true false m n h l = absurd (h tt)
more false true m n h l = omega arith
more false false m n h l = l

more_still : (a b : Bool) (m n : ℕ) → (T a → T b) → m < n → cond a (suc m) m < cond b (suc n) n
more_still true true m n h l = omega arith
more_still true false m n h l = absurd (h tt)
more_still false true m n h l = omega arith
more_still false false m n h l = l

more_now : (a b : Bool) (m n : ℕ) → (T a → ⊥) → T b → m ≤ n → cond a (suc m) m < cond b (suc n) n
more_now true b m n h t l = absurd (h tt)
more_now false true m n h t l = omega arith
more_now false false m n h t l = absurd t

count_most : (n : ℕ) (f : ℕ → Bool) → count_below n f ≤ n
unfolding count_below
count_most zero f = omega arith
count_most (suc n) f = more (f n) true (count_below n f) n (λ t. tt) (count_most n f)

count_within : (n : ℕ) (f g : ℕ → Bool) → Within n f g → count_below n f ≤ count_below n g
unfolding count_below
count_within zero f g h = omega arith
count_within (suc n) f g h = more (f n) (g n) _ _ (h n (omega arith)) (count_within n f g (λ x l. h x (omega arith)))

count_one : (n : ℕ) (f : ℕ → Bool) (x : ℕ) → x < n → T (f x) → 1 ≤ count_below n f
unfolding count_below
count_one zero f x h t = absurd (omega arith)
count_one (suc n) f x h t =
    elim (cases_eq x n) [
      | inl e ↦ more true (f n) 0 _ (λ _. subst (λ k. T (f k)) e t) (omega arith)
      | inr d ↦ more_still false (f n) 0 _ (λ s. absurd s) (count_one n f x (omega arith) t)
    ]

-- Of two sets, one within the other, either the other is within the one, or it counts more.
same_or_more : (n : ℕ) (f g : ℕ → Bool) → Within n f g → Within n g f ⊎ (count_below n f < count_below n g)
unfolding count_below
same_or_more zero f g h = inl (λ x l t. absurd (omega arith))
same_or_more (suc n) f g h =
    elim (same_or_more n f g (λ x l. h x (omega arith))) [
      | inr l ↦ inr (more_still (f n) (g n) _ _ (h n (omega arith)) l)
      | inl w ↦
          elim (decide (f n)) [
            | inl t ↦ inl (below_more n g f (λ s. t) w)
            | inr u ↦
                elim (decide (g n)) [
                  | inl s ↦ inr (more_now (f n) (g n) _ _ u s (count_within n f g (λ x l. h x (omega arith))))
                  | inr v ↦ inl (below_more n g f (λ s. absurd (v s)) w)
                ]
          ]
    ]

module _ (n : ℕ) (e : ℕ → ℕ → Bool) where
  -- The first step of a row, if it has one, and back.
  pub within_here : (k : ℕ) (x y : ℕ) → x ≡ y → T (within k n e x y)
  unfolding within
  within_here zero x y d = eq_test x y d
  within_here (suc k) x y d = left (eqb x y) _ (eq_test x y d)

  pub within_next : (k x z y : ℕ) → z < n → T (e x z) → T (within k n e z y) → T (within (suc k) n e x y)
  unfolding within
  within_next k x z y l t w = right (eqb x y) _ (some_from n _ z l (both (e x z) _ t w))

  pub record Step (k x y : ℕ) : Type 0 where
    pub to : ℕ
    pub below : to < n
    pub edge : T (e x to)
    pub rest : T (within k n e to y)

  pub first_step-law : (k x y : ℕ) → T (within (suc k) n e x y) → (x ≡ y) ⊎ Step k x y
  unfolding within
  first_step-law k x y t =
      elim (cases (eqb x y) _ t) [
        | inl d ↦ inl (eqb→eq x y d)
        | inr s ↦ inr (taken (some_below-law n _ s))
      ]
    where
      taken : Some n (λ z. e x z && within k n e z y) → Step k x y
      taken s =
          record {
            to = s.at;
            below = s.below;
            edge = (parts (e x s.at) _ s.passes).0;
            rest = (parts (e x s.at) _ s.passes).1;
          }

  -- One more round holds what the round before holds.
  pub round_grows : (k x y : ℕ) → T (within k n e x y) → T (within (suc k) n e x y)
  unfolding within
  round_grows zero x y t = left (eqb x y) _ t
  round_grows (suc k) x y t =
      elim (first_step-law k x y t) [
        | inl d ↦ within_here (suc (suc k)) x y d
        | inr s ↦ within_next (suc k) x s.to y s.below s.edge (round_grows k s.to y s.rest)
      ]

  -- A round that adds nothing below n is the last that adds anything there.
  last_round :
      (m y : ℕ) → Within n (λ x. within (suc m) n e x y) (λ x. within m n e x y) → (k x : ℕ) → x < n → T (within k n e x y) → T (within m n e x y)
  unfolding within
  last_round m y still zero x l t = within_here m x y (eqb→eq x y t)
  last_round m y still (suc k) x l t =
      elim (first_step-law k x y t) [
        | inl d ↦ within_here m x y d
        | inr s ↦ still x l (within_next m x s.to y s.below s.edge (last_round m y still k s.to s.below s.rest))
      ]

  -- After k rounds a further one adds nothing, or more than k were added to what there was first.
  round_adds : (k y : ℕ) →
      Within n (λ x. within (suc k) n e x y) (λ x. within k n e x y) ⊎
      (k + count_below n (λ x. within zero n e x y) < count_below n (λ x. within (suc k) n e x y))
  round_adds zero y =
      elim (same_or_more n _ _ (λ x l. round_grows zero x y)) [
        | inl w ↦ inl w
        | inr l ↦ inr (omega arith)
      ]
  round_adds (suc k) y =
      elim (round_adds k y) [
        | inl w ↦ inl (λ x l t. round_grows k x y (last_round k y w (suc (suc k)) x l t))
        | inr h ↦
            elim (same_or_more n _ _ (λ x l. round_grows (suc k) x y)) [
              | inl w ↦ inl w
              | inr l ↦ inr (omega arith)
            ]
      ]

  -- No row leads from below n to past it.
  stays_below : (k x y : ℕ) → x < n → T (within k n e x y) → y < n
  unfolding within
  stays_below zero x y l t = subst (λ z. z < n) (eqb→eq x y t) l
  stays_below (suc k) x y l t =
      elim (first_step-law k x y t) [
        | inl d ↦ subst (λ z. z < n) d l
        | inr s ↦ stays_below k s.to y s.below s.rest
      ]

  no_more : (m y : ℕ) → n ≤ suc m → y < n → Within n (λ x. within (suc m) n e x y) (λ x. within m n e x y)
  no_more m y h l =
      elim (round_adds m y) [
        | inl w ↦ w
        | inr d ↦ λ x _ _. absurd (omega (arith, count_most n (λ x. within (suc m) n e x y), start))
      ]
    where
      start : 1 ≤ count_below n (λ x. within zero n e x y)
      start = count_one n _ y l (within_here zero y y refl)

  -- Fewer than n steps lead from a vertex wherever any number of steps lead;
  pub enough : (m k x y : ℕ) → n ≤ suc m → x < n → T (within k n e x y) → T (within m n e x y)
  enough m k x y h l t = last_round m y (no_more m y h (stays_below k x y l t)) k x l t

  -- and n steps do from anywhere.
  pub complete : (k x y : ℕ) → T (within k n e x y) → T (within n n e x y)
  unfolding within
  complete zero x y t = within_here n x y (eqb→eq x y t)
  complete (suc k) x y t =
      elim (first_step-law k x y t) [
        | inl d ↦ within_here n x y d
        | inr s ↦ begin n refl s
      ]
    where
      begin : (m : ℕ) → m ≡ n → Step k x y → T (within m n e x y)
      begin zero d s = absurd (omega (arith, s.below))
      begin (suc m) d s = within_next m x s.to y s.below s.edge (enough m k s.to y (omega arith) s.below s.rest)

  -- The closure is the relation's: of steps of e to vertices below n.
  pub row_to : (k x y : ℕ) → T (within k n e x y) → Star (λ a b. (b < n) × T (e a b)) x y
  unfolding within
  row_to zero x y t = subst (λ z. Star (λ a b. (b < n) × T (e a b)) x z) (eqb→eq x y t) here
  row_to (suc k) x y t =
      elim (first_step-law k x y t) [
        | inl d ↦ subst (λ z. Star (λ a b. (b < n) × T (e a b)) x z) d here
        | inr s ↦ next {z = s.to} (s.below, s.edge) (row_to k s.to y s.rest)
      ]

  pub row_from : {x y : ℕ} → Star (λ a b. (b < n) × T (e a b)) x y → T (within n n e x y)
  row_from {x} here = within_here n x x refl
  row_from {x} {y} (next {z = z} s v) = complete (suc n) x y (within_next n x z y s.0 s.1 (row_from v))

  pub star_to : (k x y : ℕ) → T (within k n e x y) → Star (λ a b. T (e a b)) x y
  star_to k x y t = map_steps (λ a b s. s.1) (row_to k x y t)

  pub star_from : ((a b : ℕ) → T (e a b) → b < n) → {x y : ℕ} → Star (λ a b. T (e a b)) x y → T (within n n e x y)
  star_from bound v = row_from (map_steps (λ a b t. (bound a b t, t)) v)

  -- A set of vertices that holds x, is closed under e, and holds only what a row of steps from x leads to, is the closure of x.
  pub closed_is :
      (S : ℕ → Bool) (x : ℕ) → x < n → T (S x) → ((a b : ℕ) → a < n → b < n → T (S a) → T (e a b) → T (S b)) →
      ((y : ℕ) → y < n → T (S y) → Star (λ a b. T (e a b)) x y) → ((a b : ℕ) → T (e a b) → b < n) → (y : ℕ) → y < n → S y ≡ within n n e x y
  closed_is S x l start closed led bound y h =
      same (S y) _ (λ t. star_from bound (led y h t)) (λ t. reach (row_to n x y t))
    where
      reach : Star (λ a b. (b < n) × T (e a b)) x y → T (S y)
      reach v = (along (λ z. (z < n) × T (S z)) (λ a b s h. (s.0, closed a b h.0 s.0 h.1 s.1)) v (l, start)).1
