-- A round of the closure, row by row: the rows below i have had it.
use Rattle.std.proofs.Common.{◌≡◌, ℕ, ◌+◌, ◌<◌, Bool, ◌&&◌, ◌||◌, T, eqb, ltb, sym, refl, ap, ◌∙◌, ap₂, inl, inr, add-one, arith}
use Rattle.std.proofs.lemmas.Bool.{cases_eq, ne_eqb}
use Rattle.std.proofs.lemmas.Bool.Decides.{nat_tests}
use Rattle.model.specs.State.{State}
use Rattle.model.specs.Spans.{can_take}
use Rattle.spans.specs.Paths.{rounds, step_from}
use Rattle.spans.proofs.Resized.{within}

abbrev pub Turned : (ℕ → ℕ → Bool) → ℕ → (ℕ → ℕ → Bool) → ℕ → Type 0
Turned was k rows i = (x y : ℕ) → rows x y ≡ (was x y || (ltb x i && (was x k && was k y)))

-- The rows below i have their vertex, and whom it has take to.
abbrev pub Begun : State → (ℕ → ℕ → Bool) → (ℕ → ℕ → Bool) → ℕ → Type 0
Begun s was rows i = (x y : ℕ) → rows x y ≡ (was x y || (ltb x i && (eqb y x || can_take s x y)))

begun_row-law : (i x y : ℕ) (was rows mid next to : Bool) →
    rows ≡ (was || (ltb x i && (eqb y x || to))) → mid ≡ (rows || (eqb x i && to)) → next ≡ ((eqb x i && eqb y i) || mid) →
    next ≡ (was || (ltb x (i + 1) && (eqb y x || to)))
begun_row-law i x y was rows mid next to a b c = elim (cases_eq x i) [ inl e ↦ grind (arith, nat_tests) | inr d ↦ grind (arith, nat_tests) ]

pub begun_more :
    (s : State) (was rows mid next : ℕ → ℕ → Bool) (i m : ℕ) (f : ℕ → Bool) → ((y : ℕ) → T (can_take s i y) → y < m) → ((y : ℕ) → f y ≡ can_take s i y) →
    ((x y : ℕ) → mid x y ≡ (rows x y || (eqb x i && (ltb y m && f y)))) →
    ((x y : ℕ) → next x y ≡ ((eqb x i && eqb y i) || mid x y)) →
    Begun s was rows i → Begun s was next (i + 1)
begun_more s was rows mid next i m f bound same add put inv x y =
    begun_row-law i x y (was x y) (rows x y) (mid x y) (next x y) (can_take s x y) (inv x y) (add x y ∙ ap (λ b. rows x y || b) here) (put x y)
  where
    here : (eqb x i && (ltb y m && f y)) ≡ (eqb x i && can_take s x y)
    here =
        elim (cases_eq x i) [
          | inl e ↦ ap (λ b. eqb x i && b) (ap (λ b. ltb y m && b) (same y) ∙ within y m (can_take s i y) (bound y) ∙ ap (λ z. can_take s z y) (sym e))
          | inr d ↦ ap₂ (λ a b. a && b) (ne_eqb x i d) refl ∙ sym (ap (λ a. a && can_take s x y) (ne_eqb x i d))
        ]

pub begun_all : (s : State) (was rows : ℕ → ℕ → Bool) (i : ℕ) → i ≡ s.size → Begun s was rows i → (x y : ℕ) → rows x y ≡ (was x y || step_from s x y)
unfolding step_from
begun_all s was rows i e inv x y = inv x y ∙ ap (λ n. was x y || (ltb x n && (eqb y x || can_take s x y))) e

-- The rows after k rounds.
abbrev pub Closing : ℕ → (ℕ → ℕ → Bool) → (ℕ → ℕ → Bool) → ℕ → Type 0
Closing n was rows k = (x y : ℕ) → rows x y ≡ rounds n was k x y

pub closing_none : (n : ℕ) (was : ℕ → ℕ → Bool) → Closing n was was 0
unfolding rounds
closing_none n was x y = refl

pub closing_more :
    (n : ℕ) (was rows next : ℕ → ℕ → Bool) (k : ℕ) → ((x y : ℕ) → next x y ≡ (rows x y || (ltb x n && (rows x k && rows k y)))) →
    Closing n was rows k → Closing n was next (k + 1)
unfolding rounds
closing_more n was rows next k step inv x y =
    step x y
    ∙ ap₂ (λ a b. a || (ltb x n && b)) (inv x y) (ap₂ (λ a b. a && b) (inv x k) (inv k y))
    ∙ ap (λ m. rounds n was m x y) (sym (add-one k))
