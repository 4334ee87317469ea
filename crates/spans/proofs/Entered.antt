-- Rows turned round.
use Rattle.std.proofs.Common.{◌≡◌, ℕ, ◌+◌, ◌<◌, Bool, true, false, ◌&&◌, ◌||◌, T, eqb, List, length, set, sym, ap, subst, ◌∙◌, inl, inr, arith}
use Rattle.std.proofs.lemmas.Bool.{cases_Bool, cases_eq, cases_lt}
use Rattle.std.proofs.lemmas.Bool.Decides.{nat_tests}
use Rattle.bits.specs.Sets.{holds, in_row, VertexSet}
use Rattle.bits.proofs.Walk.{Without}
use Rattle.bits.proofs.Holds.{row_set}
use Rattle.model.proofs.Tests.{is_true, is_false, from_true}

-- x was entered for its targets, but for those that are left.
abbrev pub Entered : (ℕ → ℕ → Bool) → (ℕ → Bool) → ℕ → (ℕ → ℕ → Bool) → (ℕ → Bool) → Type 0
Entered was targets x sets rest = (y k : ℕ) → (sets y k || (eqb k x && rest y)) ≡ ((eqb k x && targets y) || was y k)

pub entered_more :
    (was : ℕ → ℕ → Bool) (targets : ℕ → Bool) (x : ℕ) (sets : List VertexSet) (rest rest' : ℕ → Bool) (v i : ℕ) (s : VertexSet) → i ≡ v → v < length sets →
    rest v ≡ true → Without v rest rest' → ((k : ℕ) → holds s k ≡ (eqb k x || in_row sets i k)) →
    Entered was targets x (in_row sets) rest → Entered was targets x (in_row (set sets i s)) rest'
entered_more was targets x sets rest rest' v i s q l t w e inv y k =
    let a = inv y k in
    let b = w y in
    let c = row_set sets i s (omega arith) y k in
    let d = e k in
    elim (cases_eq y v) [
      | inl h ↦
          let r : rest y ≡ true = ap rest h ∙ t in
          let same : in_row sets y k ≡ in_row sets i k = ap (λ z. in_row sets z k) (h ∙ sym q) in
          grind (arith, nat_tests)
      | inr h ↦ grind (arith, nat_tests)
    ]

-- The rows below n were turned round.
abbrev pub Turning : (ℕ → VertexSet → Type 0) → (ℕ → ℕ → Bool) → ℕ → Type 0
Turning row sets n =
    ((y x : ℕ) → T (sets y x) → x < n) × ((x : ℕ) → x < n → (set : VertexSet) × row x set × ((y : ℕ) → sets y x ≡ holds set y))

pub turning_none : (row : ℕ → VertexSet → Type 0) (sets : ℕ → ℕ → Bool) → ((y x : ℕ) → sets y x ≡ false) → Turning row sets 0
turning_none row sets none = (λ y x t. absurd (subst T (none y x) t), λ x h. absurd (omega arith))

pub turning_more :
    (row : ℕ → VertexSet → Type 0) (sets next : ℕ → ℕ → Bool) (n : ℕ) (s : VertexSet) → row n s →
    ((y k : ℕ) → next y k ≡ ((eqb k n && holds s y) || sets y k)) → Turning row sets n → Turning row next (n + 1)
turning_more row sets next n s r step inv = (within, at)
  where
    within : (y x : ℕ) → T (next y x) → x < n + 1
    within y x t =
        elim (cases_Bool (sets y x)) [
          | inl h ↦ let l = inv.0 y x (from_true _ h) in omega arith
          | inr h ↦ let a = step y x in let b = is_true _ t in let d : x ≡ n = grind (arith, nat_tests) in omega arith
        ]

    past : (y : ℕ) → sets y n ≡ false
    past y = is_false _ (λ t. let l = inv.0 y n t in omega arith)

    at : (x : ℕ) → x < n + 1 → (set : VertexSet) × row x set × ((y : ℕ) → next y x ≡ holds set y)
    at x h =
        elim (cases_eq x n) [
          | inl e ↦ (s, subst (λ z. row z s) (sym e) r, λ y. let a = step y x in let b = ap (sets y) e ∙ past y in grind (arith, nat_tests))
          | inr d ↦ let i = inv.1 x (omega arith) in (i.0, i.1, λ y. let a = step y x in let b = i.2 y in grind (arith, nat_tests))
        ]

-- Two sets of numbers below n that agree below n.
pub all_below_agree : (n : ℕ) (f g : ℕ → Bool) → ((k : ℕ) → T (f k) → k < n) → ((k : ℕ) → T (g k) → k < n) → ((k : ℕ) → k < n → f k ≡ g k) → (k : ℕ) → f k ≡ g k
all_below_agree n f g a b e k =
    elim (cases_lt k n) [
      | inl l ↦ e k l
      | inr l ↦ is_false (f k) (λ t. let h = a k t in omega arith) ∙ sym (is_false (g k) (λ t. let h = b k t in omega arith))
    ]
