-- The members of a set as a list, the lowest first: what a chain of iterators goes through.
use Rattle.std.proofs.Common.{◌≡◌, ℕ, zero, suc, ◌<◌, Bool, true, false, cond, ◌&&◌, ◌||◌, List, [], ◌∷◌, ◌*◌, ◌++◌, length, Option, Some, None, sym, refl, ap, ◌∙◌, subst, ap₂, inl, inr, arith}
use Rattle.std.specs.List.{list_any}
use Rattle.std.proofs.lemmas.List.Folds.{list_any-append}
use Rattle.std.proofs.lemmas.Iterator.{YieldsList}
use Rattle.std.proofs.lemmas.Iterator.Consumers.{YieldsList-from_shown}
use Rattle.std.proofs.lemmas.Bool.{cases_eq}
use Rattle.std.proofs.lemmas.Bool.Decides.{nat_tests}
use Rattle.model.specs.Bounded.{some_below}
use Rattle.bits.specs.Members.{left, TakesLowest}
use Rattle.bits.specs.Sets.{among}
use Rattle.bits.specs.declared.members.Members.{Members}
use Rattle.bits.specs.declared.set.BitSet.{BitSet}
use Rattle.bits.proofs.Holds.{among_below}
use Rattle.bits.proofs.Walk.{Without}

-- The numbers below n that are in the set f.
unfoldable pub members_below : ℕ → (ℕ → Bool) → List ℕ
members_below zero f = []
members_below (suc n) f = members_below n f ++ cond (f n) (n ∷ []) []

pub none_below : (n : ℕ) (f : ℕ → Bool) → ((k : ℕ) → k < n → f k ≡ false) → members_below n f ≡ []
unfolding members_below
none_below zero f h = refl
none_below (suc n) f h = ap₂ (λ xs b. xs ++ cond b (n ∷ []) []) (none_below n f (λ k l. h k (omega arith))) (h n (omega arith))

pub lowest_first : (n : ℕ) (f g : ℕ → Bool) (v : ℕ) → v < n → f v ≡ true → ((k : ℕ) → k < v → f k ≡ false) → Without v f g → members_below n f ≡ v ∷ members_below n g
unfolding members_below
lowest_first zero f g v h t none w = absurd (omega arith)
lowest_first (suc n) f g v h t none w =
    elim (cases_eq n v) [
      | inl e ↦
          let before = none_below n f (λ k l. none k (omega arith)) in
          let after = none_below n g (λ k l. let a = w k in let b = none k (omega arith) in grind (arith, nat_tests)) in
          let here : f n ≡ true = ap f e ∙ t in
          let gone : g n ≡ false = let a = w n in grind (arith, nat_tests) in
          ap₂ (λ xs b. xs ++ cond b (n ∷ []) []) before here ∙ ap (λ k. k ∷ []) e
          ∙ sym (ap₂ (λ xs b. v ∷ (xs ++ cond b (n ∷ []) [])) after gone)
      | inr d ↦
          let rest = lowest_first n f g v (omega arith) t none w in
          let same : f n ≡ g n = let a = w n in grind (arith, nat_tests) in
          ap₂ (λ xs b. xs ++ cond b (n ∷ []) []) rest same
    ]

-- What each call of `next` does.
abbrev pub walk : {w : ℕ} → Members w → Option ℕ → Members w → Type 0
walk {w} s r t = TakesLowest (among w (left s)) r (among w (left t))

-- The chain proof of a walk, as `YieldsList-from_slice` is that of a slice.
pub YieldsList-from_members : {w : ℕ} (m : Members w) (set : BitSet w) → left m ≡ set → YieldsList walk (λ x. x) m (members_below (64 * w) (among w set))
YieldsList-from_members {w} m set e =
    subst (λ s. YieldsList walk (λ x. x) m (members_below (64 * w) (among w s))) e
    (YieldsList-from_shown walk (λ x. x) (λ s. members_below (64 * w) (among w (left s))) none some m)
  where
    none : (s t : Members w) → walk s None t → length (members_below (64 * w) (among w (left s))) ≡ 0
    none s t h = ap length (none_below (64 * w) (among w (left s)) (λ k l. h.0 k))

    some : (s : Members w) (v : ℕ) (t : Members w) → walk s (Some v) t → members_below (64 * w) (among w (left s)) ≡ v ∷ members_below (64 * w) (among w (left t))
    some s v t h = lowest_first (64 * w) (among w (left s)) (among w (left t)) v (among_below w (left s) v h.0) h.0 h.1 h.2

-- One member more.
pub any_more : (p : ℕ → Bool) (xs : List ℕ) (v : ℕ) → list_any p (xs ++ (v ∷ [])) ≡ (list_any p xs || p v)
any_more p xs v = list_any-append p xs (v ∷ []) ∙ law (list_any p xs) (p v)
  where
    law : (a b : Bool) → (a || (b || false)) ≡ (a || b)
    law true b = refl
    law false true = refl
    law false false = refl

-- `any` over the members.
pub any_members : (n : ℕ) (f p : ℕ → Bool) → list_any p (members_below n f) ≡ some_below n (λ v. f v && p v)
unfolding members_below some_below
any_members zero f p = refl
any_members (suc n) f p =
    list_any-append p (members_below n f) (cond (f n) (n ∷ []) []) ∙ ap₂ (λ a b. a || b) (any_members n f p) refl ∙ law (some_below n (λ v. f v && p v)) (f n)
  where
    law : (a b : Bool) → (a || list_any p (cond b (n ∷ []) [])) ≡ ((b && p n) || a)
    law a true = grind (arith, nat_tests)
    law a false = grind (arith, nat_tests)
