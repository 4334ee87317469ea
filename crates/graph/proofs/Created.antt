-- A creation as the code does it: a vertex more, and then its creator's rights one by one.
use Rattle.std.proofs.Common.{◌≡◌, ℕ, suc, ◌+◌, ◌<◌, Bool, true, false, cond, ◌&&◌, ◌||◌, T, eqb, ltb, sym, refl, ap, ◌∙◌, inl, inr, arith}
use Rattle.bits.proofs.Bit.{bit_past}
use Rattle.model.proofs.Tests.{is_false}
use Rattle.std.proofs.lemmas.Bool.{cases_eq, eq-eqb, ne_eqb, cond-true, cond-false, cases_lt, lt-ltb, le-ltb, eqb-true}
use Rattle.std.proofs.lemmas.Bool.Decides.{nat_tests}
use Rattle.model.specs.Bit.{bit}
use Rattle.model.specs.State.{State}
use Rattle.model.specs.Rules.{this_right, given, created}
use Rattle.graph.specs.Graphs.{gifted, grown}
use Rattle.graph.proofs.States.{same_state}

pub gifted_none : (p rights q : ℕ) (s : State) → s ≡ gifted p rights q 0 s
gifted_none p rights q s =
    same_state s.size s.subject _ _ λ x k y.
    law (eqb x p) (eqb y q) (s.has x k y) ∙ ap (λ z. (eqb x p && (eqb y q && (z && bit rights k))) || s.has x k y) (sym (le-ltb k 0 (omega arith)))
  where
    law : (a b t : Bool) → t ≡ ((a && (b && false)) || t)
    law true true t = refl
    law true false t = refl
    law false b t = refl

module _ (p rights q r : ℕ) (s : State) where
  -- One right more, or none, below r + 1 than below r.
  more : bit rights r ≡ true → (x k y : ℕ) → (this_right p r q x k y || ((eqb x p && (eqb y q && (ltb k r && bit rights k))) || s.has x k y)) ≡ ((eqb x p && (eqb y q && (ltb k (r + 1) && bit rights k))) || s.has x k y)
  more h x k y = elim (cases_eq k r) [ inl e ↦ at_r e | inr d ↦ not_r d ]
    where
      at_r : k ≡ r → (this_right p r q x k y || ((eqb x p && (eqb y q && (ltb k r && bit rights k))) || s.has x k y)) ≡ ((eqb x p && (eqb y q && (ltb k (r + 1) && bit rights k))) || s.has x k y)
      at_r e =
          let e1 = eq-eqb k r e in
          let e2 = lt-ltb k (r + 1) (omega arith) in
          let e3 : bit rights k ≡ true = ap (bit rights) e ∙ h in
          let e4 = le-ltb k r (omega arith) in
          simp (e1, e2, e3, e4) (law (eqb x p) (eqb y q) (s.has x k y))
        where
          law : (a c t : Bool) → ((a && c) || ((a && (c && false)) || t)) ≡ ((a && (c && true)) || t)
          law true true t = refl
          law true false t = refl
          law false c t = refl

      not_r : (k ≡ r → ⊥) → (this_right p r q x k y || ((eqb x p && (eqb y q && (ltb k r && bit rights k))) || s.has x k y)) ≡ ((eqb x p && (eqb y q && (ltb k (r + 1) && bit rights k))) || s.has x k y)
      not_r d =
          let e1 = ne_eqb k r d in
          let e2 : ltb k (r + 1) ≡ ltb k r = grind (arith, nat_tests) in
          simp (e1, e2) (law (eqb x p) ((eqb x p && (eqb y q && (ltb k r && bit rights k))) || s.has x k y))
        where
          law : (a t : Bool) → ((a && false) || t) ≡ t
          law true t = refl
          law false t = refl

  skip : bit rights r ≡ false → (x k y : ℕ) → ((eqb x p && (eqb y q && (ltb k r && bit rights k))) || s.has x k y) ≡ ((eqb x p && (eqb y q && (ltb k (r + 1) && bit rights k))) || s.has x k y)
  skip h x k y = ap (λ t. (eqb x p && (eqb y q && t)) || s.has x k y) (elim (cases_eq k r) [ inl e ↦ at_r e | inr d ↦ not_r d ])
    where
      at_r : k ≡ r → (ltb k r && bit rights k) ≡ (ltb k (r + 1) && bit rights k)
      at_r e = let e3 : bit rights k ≡ false = ap (bit rights) e ∙ h in simp e3 (law (ltb k r) (ltb k (r + 1)))
        where
          law : (a b : Bool) → (a && false) ≡ (b && false)
          law true true = refl
          law true false = refl
          law false true = refl
          law false false = refl

      not_r : (k ≡ r → ⊥) → (ltb k r && bit rights k) ≡ (ltb k (r + 1) && bit rights k)
      not_r d = let e2 : ltb k r ≡ ltb k (r + 1) = grind (arith, nat_tests) in ap (λ t. t && bit rights k) e2

  pub gifted_more : bit rights r ≡ true → given p r q (gifted p rights q r s) ≡ gifted p rights q (r + 1) s
  gifted_more h = same_state s.size s.subject _ _ (more h)

  pub gifted_skip : bit rights r ≡ false → gifted p rights q r s ≡ gifted p rights q (r + 1) s
  gifted_skip h = same_state s.size s.subject _ _ (skip h)

-- Who is a subject once there is a vertex n more.
pub new_subject : (n : ℕ) (f : ℕ → Bool) (acting : Bool) → acting ≡ true → (k : ℕ) → (eqb k n || f k) ≡ cond (eqb k n) acting (f k)
new_subject n f acting e k = law (eqb k n) (f k) ∙ ap (λ t. cond (eqb k n) t (f k)) (sym e)
  where
    law : (a t : Bool) → (a || t) ≡ cond a true t
    law true t = refl
    law false t = refl

pub new_object : (n : ℕ) (f : ℕ → Bool) (acting : Bool) → acting ≡ false → ((k : ℕ) → T (f k) → k < n) → (k : ℕ) → f k ≡ cond (eqb k n) acting (f k)
new_object n f acting e h k =
    elim (cases_eq k n) [
      | inl s ↦ is_false (f k) (λ t. let l = h k t in omega arith) ∙ (sym e ∙ sym (cond-true _ _ _ (eq-eqb k n s)))
      | inr d ↦ sym (cond-false _ _ _ (ne_eqb k n d))
    ]

-- No bit stands above the eight of a byte.
byte_bit : (w r : ℕ) → w < 256 → (ltb r 8 && bit w r) ≡ bit w r
byte_bit w r h = elim (cases_lt r 8) [ inl l ↦ ap (λ t. t && bit w r) (lt-ltb r 8 l) | inr l ↦ law (ltb r 8) (bit w r) (bit_past 8 w r h l) ]
  where
    law : (a b : Bool) → b ≡ false → (a && b) ≡ b
    law true b e = refl
    law false b e = sym e

-- A vertex more, and its creator's rights to it, is a creation, where nothing was held by or to the new vertex before.
module _ (p rights : ℕ) (acting : Bool) (s : State) (fits : rights < 256) (there : (x k y : ℕ) → T (s.has x k y) → (x < s.size) × (y < s.size)) where
  held : (x k y : ℕ) → ((eqb x p && (eqb y s.size && (ltb k 8 && bit rights k))) || s.has x k y) ≡ cond (eqb y s.size) (eqb x p && bit rights k) (cond (eqb x s.size) false (s.has x k y))
  held x k y = elim (cases_eq y s.size) [ inl e ↦ to_new e | inr d ↦ to_old d ]
    where
      to_new : y ≡ s.size → ((eqb x p && (eqb y s.size && (ltb k 8 && bit rights k))) || s.has x k y) ≡ cond (eqb y s.size) (eqb x p && bit rights k) (cond (eqb x s.size) false (s.has x k y))
      to_new e =
          let e1 = eq-eqb y s.size e in
          let e2 = byte_bit rights k fits in
          let e3 : s.has x k y ≡ false = is_false (s.has x k y) (λ t. let l = (there x k y t).1 in omega arith) in
          simp (e1, e2, e3) (law (eqb x p && bit rights k))
        where
          law : (a : Bool) → (a || false) ≡ a
          law true = refl
          law false = refl

      to_old : (y ≡ s.size → ⊥) → ((eqb x p && (eqb y s.size && (ltb k 8 && bit rights k))) || s.has x k y) ≡ cond (eqb y s.size) (eqb x p && bit rights k) (cond (eqb x s.size) false (s.has x k y))
      to_old d =
          let e1 = ne_eqb y s.size d in
          simp e1 (law (eqb x p) (eqb x s.size) (s.has x k y) (λ e. is_false (s.has x k y) (λ t. let l = (there x k y t).0 in let m = eqb-true x s.size e in omega arith)))
        where
          law : (a b t : Bool) → (b ≡ true → t ≡ false) → ((a && false) || t) ≡ cond b false t
          law true true t h = h refl
          law true false t h = refl
          law false true t h = h refl
          law false false t h = refl

  pub created_is : gifted p rights s.size 8 (grown acting s) ≡ created p acting rights s
  created_is = same_state (suc s.size) (λ m. cond (eqb m s.size) acting (s.subject m)) _ _ held
