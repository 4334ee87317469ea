-- What was looked at of a front: what was found and is not left.
use Rattle.std.proofs.Common.{◌≡◌, ℕ, ◌<◌, Bool, true, false, not, ◌&&◌, ◌||◌, T, eqb, sym, refl, ap, ◌∙◌, ap₂, inl, inr, arith}
use Rattle.std.proofs.lemmas.Bool.{cases_eq}
use Rattle.std.proofs.lemmas.Bool.Decides.{nat_tests}
use Rattle.bits.specs.Sets.{among}
use Rattle.bits.proofs.Below.{count_same}
use Rattle.bits.proofs.Walk.{fewer}
use Rattle.model.proofs.Tests.{both, from_true, is_true}
use Rattle.spans.specs.Fronts.{Grown, Taken, looked_at, unseen}
use Rattle.spans.specs.declared.front.Front.{Front}

module _ (w : ℕ) (a b : Front w) where
  -- What is found was not looked at.
  pub grown_seen : (f : ℕ → Bool) → Grown a b f → (k : ℕ) → looked_at b k ≡ looked_at a k
  grown_seen f g k = ap₂ (λ m n. m && not n) (g.found k) (g.left k) ∙ law (among w a.found k) (among w a.left k) (f k)
    where
      law : (n l f : Bool) → ((n || f) && not (l || (f && not n))) ≡ (n && not l)
      law true true f = refl
      law true false true = refl
      law true false false = refl
      law false true true = refl
      law false true false = refl
      law false false true = refl
      law false false false = refl

  -- Where nothing was left to take, nothing changes.
  pub idle_seen : ((k : ℕ) → among w a.left k ≡ false) → ((k : ℕ) → among w b.left k ≡ false) → b.found ≡ a.found → (k : ℕ) → looked_at b k ≡ looked_at a k
  idle_seen m n e k = ap₂ (λ z l. among w z k && not l) e (n k) ∙ ap (λ l. among w a.found k && not l) (sym (m k))

  module _ (v : ℕ) (t : Taken a b v) where
    -- What is taken was found, and not looked at before; now it is looked at.
    pub taken_there : (T (among w a.found v)) × (not (looked_at a v) ≡ true)
    taken_there = let l = t.there in let q = a.part v in law (among w a.left v) (among w a.found v) l q
      where
        law : (l n : Bool) → l ≡ true → (l && n) ≡ l → T n × (not (n && not l) ≡ true)
        law true true e f = (tt, refl)
        law true false e f = absurd (grind (arith, nat_tests))
        law false n e f = absurd (grind (arith, nat_tests))

    pub taken_seen : (k : ℕ) → looked_at b k ≡ (eqb k v || looked_at a k)
    taken_seen k =
        ap (λ z. among w z k && not (among w b.left k)) t.found
        ∙ law (among w a.found k) (among w a.left k) _ (t.left k) (λ e. ap (among w a.found) e ∙ is_true _ taken_there.0)
      where
        law : (n l l' : Bool) → l' ≡ (not (eqb k v) && l) → (k ≡ v → n ≡ true) → (n && not l') ≡ (eqb k v || (n && not l))
        law n l l' e f = elim (cases_eq k v) [ inl d ↦ let m = f d in grind (arith, nat_tests) | inr d ↦ grind (arith, nat_tests) ]

pub unseen_same : (w : ℕ) (a b : Front w) → ((k : ℕ) → looked_at b k ≡ looked_at a k) → unseen b ≡ unseen a
unseen_same w a b e = count_same 256 _ _ (λ k _. ap not (e k))

-- One more looked at leaves fewer to look at.
pub fewer_unseen : (w : ℕ) (a b c : Front w) (v : ℕ) (f : ℕ → Bool) → v < 256 → Taken a b v → Grown b c f → unseen c < unseen a
fewer_unseen w a b c v f l t g =
    fewer (λ k. not (looked_at a k)) (λ k. not (looked_at c k)) v
    (λ k. ap not (grown_seen w b c f g k ∙ taken_seen w a b v t k) ∙ law (eqb k v) (looked_at a k)) 256 l (taken_there w a b v t).1
  where
    law : (a b : Bool) → not (a || b) ≡ (not a && not b)
    law true b = refl
    law false b = refl

-- Nothing is left: all that was found was looked at.
pub all_seen : (w : ℕ) (a : Front w) → ((k : ℕ) → among w a.left k ≡ false) → (k : ℕ) → T (among w a.found k) → T (looked_at a k)
all_seen w a n k t = both (among w a.found k) _ t (from_true _ (ap not (n k)))
