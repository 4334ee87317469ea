-- What belongs to one of a set, gathered member by member.
use Rattle.std.proofs.Common.{◌≡◌, ℕ, zero, suc, ◌<◌, ◌≤◌, Bool, false, not, ◌&&◌, ◌||◌, T, eqb, sym, refl, subst, inl, inr, arith, eqb→eq}
use lib.Dec.{not_T}
use Rattle.std.proofs.lemmas.Bool.{cases_eq}
use Rattle.std.proofs.lemmas.Bool.Decides.{nat_tests}
use Rattle.model.specs.Bounded.{all_below, some_below}
use Rattle.model.proofs.Tests.{both, parts, cases, left, right, same, SomeBoth, some_both, both_from, from_false, some_below-law, some_from}
use Rattle.bits.proofs.Walk.{Without}

-- `all` is what belongs to those of the set that are not in `rest`.
pub record Gathered (set : ℕ → Bool) (of : ℕ → ℕ → Bool) (all rest : ℕ → Bool) : Type 0 where
  pub sound : (k : ℕ) → T (all k) → T (some_below 256 (λ u. set u && of u k))
  pub whole : (u k : ℕ) → T (set u) → (T (rest u) → ⊥) → T (of u k) → T (all k)
  pub part : (u : ℕ) → T (rest u) → T (set u)

module _ (set : ℕ → Bool) (of : ℕ → ℕ → Bool) where
  pub gathered_none : (all rest : ℕ → Bool) → ((k : ℕ) → all k ≡ false) → ((u : ℕ) → rest u ≡ set u) → Gathered set of all rest
  gathered_none all rest none same =
      record {
        sound = λ k t. absurd (from_false (all k) (none k) t);
        whole = λ u k o n t. absurd (n (subst T (sym (same u)) o));
        part = λ u t. subst T (same u) t;
      }

  pub gathered_more :
      (all rest all' rest' more : ℕ → Bool) (v : ℕ) → v < 256 → T (rest v) → Without v rest rest' → ((k : ℕ) → more k ≡ of v k) →
      ((k : ℕ) → all' k ≡ (all k || more k)) → Gathered set of all rest → Gathered set of all' rest'
  gathered_more all rest all' rest' more v l h w e f inv =
      record {
        sound = λ k t.
            elim (cases (all k) _ (subst T (f k) t)) [
              | inl u ↦ inv.sound k u
              | inr u ↦ both_from 256 set (λ z. of z k) v l (inv.part v h) (subst T (e k) u)
            ];
        whole = λ u k o n t.
            elim (cases_eq u v) [
              | inl d ↦ subst T (sym (f k)) (right (all k) _ (subst T (sym (e k)) (subst (λ z. T (of z k)) d t)))
              | inr d ↦ subst T (sym (f k)) (left (all k) _ (inv.whole u k o (λ r. n (kept u d r)) t))
            ];
        part = λ u t. inv.part u (parts (not (eqb u v)) _ (subst T (w u) t)).1;
      }
    where
      kept : (u : ℕ) → (u ≡ v → ⊥) → T (rest u) → T (rest' u)
      kept u d t = subst T (sym (w u)) (both (not (eqb u v)) _ (not_T (eqb u v) (λ q. d (eqb→eq u v q))) t)

  pub gathered_all : (all rest : ℕ → Bool) → ((u : ℕ) → rest u ≡ false) → Gathered set of all rest → (k : ℕ) → all k ≡ some_below 256 (λ u. set u && of u k)
  gathered_all all rest none inv k = same _ _ (inv.sound k) (λ t. back (some_both 256 set (λ u. of u k) t))
    where
      back : SomeBoth 256 set (λ u. of u k) → T (all k)
      back j = inv.whole j.at k j.one (λ t. subst T (none j.at) t) j.other

-- Nothing is passed over below a bound that all that pass are below.
pub some_narrow : (m n : ℕ) (f g : ℕ → Bool) → n ≤ m → ((k : ℕ) → f k ≡ g k) → ((k : ℕ) → T (g k) → k < n) → some_below m f ≡ some_below n g
some_narrow m n f g l e bound = same _ _ to from
  where
    to : T (some_below m f) → T (some_below n g)
    to t = let k = some_below-law m f t in let h = subst T (e k.at) k.passes in some_from n g k.at (bound k.at h) h

    from : T (some_below n g) → T (some_below m f)
    from t = let k = some_below-law n g t in let h = k.below in some_from m f k.at (omega arith) (subst T (sym (e k.at)) k.passes)

-- Some number passes, unless all fail.
pub not_all : (n : ℕ) (f g : ℕ → Bool) → ((k : ℕ) → f k ≡ g k) → not (all_below n (λ k. not (f k))) ≡ some_below n g
unfolding some_below all_below
not_all zero f g e = refl
not_all (suc n) f g e = let here = e n in let below = not_all n f g e in grind (arith, nat_tests)
