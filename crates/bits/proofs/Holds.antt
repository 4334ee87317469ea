-- The laws of sets.
use Rattle.std.proofs.Common.{◌≡◌, ℕ, ◌*◌, ◌<◌, ◌≤◌, Bool, true, false, cond, ◌&&◌, eqb, ltb, List, [], length, replicate, get_or, set, sym, refl, subst, ap, ◌∙◌, inl, inr, arith}
use Rattle.std.proofs.lemmas.Bool.{cases_eq, cases_lt, lt-ltb, le-ltb, cond-true, cond-false, eq-eqb, ne_eqb, false≢true}
use Rattle.std.proofs.lemmas.List.{get_or-set_same, get_or-set_other, get_or-replicate, get_or_past, length-replicate}
use Rattle.std.proofs.lemmas.Bool.Decides.{nat_tests}
use Rattle.bits.specs.declared.set.BitSet.{BitSet}
use Rattle.bits.specs.Sets.{VertexSet, among, holds, in_row, member, none}
use Rattle.bits.proofs.Member.{member_past}

pub among_past : (w : ℕ) (s : BitSet w) (k : ℕ) → 64 * w ≤ k → among w s k ≡ false
unfolding among
among_past w s k h = ap (λ b. b && member s.words k) (le-ltb k (64 * w) h)

-- What is told of the numbers that there is room for.
pub among_room : (w : ℕ) (s : BitSet w) (k : ℕ) → (ltb k (64 * w) && among w s k) ≡ among w s k
unfolding among
among_room w s k = law (ltb k (64 * w)) (member s.words k)
  where
    law : (a b : Bool) → (a && (a && b)) ≡ (a && b)
    law true b = refl
    law false b = refl

-- The numbers below n, where there is room for all.
pub below_fits : (w n : ℕ) (s : BitSet w) → n ≤ 64 * w → ((k : ℕ) → among w s k ≡ (ltb k (64 * w) && ltb k n)) → (k : ℕ) → among w s k ≡ ltb k n
below_fits w n s h e k = let both = e k in grind (arith, nat_tests)

pub among_below : (w : ℕ) (s : BitSet w) (k : ℕ) → among w s k ≡ true → k < 64 * w
among_below w s k t = elim (cases_lt k (64 * w)) [ inl l ↦ l | inr l ↦ absurd (false≢true (sym (among_past w s k l) ∙ t)) ]

pub holds_past : (s : VertexSet) (k : ℕ) → 256 ≤ k → holds s k ≡ false
holds_past = among_past 4

pub among_words : (w : ℕ) (s : BitSet w) (k : ℕ) → length s.words ≡ w → among w s k ≡ member s.words k
unfolding among
among_words w s k n =
    elim (cases_lt k (64 * w)) [
      | inl h ↦ ap (λ b. b && member s.words k) (lt-ltb k (64 * w) h)
      | inr h ↦ among_past w s k h ∙ sym (member_past s.words k (omega arith))
    ]

pub holds_none : (k : ℕ) → holds none k ≡ false
unfolding among
holds_none k = ap (λ b. ltb k 256 && b) (member_past [] k (omega arith)) ∙ law (ltb k 256)
  where
    law : (b : Bool) → (b && false) ≡ false
    law true = refl
    law false = refl

-- Sets in a list, after one was written, and where none has a member.
pub row_set : (rows : List VertexSet) (i : ℕ) (v : VertexSet) → i < length rows → (j q : ℕ) → in_row (set rows i v) j q ≡ cond (eqb j i) (holds v q) (in_row rows j q)
unfolding in_row
row_set rows i v h j q =
    elim (cases_eq j i) [
      | inl e ↦ at_i e
      | inr d ↦ ap (λ s. holds s q) (get_or-set_other rows i j v none d) ∙ sym (cond-false (eqb j i) _ _ (ne_eqb j i d))
    ]
  where
    at_i : j ≡ i → holds (get_or (set rows i v) j none) q ≡ cond (eqb j i) (holds v q) (holds (get_or rows j none) q)
    at_i e =
        ap (λ m. holds (get_or (set rows i v) m none) q) e ∙ (ap (λ s. holds s q) (get_or-set_same rows i v none h) ∙ sym (cond-true (eqb j i) _ _ (eq-eqb j i e)))

pub bare_row : (v : VertexSet) → ((k : ℕ) → holds v k ≡ false) → (n i q : ℕ) → in_row (replicate n v) i q ≡ false
unfolding in_row
bare_row v e n i q =
    elim (cases_lt i n) [
      | inl h ↦ ap (λ s. holds s q) (get_or-replicate n i v none h) ∙ e q
      | inr h ↦ ap (λ s. holds s q) (get_or_past (replicate n v) i none (subst (λ m. m ≤ i) (sym (length-replicate n v)) h)) ∙ holds_none q
    ]
