-- Sets that are as wide as rows need, and tables of them.
use Rattle.std.proofs.Common.{◌≡◌, ℕ, ◌*◌, ◌<◌, ◌≤◌, Bool, true, false, cond, ◌&&◌, T, eqb, ltb, List, [], length, get_or, set, replicate, sym, refl, ap, ◌∙◌, subst, inl, inr, arith}
use Rattle.std.proofs.lemmas.List.{get_or_default, get_or-set_same, get_or-set_other, get_or-replicate, get_or_past, length-replicate}
use Rattle.std.proofs.lemmas.Bool.{cases_eq, cases_lt, cond-true, cond-false, eq-eqb, ne_eqb}
use Rattle.std.proofs.lemmas.Bool.Decides.{nat_tests}
use Rattle.bits.specs.Sets.{among, in_row}
use Rattle.bits.specs.declared.set.BitSet.{BitSet}
use Rattle.bits.proofs.Member.{member_past}
use Rattle.graph.specs.Graphs.{state}
use Rattle.graph.specs.declared.graph.Graph.{Graph}
use Rattle.graph.proofs.Sound.{target_below, only_subjects, well_formed-law}
use Rattle.model.specs.State.{is_subject}
use Rattle.model.proofs.Readings.{subject_vertex}
use Rattle.spans.specs.Sets.{in_sets}

pub within : (k m : ℕ) (b : Bool) → (T b → k < m) → (ltb k m && b) ≡ b
within k m true f = let l = f tt in grind (arith, nat_tests)
within k m false f = grind (arith, nat_tests)

module _ (g : Graph) (w : ℕ) (h : (state g).size ≤ 64 * w) where
  pub resized_targets : (p r q : ℕ) → (ltb q (64 * w) && (state g).has p r q) ≡ (state g).has p r q
  resized_targets p r q = within q (64 * w) _ (λ t. let l = target_below g p r q t in omega arith)

  pub resized_holders : (p r q : ℕ) → (ltb q (64 * w) && (state g).has q r p) ≡ (state g).has q r p
  resized_holders p r q = within q (64 * w) _ (λ t. let l = well_formed-law g in let m = l.holder q r p t in omega arith)

  pub resized_subjects : (q : ℕ) → (ltb q (64 * w) && (state g).subject q) ≡ is_subject (state g) q
  resized_subjects q =
      ap (λ b. ltb q (64 * w) && b) (only_subjects g q) ∙ within q (64 * w) _ (λ t. let l = subject_vertex (state g) q t in omega arith)

pub at_index : {w : ℕ} (sets : List (BitSet w)) (i : ℕ) (d : BitSet w) → i < length sets → (q : ℕ) → among w (get_or sets i d) q ≡ in_sets sets i q
unfolding in_sets
at_index {w} sets i d h q = ap (λ s. among w s q) (get_or_default sets i d _ h)

pub rows_are : (sets : List (BitSet 4)) (i q : ℕ) → in_row sets i q ≡ in_sets sets i q
unfolding in_row in_sets
rows_are sets i q = refl

-- Sets after one was written, and sets of nobody.
abbrev bare : {w : ℕ} → BitSet w
bare = record { words = [] }

none_bare : (w k : ℕ) → among w bare k ≡ false
unfolding among
none_bare w k = let none = member_past [] k (omega arith) in grind (arith, nat_tests)

module _ {w : ℕ} where
  pub sets_none : (s : BitSet w) → ((k : ℕ) → among w s k ≡ false) → (n y k : ℕ) → in_sets (replicate n s) y k ≡ false
  unfolding in_sets
  sets_none s e n y k =
      elim (cases_lt y n) [
        | inl h ↦ ap (λ v. among w v k) (get_or-replicate n y s bare h) ∙ e k
        | inr h ↦ ap (λ v. among w v k) (get_or_past (replicate n s) y bare (subst (λ m. m ≤ y) (sym (length-replicate n s)) h)) ∙ none_bare w k
      ]

  pub sets_set : (sets : List (BitSet w)) (i : ℕ) (v : BitSet w) → i < length sets → (y k : ℕ) → in_sets (set sets i v) y k ≡ cond (eqb y i) (among w v k) (in_sets sets y k)
  unfolding in_sets
  sets_set sets i v h y k =
      elim (cases_eq y i) [
        | inl e ↦ ap (λ m. among w (get_or (set sets i v) m bare) k) e ∙ ap (λ s. among w s k) (get_or-set_same sets i v bare h) ∙ sym (cond-true (eqb y i) _ _ (eq-eqb y i e))
        | inr d ↦ ap (λ s. among w s k) (get_or-set_other sets i y v bare d) ∙ sym (cond-false (eqb y i) _ _ (ne_eqb y i d))
      ]
