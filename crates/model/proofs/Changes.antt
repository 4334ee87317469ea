-- States that differ in the rights of one vertex alone: take paths from whatever had no take path to it are as they were.
use Rattle.std.proofs.Common.{◌≡◌, ℕ, false, T, sym, refl, subst, inl, inr}
use Rattle.model.specs.State.{State, WellFormed, take_right}
use Rattle.model.specs.Closure.{here, next}
use Rattle.model.specs.Spans.{take_path, TakePath, can_take}
use Rattle.model.specs.Rules.{given, applied, step}
use Rattle.model.specs.Changes.{changed}
use Rattle.model.specs.declared.Rule.{Rule}
use Rattle.model.specs.declared.Rule.TheVariants.{Take, Grant, Create, Remove}
use Rattle.model.proofs.Tests.{same, from_false}
use Rattle.model.proofs.Readings.{take_path-to, take_path-from}
use Rattle.model.proofs.Steps.{given_has, given_had, removed_has, removed_had, created_has, created_had, step_keeps, step_well}

-- Only c's take rights differ.
abbrev pub SameBut : ℕ → State → State → Type 0
SameBut c s t = (p q : ℕ) → (p ≡ c → ⊥) → can_take s p q ≡ can_take t p q

module _ (c : ℕ) (s t : State) (e : SameBut c s t) where
  path_there : {x y : ℕ} → (TakePath s x c → ⊥) → TakePath s x y → TakePath t x y
  path_there none here = here
  path_there {x} none (next {z = z} h v) =
      next (subst T (e x z (λ d. none (subst (λ k. TakePath s x k) d here))) h) (path_there (λ w. none (next h w)) v)

  path_back : {x y : ℕ} → (TakePath s x c → ⊥) → TakePath t x y → TakePath s x y
  path_back none here = here
  path_back {x} none (next {z = z} h v) = let k = old in next k (path_back (λ w. none (next k w)) v)
    where
      old : T (can_take s x z)
      old = subst T (sym (e x z (λ d. none (subst (λ k. TakePath s x k) d here)))) h

  pub path_unchanged : WellFormed s → WellFormed t → (x y : ℕ) → take_path s x c ≡ false → take_path t x y ≡ take_path s x y
  path_unchanged ws wt x y f =
      same _ _ (λ h. take_path-from s ws x y (path_back none (take_path-to t x y h)))
      (λ h. take_path-from t wt x y (path_there none (take_path-to s x y h)))
    where
      none : TakePath s x c → ⊥
      none v = from_false _ f (take_path-from s ws x c v)

given_changes : (x r y : ℕ) (s : State) (p k q : ℕ) → (p ≡ x → ⊥) → s.has p k q ≡ (given x r y s).has p k q
given_changes x r y s p k q d =
    same _ _ (given_had x r y s p k q) (λ h. elim (given_has x r y s p k q h) [ inl e ↦ absurd (d (sym e.holder)) | inr u ↦ u ])

-- A rule changes the rights of one vertex alone.
pub applied_changes : (s : State) → WellFormed s → (a : Rule) (p k q : ℕ) → (p ≡ changed a → ⊥) → s.has p k q ≡ (applied s a).has p k q
applied_changes s wf (Take t) p k q d =
    given_changes t.who t.right t.to s p k q d
applied_changes s wf (Grant g) p k q d =
    given_changes g.into g.right g.to s p k q d
applied_changes s wf (Create c) p k q d =
    same _ _ (created_had c.who c.subject c.rights s wf p k q)
    (λ h. elim (created_has c.who c.subject c.rights s p k q h) [ inl e ↦ absurd (d e.0) | inr u ↦ u ])
applied_changes s wf (Remove r) p k q d =
    same _ _ (removed_had r.who r.right r.to s p k q d) (removed_has r.who r.right r.to s p k q)

pub step_changes : (s : State) → WellFormed s → (a : Rule) (p k q : ℕ) → (p ≡ changed a → ⊥) → s.has p k q ≡ (step s a).has p k q
step_changes s wf a p k q d = step_keeps (λ t. s.has p k q ≡ t.has p k q) s a (λ _. applied_changes s wf a p k q d) refl

pub step_path : (s : State) → WellFormed s → (a : Rule) (x y : ℕ) → take_path s x (changed a) ≡ false → take_path (step s a) x y ≡ take_path s x y
step_path s wf a x y f = path_unchanged (changed a) s (step s a) (λ p q d. step_changes s wf a p take_right q d) wf (step_well s a wf) x y f
