-- What cannot be shared never comes about, and no rule makes anything newly shareable or gettable among vertices that were there.
use Rattle.std.proofs.Common.{◌≡◌, ℕ, ◌<◌, Bool, false, T, List, [], ◌∷◌, sym, refl, subst, inl, inr}
use Rattle.model.specs.State.{State, WellFormed}
use Rattle.model.specs.Sharing.{can_get, CanGet, can_share, CanShare}
use Rattle.model.specs.Rules.{step, after}
use Rattle.model.specs.Restricted.{restricted, adds}
use Rattle.model.specs.declared.Rule.{Rule}
use Rattle.model.specs.declared.Rule.TheVariants.{Remove}
use Rattle.model.specs.declared.Remove.{Remove as Removal}
use Rattle.model.proofs.Tests.{decide, same, is_false, from_false}
use Rattle.model.proofs.Readings.{can_get-to, can_get-from, can_share-to, can_share-from}
use Rattle.model.proofs.Barrier.{Barred, Lacking, NoneGet, none_barred, barred_none}
use Rattle.model.proofs.Grown.{grown_gets, grown_shares, step_grown, removal_grown, restricted_grown}
use Rattle.model.proofs.Fenced.{Fenced, after_fenced, after_safe}

-- Of sets of holders and targets.
module _ (s : State) (well : WellFormed s) (X : ℕ → Type 0) (r : ℕ) (Y : ℕ → Type 0)
    (below-x : (x : ℕ) → X x → x < s.size) (below-y : (y : ℕ) → Y y → y < s.size) where
  barred_fenced : Barred s X r Y → Fenced X r Y s
  barred_fenced b = record { well = well; holders = below-x; targets = below-y; barred = b }

  pub barred_never : Barred s X r Y → Lacking s X r Y → (rules : List Rule) → Lacking (after s rules) X r Y
  barred_never b l rules = (after_safe X r Y rules s (record { fenced = barred_fenced b; lacking = l })).lacking

  pub none_get_after : NoneGet s X r Y → (rules : List Rule) → NoneGet (after s rules) X r Y
  none_get_after g rules = barred_none (after s rules) X r Y (after_fenced X r Y rules s (barred_fenced (none_barred s X r Y g))).barred

  pub none_have_after : NoneGet s X r Y → Lacking s X r Y → (rules : List Rule) → Lacking (after s rules) X r Y
  none_have_after g l rules = barred_never (none_barred s X r Y g) l rules

-- Of one holder and one target.
module _ (s : State) (well : WellFormed s) (x r y : ℕ) (hx : x < s.size) (hy : y < s.size) where
  one_get : (t : State) → (CanGet t x r y → ⊥) → NoneGet t (λ z. z ≡ x) r (λ z. z ≡ y)
  one_get t f a b d e g = f (subst (λ z. CanGet t z r y) d (subst (λ z. CanGet t a r z) e g))

  one_lacking : (t : State) → (T (t.has x r y) → ⊥) → Lacking t (λ z. z ≡ x) r (λ z. z ≡ y)
  one_lacking t f a b d e h = f (subst (λ z. T (t.has z r y)) d (subst (λ z. T (t.has a r z)) e h))

  below_holder : (z : ℕ) → z ≡ x → z < s.size
  below_holder z e = subst (λ k. k < s.size) (sym e) hx

  below_target : (z : ℕ) → z ≡ y → z < s.size
  below_target z e = subst (λ k. k < s.size) (sym e) hy

  one_get_after : (CanGet s x r y → ⊥) → (rules : List Rule) → CanGet (after s rules) x r y → ⊥
  one_get_after f rules = none_get_after s well (λ z. z ≡ x) r (λ z. z ≡ y) below_holder below_target (one_get s f) rules x y refl refl

  pub nothing_got : (rules : List Rule) → T (can_get (after s rules) x r y) → T (can_get s x r y)
  nothing_got rules t =
      elim (decide (can_get s x r y)) [
        | inl h ↦ h
        | inr f ↦ absurd (one_get_after (λ g. f (can_get-from s well x r y g)) rules (can_get-to (after s rules) x r y t))
      ]

  no_share : (T (can_share s x r y) → ⊥) → (rules : List Rule) → T ((after s rules).has x r y) → ⊥
  no_share f rules =
      none_have_after s well (λ z. z ≡ x) r (λ z. z ≡ y) below_holder below_target
      (one_get s (λ g. f (can_share-from s well x r y (inr g)))) (one_lacking s (λ h. f (can_share-from s well x r y (inl h)))) rules x y refl refl

  -- By no row of rules, of any length, by any subjects, created ones included.
  pub never_has : can_share s x r y ≡ false → (rules : List Rule) → (after s rules).has x r y ≡ false
  never_has e rules = is_false _ (no_share (from_false _ e) rules)

  pub has_shared : (rules : List Rule) → T ((after s rules).has x r y) → T (can_share s x r y)
  has_shared rules t = elim (decide (can_share s x r y)) [ inl h ↦ h | inr f ↦ absurd (no_share f rules t) ]

  pub nothing_shared : (rules : List Rule) → T (can_share (after s rules) x r y) → T (can_share s x r y)
  nothing_shared rules t =
      elim (decide (can_share s x r y)) [
        | inl h ↦ h
        | inr f ↦ absurd (none (can_share-to (after s rules) x r y t) f)
      ]
    where
      none : CanShare (after s rules) x r y → (T (can_share s x r y) → ⊥) → ⊥
      none (inl h) f = no_share f rules h
      none (inr g) f = one_get_after (λ k. f (can_share-from s well x r y (inr k))) rules g

  -- One rule.
  pub step_shared : (a : Rule) → T (can_share (step s a) x r y) → T (can_share s x r y)
  unfolding after
  step_shared a t = nothing_shared (a ∷ []) t

  pub step_got : (a : Rule) → T (can_get (step s a) x r y) → T (can_get s x r y)
  unfolding after
  step_got a t = nothing_got (a ∷ []) t

  -- A take, a grant and a creation leave exactly what could be shared and got.
  pub adding_shared : (a : Rule) → T (adds a) → can_share (step s a) x r y ≡ can_share s x r y
  adding_shared a h = same _ _ (step_shared a) (grown_shares s (step s a) (step_grown s well a h) x r y)

  pub adding_got : (a : Rule) → T (adds a) → can_get (step s a) x r y ≡ can_get s x r y
  adding_got a h = same _ _ (step_got a) (grown_gets s (step s a) (step_grown s well a h) x r y)

-- A removal, and subjects' becoming objects, only take away.
pub removal_shared : (s : State) → WellFormed s → (x r y : ℕ) (d : Removal) → T (can_share (step s (Remove d)) x r y) → T (can_share s x r y)
removal_shared s well x r y d = grown_shares (step s (Remove d)) s (removal_grown s well d) x r y

pub removal_got : (s : State) → WellFormed s → (x r y : ℕ) (d : Removal) → T (can_get (step s (Remove d)) x r y) → T (can_get s x r y)
removal_got s well x r y d = grown_gets (step s (Remove d)) s (removal_grown s well d) x r y

pub restricted_shared : (S : ℕ → Bool) (s : State) → WellFormed s → (x r y : ℕ) → T (can_share (restricted S s) x r y) → T (can_share s x r y)
restricted_shared S s well x r y = grown_shares (restricted S s) s (restricted_grown s well S) x r y

pub restricted_got : (S : ℕ → Bool) (s : State) → WellFormed s → (x r y : ℕ) → T (can_get (restricted S s) x r y) → T (can_get s x r y)
restricted_got S s well x r y = grown_gets (restricted S s) s (restricted_grown s well S) x r y
