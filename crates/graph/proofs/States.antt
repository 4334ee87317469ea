-- What a graph stands for after a row of its table was written, and that its invariant stays.
use Rattle.std.proofs.Common.{◌≡◌, ℕ, ◌+◌, ◌*◌, ◌/◌, ◌%◌, ◌<◌, Bool, true, false, not, ◌&&◌, ◌||◌, T, eqb, List, sym, refl, ap, ◌∙◌, subst, inl, inr, eqb→eq}
use mathlib.Core.Path.{fun_ext}
use Rattle.bits.specs.Rows.{cell}
use Rattle.model.specs.State.{State}
use Rattle.model.specs.Rules.{this_right, given, removed}
use Rattle.model.proofs.Tests.{cases, parts}
use Rattle.graph.specs.Table.{in_table, RowsFit}
use Rattle.graph.proofs.Rows.{row_with, row_without}

-- Two states are the same if they have the same size, subjects and rights.
pub same_state : (n : ℕ) (f : ℕ → Bool) (h h' : ℕ → ℕ → ℕ → Bool) → ((x k y : ℕ) → h x k y ≡ h' x k y) → ◌≡◌ {A = State} (record { size = n; subject = f; has = h }) (record { size = n; subject = f; has = h' })
same_state n f h h' e = ap (λ g. record { size = n; subject = f; has = g }) (fun_ext λ x. fun_ext λ k. fun_ext λ y. e x k y)

-- What this right is.
is_this : (p r q x k y : ℕ) → T (this_right p r q x k y) → (x ≡ p) × ((k ≡ r) × (y ≡ q))
is_this p r q x k y t = let a = parts (eqb x p) _ t in let b = parts (eqb k r) (eqb y q) a.1 in (eqb→eq x p a.0, (eqb→eq k r b.0, eqb→eq y q b.1))

-- To remove what isn't there changes nothing.
pub nothing_there : (n : ℕ) (f : ℕ → Bool) (h : ℕ → ℕ → ℕ → Bool) (p r q : ℕ) → h p r q ≡ false → ◌≡◌ {A = State} (record { size = n; subject = f; has = h }) (removed p r q (record { size = n; subject = f; has = h }))
nothing_there n f h p r q e = same_state n f _ _ λ x k y. law (this_right p r q x k y) (h x k y) (λ t. let i = is_this p r q x k y t in ap (λ z. h z k y) i.0 ∙ ap (λ z. h p z y) i.1.0 ∙ ap (h p r) i.1.1 ∙ e)
  where
    law : (b v : Bool) → (T b → v ≡ false) → v ≡ (not b && v)
    law true v g = g tt
    law false v g = refl

module _ (n : ℕ) (was rows : List ℕ) (p r q : ℕ) (a : p < 256) (b : r < 8) (c : q < 256) where
  module _ (e : (y j : ℕ) → cell rows 2 y j ≡ ((eqb y (2048 * (q / 128) + (8 * p + r)) && eqb j (q % 128)) || cell was 2 y j)) where
    pub state_with : (f : ℕ → Bool) → ◌≡◌ {A = State} (record { size = n; subject = f; has = in_table rows }) (given p r q (record { size = n; subject = f; has = in_table was }))
    state_with f = same_state n f _ _ (row_with was rows p r q a b c e)

    pub fit_with : RowsFit n was → p < n → q < n → RowsFit n rows
    fit_with fit hp hq x k y t =
        elim (cases (this_right p r q x k y) _ (subst T (row_with was rows p r q a b c e x k y) t)) [
          | inl u ↦ let i = is_this p r q x k y u in (subst (λ z. z < n) (sym i.0) hp, subst (λ z. z < n) (sym i.1.1) hq)
          | inr u ↦ fit x k y u
        ]

  module _ (e : (y j : ℕ) → cell rows 2 y j ≡ (not (eqb y (2048 * (q / 128) + (8 * p + r)) && eqb j (q % 128)) && cell was 2 y j)) where
    pub state_without : (f : ℕ → Bool) → ◌≡◌ {A = State} (record { size = n; subject = f; has = in_table rows }) (removed p r q (record { size = n; subject = f; has = in_table was }))
    state_without f = same_state n f _ _ (row_without was rows p r q a b c e)

    pub fit_without : RowsFit n was → RowsFit n rows
    fit_without fit x k y t = fit x k y (parts (not (this_right p r q x k y)) _ (subst T (row_without was rows p r q a b c e x k y) t)).1
