-- The table's rows become what they are to be, step by step.
use Rattle.std.proofs.Common.{◌≡◌, ℕ, ◌+◌, ◌*◌, ◌/◌, ◌<◌, ◌≤◌, Bool, true, false, ◌&&◌, ◌||◌, T, leb, ltb, length, refl, ap, ◌∙◌, inl, inr, arith}
use Rattle.std.proofs.lemmas.Bool.{cases_lt, lt-ltb, le-ltb}
use Rattle.std.proofs.lemmas.Bool.Decides.{nat_tests}
use Rattle.graph.specs.Graphs.{state}
use Rattle.model.specs.State.{State}
use Rattle.sharing.specs.Filling.{about, added, placed, Becomes}
use Rattle.sharing.specs.Table.{has_row}
use Rattle.sharing.specs.declared.table.Table.{Table}
use Rattle.sharing.proofs.Holding.{row_fits}

module _ (w : ℕ) (a : Table w) where
  -- The table is about the same state.
  pub same_state : (b : Table w) → b.graph ≡ a.graph → about w b ≡ about w a
  same_state b e = ap (λ g. state g.now) e

  pub same_size : (b : Table w) → b.graph ≡ a.graph → (about w b).size ≡ (about w a).size
  same_size b e = ap (λ g. (state g.now).size) e

  module _ (b : Table w) (f : ℕ → ℕ → Bool) (t : Becomes w a b f) where
    pub becomes_same : (h : ℕ → ℕ → Bool) → ((i x : ℕ) → f i x ≡ h i x) → Becomes w a b h
    becomes_same h e = record { graph = t.graph; cells = λ i x. t.cells i x ∙ e i x }

    pub becomes_then : (c : Table w) (g h : ℕ → ℕ → Bool) → Becomes w b c g → ((i x : ℕ) → g i x ≡ h i x) → Becomes w a c h
    becomes_then c g h u e = record { graph = u.graph ∙ t.graph; cells = λ i x. u.cells i x ∙ e i x }

-- Row 8 y + r of a right r to a vertex y that is there.
pub row_there : (w : ℕ) (a b : Table w) (f : ℕ → ℕ → Bool) → Becomes w a b f → (y r : ℕ) → y < (about w a).size → r < 8 → (8 * y + r) * w + w ≤ length b.rows.now
row_there w a b f t y r h l = row_fits (about w b).size w (length b.rows.now) y r b.fits (omega (arith, same_size w a b t.graph)) l

-- The same cells by another name, where they count.
pub placed_by : (s : State) (p h k was : ℕ → ℕ → Bool) (i x : ℕ) → (p i x ≡ true → i / 8 < s.size → h i x ≡ k i x) → placed s p h was i x ≡ placed s p k was i x
placed_by s p h k was i x e =
    elim (cases_lt (i / 8) s.size) [
      | inl l ↦ by_test (p i x) (λ t. e t l)
      | inr l ↦ let n = le-ltb (i / 8) s.size l in nothing (was i x) (p i x) (ltb (i / 8) s.size) (h i x) (k i x) n
    ]
  where
    by_test : (b : Bool) → (b ≡ true → h i x ≡ k i x) → (was i x || ((b && ltb (i / 8) s.size) && h i x)) ≡ (was i x || ((b && ltb (i / 8) s.size) && k i x))
    by_test true f = ap (λ v. was i x || (ltb (i / 8) s.size && v)) (f refl)
    by_test false f = refl

    nothing : (w b n h k : Bool) → n ≡ false → (w || ((b && n) && h)) ≡ (w || ((b && n) && k))
    nothing w b n h k e = grind (arith, nat_tests)

module _ (s : State) (p q h was : ℕ → ℕ → Bool) (i x : ℕ) where
  pub placed_same : p i x ≡ q i x → placed s p h was i x ≡ placed s q h was i x
  placed_same e = ap (λ b. was i x || ((b && ltb (i / 8) s.size) && h i x)) e

-- Where there is something only in rows to vertices that are there, it needs no test.
pub placed_added : (s : State) (p q was : ℕ → ℕ → Bool) (i x : ℕ) → (T (has_row s i x) → (i / 8 < s.size) × (p i x ≡ q i x)) → placed s p (has_row s) was i x ≡ added s q was i x
placed_added s p q was i x f = law (has_row s i x) (p i x) (q i x) (was i x) f
  where
    law : (h a b w : Bool) → (T h → (i / 8 < s.size) × (a ≡ b)) → (w || ((a && ltb (i / 8) s.size) && h)) ≡ (w || (b && h))
    law true a b w f = let n = lt-ltb (i / 8) s.size (f tt).0 in let e = (f tt).1 in grind (arith, nat_tests)
    law false a b w f = grind (arith, nat_tests)

-- Of no rights, nothing is added.
pub none_yet : (k f : ℕ) (w b p h : Bool) → w ≡ (w || ((((leb f k && ltb k f) && b) && p) && h))
none_yet k f w b p h = grind (arith, nat_tests)
