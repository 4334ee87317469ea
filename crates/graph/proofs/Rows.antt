-- How wide rows for the vertices of a graph are, where a graph has its own, and what its table says after one was written.
use Rattle.std.proofs.Common.{◌≡◌, ℕ, ◌+◌, ◌-◌, ◌*◌, ◌/◌, ◌%◌, ◌<◌, ◌≤◌, Bool, true, false, cond, not, ◌&&◌, ◌||◌, eqb, ltb, List, replicate, sym, refl, ap, ap₂, ◌∙◌, inl, inr, arith}
use Rattle.std.proofs.lemmas.Bool.{cases_lt, le-leb, lt-leb, lt-ltb, le-ltb, cond-true, cond-false}
use Rattle.std.proofs.lemmas.Bool.Decides.{nat_tests}
use Rattle.bits.specs.Rows.{cell}
use Rattle.bits.proofs.Cell.{cell_past, cell_zeros}
use Rattle.model.specs.Rules.{this_right}
use Rattle.graph.specs.Table.{in_table, row_width}

pub width_few : (n : ℕ) → n ≤ 128 → row_width n ≡ 2
unfolding row_width
width_few n h = ap (λ b. cond b 2 4) (le-leb n 128 h)

pub width_many : (n : ℕ) → 128 < n → row_width n ≡ 4
unfolding row_width
width_many n h = ap (λ b. cond b 2 4) (lt-leb n 128 h)

pub width_most : (n : ℕ) → row_width n ≤ 4
width_most n = elim (cases_lt 128 n) [ inl h ↦ omega (arith, width_many n h) | inr h ↦ omega (arith, width_few n h) ]

-- A row has a bit for each vertex.
pub width_covers : (n : ℕ) → n < 256 → n ≤ 64 * row_width n
width_covers n h = elim (cases_lt 128 n) [ inl l ↦ omega (arith, width_many n l) | inr l ↦ omega (arith, width_few n l) ]

-- Are the numbers of two vertices and of a right in their range?
abbrev inside : ℕ → ℕ → ℕ → Bool
inside p r q = ltb p 256 && (ltb r 8 && ltb q 256)

in_range : (p r q : ℕ) → p < 256 → r < 8 → q < 256 → inside p r q ≡ true
in_range p r q a b c = grind (arith, nat_tests)

-- The row that has a bit for q, read in the table.
pub the_row : (rows : List ℕ) (p r q : ℕ) → p < 256 → r < 8 → q < 256 → cell rows 2 (2048 * (q / 128) + (8 * p + r)) (q % 128) ≡ in_table rows p r q
unfolding in_table
the_row rows p r q a b c = sym (ap (λ t. t && cell rows 2 (2048 * (q / 128) + (8 * p + r)) (q % 128)) (in_range p r q a b c))

pub no_row : (rows : List ℕ) (p r q : ℕ) → 8 ≤ r → in_table rows p r q ≡ false
unfolding in_table
no_row rows p r q h = let t = le-ltb r 8 h in grind (arith, nat_tests)

no_target : (rows : List ℕ) (p r q : ℕ) → 256 ≤ q → in_table rows p r q ≡ false
unfolding in_table
no_target rows p r q h = let t = le-ltb q 256 h in grind (arith, nat_tests)

-- Both rows of a vertex and a right.
pub both_rows :
    (rows : List ℕ) (p r k : ℕ) → p < 256 → r < 8 →
    cond (ltb k 128) (cell rows 2 (8 * p + r) k) (cell rows 2 (2048 + (8 * p + r)) (k - 128)) ≡ in_table rows p r k
both_rows rows p r k a b =
    elim (cases_lt k 128) [
      | inl h ↦ cond-true (ltb k 128) _ _ (lt-ltb k 128 h) ∙ ap₂ (cell rows 2) (omega arith) (omega arith) ∙ the_row rows p r k a b (omega arith)
      | inr h ↦
          cond-false (ltb k 128) _ _ (le-ltb k 128 h) ∙ elim (cases_lt k 256) [
            | inl l ↦ ap₂ (cell rows 2) (omega arith) (omega arith) ∙ the_row rows p r k a b l
            | inr l ↦ cell_past rows 2 (2048 + (8 * p + r)) (k - 128) (omega arith) ∙ sym (no_target rows p r k l)
          ]
    ]

-- Two rights are written at one place only if they are one.
module _ (p r q x k y : ℕ) (a : p < 256) (b : r < 8) (c : q < 256) where
  same_place : inside x k y ≡ true → (eqb (2048 * (y / 128) + (8 * x + k)) (2048 * (q / 128) + (8 * p + r)) && eqb (y % 128) (q % 128)) ≡ this_right p r q x k y
  same_place t = grind (arith, nat_tests)

  not_inside : inside x k y ≡ false → this_right p r q x k y ≡ false
  not_inside t = grind (arith, nat_tests)

module _ (was rows : List ℕ) (p r q : ℕ) (a : p < 256) (b : r < 8) (c : q < 256) where
  -- A target more in one row.
  pub row_with :
      ((y j : ℕ) → cell rows 2 y j ≡ ((eqb y (2048 * (q / 128) + (8 * p + r)) && eqb j (q % 128)) || cell was 2 y j)) →
      (x k y : ℕ) → in_table rows x k y ≡ (this_right p r q x k y || in_table was x k y)
  unfolding in_table
  row_with e x k y =
      more (inside x k y) _ _ _ _ (same_place p r q x k y a b c) (not_inside p r q x k y a b c) (e (2048 * (y / 128) + (8 * x + k)) (y % 128))
    where
      more : (t n s o d : Bool) → (t ≡ true → s ≡ d) → (t ≡ false → d ≡ false) → n ≡ (s || o) → (t && n) ≡ (d || (t && o))
      more true n s o d f g h = h ∙ ap (λ z. z || o) (f refl)
      more false n s o d f g h = sym (ap (λ z. z || false) (g refl))

  -- A target less.
  pub row_without :
      ((y j : ℕ) → cell rows 2 y j ≡ (not (eqb y (2048 * (q / 128) + (8 * p + r)) && eqb j (q % 128)) && cell was 2 y j)) →
      (x k y : ℕ) → in_table rows x k y ≡ (not (this_right p r q x k y) && in_table was x k y)
  unfolding in_table
  row_without e x k y =
      less (inside x k y) _ _ _ _ (same_place p r q x k y a b c) (not_inside p r q x k y a b c) (e (2048 * (y / 128) + (8 * x + k)) (y % 128))
    where
      less : (t n s o d : Bool) → (t ≡ true → s ≡ d) → (t ≡ false → d ≡ false) → n ≡ (not s && o) → (t && n) ≡ (not d && (t && o))
      less true n s o d f g h = h ∙ ap (λ z. not z && o) (f refl)
      less false n s o d f g h = sym (ap (λ z. not z && false) (g refl))

-- A table in which no row has a target.
pub bare_table : (n p r q : ℕ) → in_table (replicate n 0) p r q ≡ false
unfolding in_table
bare_table n p r q = let zero = cell_zeros n 2 (2048 * (q / 128) + (8 * p + r)) (q % 128) in grind (arith, nat_tests)
