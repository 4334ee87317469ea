-- Where the rows of the table are, and what is past their ends.
use Rattle.std.proofs.Common.{◌≡◌, ℕ, ◌+◌, ◌*◌, ◌/◌, ◌%◌, ◌<◌, ◌≤◌, Bool, true, false, ◌&&◌, eqb, ltb, ap, ◌∙◌, ap₂, arith}
use Rattle.std.proofs.lemmas.Bool.{lt-ltb}
use Rattle.std.proofs.lemmas.Bool.Decides.{nat_tests}
use Rattle.bits.proofs.Cell.{rows_apart}
use Rattle.graph.specs.Graphs.{state}
use Rattle.graph.specs.declared.graph.Graph.{Graph}
use Rattle.graph.proofs.Sound.{holder_below, target_below}
use Rattle.model.proofs.Tests.{is_false}
use Rattle.spans.proofs.Resized.{within}
use Rattle.sharing.specs.Filling.{of_links}
use Rattle.sharing.specs.Table.{has_row}

-- Row 8 y + r, of a right r to a vertex y.
pub row_fits : (n w l y r : ℕ) → 8 * n * w ≤ l → y < n → r < 8 → (8 * y + r) * w + w ≤ l
row_fits n w l y r h a b = let f = rows_apart (8 * y + r) (8 * n) w (omega arith) in omega arith

pub row_is : (i y r : ℕ) → r < 8 → eqb i (8 * y + r) ≡ (eqb (i % 8) r && eqb (i / 8) y)
row_is i y r h = grind (arith, nat_tests)

-- Nobody has what isn't there, or is there to have it.
pub past_target : (g : Graph) (i x : ℕ) → (state g).size ≤ i / 8 → has_row (state g) i x ≡ false
unfolding has_row
past_target g i x h = is_false _ (λ t. let l = target_below g x (i % 8) (i / 8) t in omega arith)

pub past_holder : (g : Graph) (i x : ℕ) → (state g).size ≤ x → has_row (state g) i x ≡ false
unfolding has_row
past_holder g i x h = is_false _ (λ t. let l = holder_below g x (i % 8) (i / 8) t in omega arith)

-- The row of a link to each vertex that is there is who has it.
pub held_rows :
    (g : Graph) (r : ℕ) → r < 2 → (rows : ℕ → ℕ → Bool) → ((i x : ℕ) → rows i x ≡ (of_links i && has_row (state g) i x)) → (y x : ℕ) →
    (ltb y (state g).size && rows (8 * y + r) x) ≡ (state g).has x r y
unfolding has_row
held_rows g r h rows held y x =
    let right : (8 * y + r) % 8 ≡ r = omega arith in
    let target : (8 * y + r) / 8 ≡ y = omega arith in
    let link : of_links (8 * y + r) ≡ true = lt-ltb ((8 * y + r) % 8) 2 (omega arith) in
    ap (λ b. ltb y (state g).size && b) (held (8 * y + r) x ∙ ap₂ (λ b h. b && h) link (ap₂ (λ a b. (state g).has x a b) right target))
    ∙ within y (state g).size ((state g).has x r y) (λ t. target_below g x r y t)
