-- The size of the table, and where its rows are.
use Rattle.std.proofs.Common.{◌≡◌, ℕ, ◌+◌, ◌*◌, ◌/◌, ◌%◌, ◌<◌, ◌≤◌, sym, ap, subst, ap₂, inl, inr, arith}
use Rattle.std.proofs.lemmas.Bool.{cases_lt}
use Rattle.model.specs.State.{State}
use Rattle.model.specs.Sharing.{can_share}
use Rattle.graph.specs.Table.{row_width}
use Rattle.graph.proofs.Rows.{width_few, width_many}
use Rattle.sharing.specs.Table.{shares_row, table_words}
use Rattle.sharing.proofs.Holding.{row_fits}

pub table_is : (n w : ℕ) → w ≡ row_width n → 8 * n * w ≡ table_words n
unfolding table_words
table_is n w e = ap (λ v. 8 * n * v) e

pub table_few : (n : ℕ) → n ≤ 128 → table_words n ≡ 8 * n * 2
table_few n h = sym (table_is n 2 (sym (width_few n h)))

pub table_many : (n : ℕ) → 128 < n → table_words n ≡ 8 * n * 4
table_many n h = sym (table_is n 4 (sym (width_many n h)))

pub table_most : (n : ℕ) → n < 256 → table_words n ≤ 8192
table_most n h =
    elim (cases_lt 128 n) [
      | inl l ↦ omega (arith, table_many n l)
      | inr l ↦ omega (arith, table_few n l)
    ]

pub row_there : (n w l y r : ℕ) → w ≡ row_width n → table_words n ≤ l → y < n → r < 8 → (8 * y + r) * w + w ≤ l
row_there n w l y r e h a b = row_fits n w l y r (subst (λ m. m ≤ l) (sym (table_is n w e)) h) a b

-- What row 8 y + r says.
pub row_says : (s : State) (x r y : ℕ) → r < 8 → shares_row s (8 * y + r) x ≡ can_share s x r y
unfolding shares_row
row_says s x r y h = let q : (8 * y + r) / 8 ≡ y = omega arith in let m : (8 * y + r) % 8 ≡ r = omega arith in ap₂ (λ a b. can_share s x a b) m q
