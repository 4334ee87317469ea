use Rattle.std.proofs.Common.{◌≡◌, ℕ, ◌+◌, ◌/◌, ◌%◌, ◌≤◌, Bool, ◌&&◌, ◌||◌, eqb, leb, ltb, refl, ap, inl, inr, arith}
use Rattle.std.proofs.lemmas.Bool.{cases_eq}
use Rattle.std.proofs.lemmas.Bool.Decides.{nat_tests}
use Rattle.sharing.specs.Filling.{about, cells, of_rights}
use Rattle.sharing.specs.Table.{has_row}
use Rattle.sharing.proofs.Filling.{becomes_same, none_yet, placed_same}
use Rattle.sharing.proofs.table.Table.turn_group.Goals as goal

pub loop-r-init : goal.loop-r-init
loop-r-init g c = (refl, record { graph = refl; cells = λ i x. none_yet (i % 8) c.args.first _ _ _ _ })

-- The rows of one right more.
step : (k r f : ℕ) (w c n b p h : Bool) → f ≤ r → c ≡ (w || ((((leb f k && ltb k r) && b) && p) && h)) → n ≡ (c || (((eqb k r && b) && p) && h)) → n ≡ (w || ((((leb f k && ltb k (r + 1)) && b) && p) && h))
step k r f w c n b p h l e d = elim (cases_eq k r) [ inl z ↦ grind (arith, nat_tests) | inr z ↦ grind (arith, nat_tests) ]

pub returns : goal.returns
returns g c =
    let t = c.args.self.now in
    let s = about g.row.W t in
    let p : ℕ → ℕ → Bool = λ i x. of_rights c.args.first c.loop-r.r i && eqb (x / 64) c.args.g in
    let q : ℕ → ℕ → Bool = λ i x. of_rights c.args.first c.args.end i && eqb (x / 64) c.args.g in
    becomes_same g.row.W t c.loop-r.self _ c.loop-r.invariant.1 _ (λ i x.
    placed_same s p q (has_row s) (cells g.row.W t) i x (ap (λ e. of_rights c.args.first e i && eqb (x / 64) c.args.g) (omega arith)))
