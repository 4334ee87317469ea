use Rattle.std.proofs.Common.{◌≡◌, ℕ, Bool, false, cond, ◌&&◌, eqb, ltb, ap, ◌∙◌, ◌+◌, ◌*◌, ◌≤◌, length, sym, subst, arith, length-set, refl, inl, inr}
use Rattle.std.proofs.lemmas.Bool.{cases_eq}
use Rattle.std.proofs.lemmas.Bool.Decides.{nat_tests}
use Rattle.bits.specs.Rows.{cell}
use Rattle.bits.specs.Sets.{among}
use Rattle.spans.specs.Sets.{in_sets}
use Rattle.sharing.specs.Filling.{cells}
use Rattle.spans.proofs.Resized.{sets_set}
use Rattle.sharing.proofs.Holding.{row_fits}
use Rattle.sharing.proofs.table.Table.holders.Goals as goal

pub at-requires : goal.at-requires
at-requires g c =
    let t = c.args.self.now in (
      omega (arith, t.narrow),
      subst (λ i. i * g.row.W + g.row.W ≤ length t.rows.now) (sym c.row.ensures)
          (row_fits _ g.row.W _ c.loop-y.y c.args.r t.fits (omega (arith, c.size-y-end.ensures.value)) c.requires.bound.0),
    )

none : (y : ℕ) (b : Bool) → false ≡ (ltb y 0 && b)
none y b = grind (arith, nat_tests)

pub loop-y-init : goal.loop-y-init
loop-y-init g c = (refl, λ y x. c.requires.empty y x ∙ none y _)

-- One set more.
step : (k y : ℕ) (c n : Bool) (h : ℕ → Bool) → c ≡ (ltb k y && h k) → n ≡ h y → cond (eqb k y) n c ≡ (ltb k (y + 1) && h k)
step k y c n h p q = elim (cases_eq k y) [ inl d ↦ let z = ap h d in grind (arith, nat_tests) | inr d ↦ grind (arith, nat_tests) ]

pub loop-y-preserved : goal.loop-y-preserved
loop-y-preserved g c = let n = c.loop-y.invariant.0 in (
  simp length-set n,
  λ y x.
      sets_set c.loop-y.sets c.from.result c.at.result (omega (arith, c.from.ensures, c.size-y-end.ensures.value)) y x ∙ ap (λ i. cond (eqb y i) (among g.row.W c.at.result x) (in_sets c.loop-y.sets y x)) c.from.ensures
      ∙ step y c.loop-y.y (in_sets c.loop-y.sets y x) _ (λ i. cells g.row.W c.args.self.now (8 * i + c.args.r) x) (c.loop-y.invariant.1 y x) (c.at.ensures x ∙ ap (λ i. cell c.args.self.now.rows.now g.row.W i x) c.row.ensures),
)
