use Rattle.std.proofs.Common.{◌≡◌, ℕ, ◌+◌, ◌*◌, ◌/◌, ◌%◌, ◌<◌, ◌≤◌, Bool, ◌&&◌, ◌||◌, T, eqb, leb, ltb, sym, refl, ap, ◌∙◌, subst, ap₂, inl, inr, arith}
use Rattle.std.proofs.lemmas.Bool.{cases_eq}
use Rattle.std.proofs.lemmas.Bool.Decides.{nat_tests}
use Rattle.bits.specs.Sets.{among}
use Rattle.graph.proofs.Sound.{target_below}
use Rattle.sharing.specs.Filling.{about, cells, of_rights}
use Rattle.sharing.specs.Table.{has_row}
use Rattle.sharing.proofs.Filling.{becomes_same, becomes_then, same_state}
use Rattle.sharing.proofs.table.Table.enter.Goals as goal

pub share-requires : goal.share-requires
share-requires g c = (
  omega arith,
  (
    omega (arith, c.args.self.now.narrow),
    (omega arith, λ y t. target_below c.loop-r.self.graph.now c.args.x c.loop-r.r y (subst T (c.targets-targets.ensures y) t)),
  ),
)

pub loop-r-init : goal.loop-r-init
loop-r-init g c = record { graph = refl; cells = λ i y. none (i % 8) c.args.first _ _ _ }
  where
    none : (k f : ℕ) (w b h : Bool) → w ≡ (w || (((leb f k && ltb k f) && b) && h))
    none k f w b h = grind (arith, nat_tests)

step :
    (k r f y x n : ℕ) (w c t e h : Bool) → f ≤ r → x < n → c ≡ (w || (((leb f k && ltb k r) && eqb y x) && h)) → e ≡ (ltb y n && eqb y x) → (k ≡ r → y ≡ x → t ≡ h) →
    (c || ((eqb k r && t) && e)) ≡ (w || (((leb f k && ltb k (r + 1)) && eqb y x) && h))
step k r f y x n w c t e h m l p q u =
    elim (cases_eq k r) [
      | inl d ↦
          elim (cases_eq y x) [
            | inl z ↦ let v = u d z in grind (arith, nat_tests)
            | inr z ↦ grind (arith, nat_tests)
          ]
      | inr d ↦ grind (arith, nat_tests)
    ]

pub loop-r-preserved : goal.loop-r-preserved
unfolding has_row
loop-r-preserved g c =
    let t = c.args.self.now in
    let s = about g.row.W t in
    let now = c.loop-r.self in
    becomes_then g.row.W t now _ c.loop-r.invariant c.share.new.self _ _ c.share.ensures (λ i y.
    step (i % 8) c.loop-r.r c.args.first y c.args.x (64 * g.row.W) (cells g.row.W t i y) (cells g.row.W now i y) (among g.row.W c.targets-targets.result (i / 8)) (among g.row.W c.only-one.result y) (has_row s i y)
    (omega arith) (omega (arith, t.wide)) (c.loop-r.invariant.cells i y)
    (c.only-one.ensures y ∙ ap (λ v. ltb y (64 * g.row.W) && eqb y v) c.from.ensures)
    (λ d z. c.targets-targets.ensures (i / 8) ∙ ap (λ u. u.has c.args.x c.loop-r.r (i / 8)) (same_state g.row.W t now c.loop-r.invariant.graph) ∙ ap₂ (λ a b. s.has a b (i / 8)) (sym z) (sym d)))

pub returns : goal.returns
returns g c =
    let t = c.args.self.now in
    becomes_same g.row.W t c.loop-r.self _ c.loop-r.invariant _ (λ i y.
    ap (λ e. cells g.row.W t i y || ((of_rights c.args.first e i && eqb y c.args.x) && has_row (about g.row.W t) i y)) (omega arith))
