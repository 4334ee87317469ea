use Rattle.std.proofs.Common.{◌≡◌, ℕ, ◌+◌, Bool, cond, ◌&&◌, ◌||◌, eqb, ltb, sym, ap, ◌∙◌, ap₂, inl, inr, arith, length-set}
use Rattle.std.proofs.lemmas.Bool.{cases_eq}
use Rattle.std.proofs.lemmas.Bool.Decides.{nat_tests}
use Rattle.bits.specs.Sets.{among}
use Rattle.spans.specs.Sets.{in_sets}
use Rattle.graph.proofs.Sound.{right_below}
use Rattle.sharing.specs.Filling.{about}
use Rattle.spans.proofs.Resized.{at_index, sets_set, within}
use Rattle.sharing.proofs.table.Table.gather_one.Goals as goal

step : (k r : ℕ) (w c n h u : Bool) → c ≡ (w || (ltb k r && h)) → n ≡ cond (eqb k r) u c → (k ≡ r → u ≡ (c || h)) → n ≡ (w || (ltb k (r + 1) && h))
step k r w c n h u p q f = elim (cases_eq k r) [ inl d ↦ let z = f d in grind (arith, nat_tests) | inr d ↦ grind (arith, nat_tests) ]

pub loop-r-preserved : goal.loop-r-preserved
unfolding in_sets
loop-r-preserved g c =
    let size = c.loop-r.invariant.0 in (
      simp length-set size,
      λ r y.
          let s = about g.row.W c.args.self.now in
          step r c.loop-r.r (in_sets c.args.held.now r y) (in_sets c.loop-r.held r y) _ (s.has c.args.t r y) (among g.row.W c.add.new.self y) (c.loop-r.invariant.1 r y)
          (sets_set c.loop-r.held c.loop-r.r c.add.new.self (omega arith) r y)
          (λ d. c.add.ensures y ∙ ap (λ b. b || among g.row.W c.targets.result y) (at_index c.loop-r.held c.loop-r.r c.index-held-r.result (omega arith) y) ∙ ap₂ (λ k v. in_sets c.loop-r.held k y || v) (sym d) (c.targets.ensures y ∙ ap (λ k. s.has c.args.t k y) (sym d))),
    )

pub returns : goal.returns
returns g c = λ r y.
    c.loop-r.invariant.1 r y
    ∙ ap (λ b. in_sets c.args.held.now r y || b) (within r c.loop-r.r ((about g.row.W c.args.self.now).has c.args.t r y) (λ t. let l = right_below c.args.self.now.graph.now c.args.t r y t in omega (arith, c.loop-r.invariant.0)))
