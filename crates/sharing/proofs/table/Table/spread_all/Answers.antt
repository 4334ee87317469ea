use Rattle.std.proofs.Common.{replicate, false, ◌≡◌, ℕ, ◌*◌, ◌/◌, ◌%◌, ◌<◌, ◌≤◌, ◌+◌, Bool, ltb, ltb→lt, lt→ltb, not, ◌&&◌, ◌||◌, T, sym, refl, ap, ◌∙◌, subst, ap₂, arith, T_not}
use Rattle.std.proofs.lemmas.Bool.Decides.{nat_tests}
use Rattle.bits.specs.Sets.{among}
use Rattle.bits.specs.declared.set.BitSet.{BitSet}
use Rattle.spans.specs.Sets.{in_sets}
use Rattle.graph.proofs.Sound.{few_vertices, holder_below, well_formed-law}
use Rattle.graph.specs.Graphs.{state}
use Rattle.graph.specs.declared.graph.Graph.{Graph}
use Rattle.model.specs.Bounded.{only}
use Rattle.model.specs.Certificates.{out_of}
use Rattle.model.specs.State.{is_subject}
use Rattle.model.proofs.Tests.{parts, from_true}
use Rattle.model.proofs.Least.{inner_by_out}
use Rattle.bits.proofs.Walk.{less_part}
use Rattle.spans.proofs.Resized.{resized_subjects, sets_none}
use Rattle.sharing.specs.Filling.{about, cells}
use Rattle.sharing.specs.Table.{gets, has_row, spreads}
use Rattle.sharing.proofs.Holding.{held_rows}
use Rattle.sharing.proofs.Filling.{same_state}
use Rattle.sharing.proofs.Spreading.{spreading_none, spreading_more, spreading_all, own_island}
use Rattle.sharing.proofs.table.Table.spread_all.Goals as goal

acting : (g : Graph) (w : ℕ) → (state g).size ≤ 64 * w → (row set : ℕ → Bool) → ((k : ℕ) → row k ≡ (ltb k (64 * w) && set k)) → ((k : ℕ) → set k ≡ (state g).subject k) → (k : ℕ) → row k ≡ is_subject (state g) k
acting g w h row set e f k = e k ∙ ap (λ b. ltb k (64 * w) && b) (f k) ∙ resized_subjects g w h k

-- Everybody that is there is left at first.
everybody : (w n k : ℕ) → n ≤ 64 * w → (ltb k (64 * w) && ltb k n) ≡ ltb k n
everybody w n k h = grind (arith, nat_tests)

-- Sets of nobody.
nobody : (w : ℕ) (s : BitSet w) → ((k : ℕ) → among w s k ≡ false) → (y k : ℕ) → in_sets (replicate 256 s) y k ≡ false
nobody w s e y k = sets_none s e 256 y k

pub holders-requires : goal.holders-requires
holders-requires g c =
    let t = c.args.self.now in
    let few = few_vertices t.graph.now in
    (omega arith, (omega (arith, t.narrow), ((omega arith, omega arith), nobody g.row.W c.empty-takers.result c.empty-takers.ensures)))

pub holders-requires-2 : goal.holders-requires-2
holders-requires-2 g c =
    let t = c.args.self.now in
    let few = few_vertices t.graph.now in
    (omega arith, (omega (arith, t.narrow), ((omega arith, omega arith), nobody g.row.W c.empty-granters.result c.empty-granters.ensures)))

pub reach-out-requires : goal.reach-out-requires
reach-out-requires g c =
    let t = c.args.self.now in
    let held : (r : ℕ) → r < 2 → (y x : ℕ) → (ltb y (about g.row.W t).size && cells g.row.W t (8 * y + r) x) ≡ (about g.row.W t).has x r y = λ r h. held_rows t.graph.now r h (cells g.row.W t) c.requires in
    (omega (arith, t.narrow), (omega (arith, t.narrow), (t.exact, ((λ y k. c.holders.ensures.sets y k ∙ held 0 (omega arith) y k), (λ y k. c.holders-2.ensures.sets y k ∙ held 1 (omega arith) y k)))))

pub loop-l-init : goal.loop-l-init
unfolding has_row
loop-l-init g c =
    let t = c.args.self.now in
    let s = about g.row.W t in
    let acts = acting t.graph.now g.row.W t.wide _ _ c.resized-subjects.ensures c.subjects.ensures.value in
    let left : (x : ℕ) → among g.row.W c.below-left.result x ≡ ltb x s.size = λ x. c.below-left.ensures x ∙ ap (λ n. ltb x (64 * g.row.W) && ltb x n) (c.from.ensures ∙ c.size.ensures.value) ∙ everybody g.row.W s.size x t.wide in (
      refl,
      (λ p h. subst T (acts p) h),
      (λ x h. ltb→lt x s.size (subst T (left x) h)),
      spreading_none s (well_formed-law t.graph.now) (cells g.row.W t) _ _ c.requires acts (λ i x h. subst T (sym (left x)) (lt→ltb x s.size (holder_below t.graph.now x (i % 8) (i / 8) h))),
    )

pub loop-l-preserved : goal.loop-l-preserved
loop-l-preserved g c =
    let t = c.args.self.now in
    let s = about g.row.W t in
    let wf = well_formed-law t.graph.now in
    let l = c.in-Some.l in
    let reached : (k : ℕ) → among g.row.W c.reach-out.result k ≡ out_of s (only l) k = λ k. c.reach-out.ensures.value k in
    let acts = acting t.graph.now g.row.W t.wide _ _ c.resized-subjects.ensures c.subjects.ensures.value in
    let inner = among g.row.W c.intersection-inner.result in
    let out = among g.row.W c.reach-out.result in
    let same = same_state g.row.W t c.loop-l.self c.loop-l.invariant.0 in
    let lost : (x : ℕ) → among g.row.W c.difference-left.result x ≡ (among g.row.W c.loop-l.left x && not (gets s inner out x && out x)) =
    λ x. c.difference-left.ensures x ∙ ap (λ b. among g.row.W c.loop-l.left x && not b) (c.intersection.ensures x ∙ ap (λ b. b && out x) (c.spread-who.ensures.who x ∙ ap (λ z. gets z inner out x) same)) in (
      c.spread-who.ensures.rows.graph ∙ c.loop-l.invariant.0,
      (λ p h. c.loop-l.invariant.1 p (parts (among g.row.W c.loop-l.rest p) _ (subst T (c.difference-rest.ensures p) h)).0),
      (λ x h. c.loop-l.invariant.2 x (parts (among g.row.W c.loop-l.left x) _ (subst T (lost x) h)).0),
      spreading_more s wf (cells g.row.W c.loop-l.self) (cells g.row.W c.spread-who.new.self) (among g.row.W c.loop-l.rest) (among g.row.W c.difference-rest.result)
          (among g.row.W c.loop-l.left) (among g.row.W c.difference-left.result) inner out l (c.loop-l.invariant.1 l (from_true _ c.in-Some.ensures.0))
          (λ p. c.intersection-inner.ensures p ∙ ap₂ (λ a b. a && b) (acts p) (reached p) ∙ sym (inner_by_out s wf (only l) p))
          reached c.difference-rest.ensures lost
          (λ i x. c.spread-who.ensures.rows.cells i x ∙ ap (λ z. cells g.row.W c.loop-l.self i x || spreads z inner out i x) same) c.loop-l.invariant.3,
    )

pub loop-l-smaller : goal.loop-l-smaller
loop-l-smaller g c =
    let t = c.args.self.now in
    let s = about g.row.W t in
    let wf = well_formed-law t.graph.now in
    let l = c.in-Some.l in
    let reached : (k : ℕ) → among g.row.W c.reach-out.result k ≡ out_of s (only l) k = λ k. c.reach-out.ensures.value k in
    let acts = acting t.graph.now g.row.W t.wide _ _ c.resized-subjects.ensures c.subjects.ensures.value in
    let rest = among g.row.W c.loop-l.rest in
    let there : T (rest l) = from_true _ c.in-Some.ensures.0 in
    let own : T (among g.row.W c.intersection-inner.result l) =
    subst T (sym (c.intersection-inner.ensures l ∙ ap₂ (λ a b. a && b) (acts l) (reached l) ∙ sym (inner_by_out s wf (only l) l)))
    (own_island s wf l (c.loop-l.invariant.1 l there)) in
    less_part rest (among g.row.W c.difference-rest.result) (λ k h. (parts (rest k) _ (subst T (c.difference-rest.ensures k) h)).0)
    256 l (omega arith) there
    (λ u. T_not (among g.row.W c.intersection-inner.result l) (parts (rest l) _ (subst T (c.difference-rest.ensures l) u)).1 own)

pub returns : goal.returns
returns g c =
    let t = c.args.self.now in
    record {
      graph = c.loop-l.invariant.0;
      there = c.loop-l.invariant.2;
      lacking = spreading_all (about g.row.W t) (well_formed-law t.graph.now) (cells g.row.W c.loop-l.self) (among g.row.W c.loop-l.rest) (among g.row.W c.loop-l.left) c.in_default.ensures c.loop-l.invariant.3;
    }
