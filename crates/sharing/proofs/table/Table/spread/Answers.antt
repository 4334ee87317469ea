use Rattle.std.proofs.Common.{Bool, List, get_or, length, ◌≡◌, ℕ, ◌<◌, ◌||◌, T, refl, ap, ◌∙◌, subst, arith}
use Rattle.bits.specs.Sets.{among}
use Rattle.bits.specs.declared.set.BitSet.{BitSet}
use Rattle.graph.proofs.Sound.{well_formed-law}
use Rattle.model.specs.State.{grant_right}
use Rattle.spans.specs.Sets.{in_sets}
use Rattle.spans.proofs.Resized.{at_index}
use Rattle.sharing.specs.Filling.{about, cells}
use Rattle.sharing.specs.Table.{gets, held_by}
use Rattle.sharing.proofs.Filling.{same_size}
use Rattle.sharing.proofs.Gathered.{held_below}
use Rattle.sharing.proofs.Bringing.{brought_more}
use Rattle.sharing.proofs.table.Table.spread.Goals as goal

-- Whom a vertex of `out` has the right to that the index names.
gathered : (w i r : ℕ) (held : List (BitSet w)) (d : BitSet w) (f : ℕ → ℕ → Bool) → i < length held → i ≡ r → ((r y : ℕ) → in_sets held r y ≡ f r y) → (y : ℕ) → among w (get_or held i d) y ≡ f r y
gathered w i r held d f h e g y = at_index held i d h y ∙ g i y ∙ ap (λ k. f k y) e

pub returns-clause-who : goal.returns-clause-who
unfolding gets
returns-clause-who g c = λ x.
    let s = about g.row.W c.args.self.now in
    let out = among g.row.W c.args.out.now in
    c.union-who.ensures x ∙ ap (λ b. among g.row.W c.args.inner.now x || b) (gathered g.row.W c.from.result grant_right c.gather-held.result _ (held_by s out) (omega (arith, c.from.ensures)) c.from.ensures c.gather-held.ensures x)

pub share-requires : goal.share-requires
share-requires g c =
    let t = c.args.self.now in
    let s = about g.row.W t in
    let out = among g.row.W c.args.out.now in
    let below = held_below s (well_formed-law t.graph.now) c.loop-r.r out in
    let size = same_size g.row.W t c.loop-r.self c.loop-r.invariant.0 in (
      omega arith,
      (
        omega (arith, t.narrow),
        (
          omega arith,
          λ y h.
              let k = below y (subst T (gathered g.row.W c.loop-r.r c.loop-r.r c.gather-held.result _ (held_by s out) (omega arith) refl c.gather-held.ensures y) h) in
              omega (arith, size),
        ),
      ),
    )

pub loop-r-preserved : goal.loop-r-preserved
loop-r-preserved g c =
    let t = c.args.self.now in
    let s = about g.row.W t in
    let out = among g.row.W c.args.out.now in (
      c.share.ensures.graph ∙ c.loop-r.invariant.0,
      brought_more s (among g.row.W c.args.inner.now) out (cells g.row.W t) (cells g.row.W c.loop-r.self)
          (cells g.row.W c.share.new.self) (among g.row.W c.union-who.result) (among g.row.W (get_or c.gather-held.result c.loop-r.r _)) c.loop-r.r
          (λ x. c.union-who.ensures x ∙ ap (λ b. among g.row.W c.args.inner.now x || b) (gathered g.row.W c.from.result grant_right c.gather-held.result _ (held_by s out) (omega (arith, c.from.ensures)) c.from.ensures c.gather-held.ensures x))
          (gathered g.row.W c.loop-r.r c.loop-r.r c.gather-held.result _ (held_by s out) (omega arith) refl c.gather-held.ensures) c.share.ensures.cells c.loop-r.invariant.1,
    )
