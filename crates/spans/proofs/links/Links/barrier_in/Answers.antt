use Rattle.std.proofs.Common.{◌≡◌, ℕ, ◌≤◌, ◌&&◌, ltb, sym, ap, ◌∙◌, ap₂, arith}
use Rattle.bits.specs.Sets.{among}
use Rattle.bits.specs.declared.set.BitSet.{BitSet}
use Rattle.bits.proofs.Holds.{among_below}
use Rattle.graph.proofs.Sound.{well_formed-law, only_subjects}
use Rattle.model.specs.Bounded.{only}
use Rattle.model.proofs.Least.{inner_by_out}
use Rattle.model.proofs.Tests.{is_true}
use Rattle.spans.specs.Of.{linked}
use Rattle.spans.specs.Viewed.{viewed}
use Rattle.spans.proofs.Resized.{rows_are, within}
use Rattle.spans.proofs.Searched.{out_found, into_found}
use Rattle.spans.proofs.links.Links.barrier_in.Goals as goal

-- In wider sets there is room for all.
wider : (v : ℕ) (s : BitSet v) → v ≤ 4 → (k : ℕ) → (ltb k 256 && among v s k) ≡ among v s k
wider v s n k = within k 256 (among v s k) (λ t. let l = among_below v s k (is_true _ t) in omega arith)

pub of-view-requires : goal.of-view-requires
of-view-requires g c =
    let l = c.args.self.now in (
      omega arith,
      (
        omega arith,
        (
          omega arith,
          (
            c.requires,
            (
              (λ y k. sym (rows_are l.takers y k) ∙ l.taken y k),
              (λ y k. sym (rows_are l.granters y k) ∙ l.granted y k),
            ),
          ),
        ),
      ),
    )

pub returns : goal.returns
returns g c =
    let l = c.args.self.now in
    let t = c.step.new.self in
    let about = ap viewed (c.step.ensures.same.0 ∙ c.loop.invariant.0 ∙ c.of-search.ensures.0) ∙ c.of-view.ensures in
    let from : t.from ≡ c.args.x = c.step.ensures.same.1 ∙ c.loop.invariant.1 in
    let over = c.step.ensures.over c.loop-test.false in
    let out : (k : ℕ) → among 4 c.resized-out.result k ≡ _ = λ k. c.resized-out.ensures k ∙ wider g.row.V t.out.found (omega arith) k ∙ out_found 4 g.row.V l.graph.now c.args.x t about from over.0 over.1 k in
    record {
      inner = λ k. c.intersection.ensures k ∙ ap₂ (λ a b. a && b) (c.subjects.ensures.value k ∙ only_subjects l.graph.now k) (out k) ∙ sym (inner_by_out (linked l) (well_formed-law l.graph.now) (only c.args.x) k);
      out = out;
      into = λ k. c.resized.ensures k ∙ wider g.row.V t.into.found (omega arith) k ∙ into_found 4 g.row.V l.graph.now c.args.x t about from over.0 over.1 k;
    }
