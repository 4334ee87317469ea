-- The subjects lie below the size exactly if they are a subset of what lies below it.
use Rattle.std.proofs.Common.{◌≡◌, ℕ, Bool, true, T, ltb, sym, ◌∙◌, subst, inl, inr, arith, ltb→lt, lt→ltb, rules}
use borrow.Author.Tests.{both_ways}
use Rattle.std.proofs.lemmas.Bool.{cases_lt}
use Rattle.std.proofs.lemmas.List.{length-replicate}
use Rattle.model.specs.Bounded.{all_below, implies}
use Rattle.model.proofs.Tests.{all_at, all_from, implied, implying, is_true}
use Rattle.bits.specs.Sets.{holds, VertexSet}
use Rattle.bits.proofs.Holds.{below_fits, holds_past}
use Rattle.graph.specs.Graphs.{state}
use Rattle.graph.specs.Table.{SubjectsFit}
use Rattle.graph.proofs.Rows.{bare_table}
use Rattle.graph.proofs.States.{same_state}
use Rattle.graph.proofs.graph.Graph.new.Goals as goal
use Rattle.graph.proofs.graph.Graph.new.Goals.{then-size-eq0-via-then-size-eq0, then-size-eq0-via-else-size-eq0+then-not-is_subset}

module _ (subjects all : VertexSet) (n : ℕ) (r : Bool) (below : (k : ℕ) → holds all k ≡ ltb k n) (is : r ≡ all_below 256 (λ k. implies (holds subjects k) (holds all k))) where
  fit : r ≡ true → SubjectsFit n subjects
  fit e k t =
      elim (cases_lt k 256) [
        | inl h ↦ ltb→lt k n (subst T (below k) (implied (holds subjects k) (holds all k) (all_at 256 _ (subst T (sym e ∙ is) tt) k h) t))
        | inr h ↦ absurd (subst T (holds_past subjects k h) t)
      ]

  fit_test : SubjectsFit n subjects → r ≡ true
  fit_test f =
      is ∙ is_true _ (all_from 256 _ (λ k h. implying (holds subjects k) (holds all k) (λ t. subst T (sym (below k)) (lt→ltb k n (f k t)))))

pub returns-then-size-eq0 : goal.returns-then-size-eq0
returns-then-size-eq0 c =
    record {
      cases = λ f. elim c.then-size-eq0.branch [
        | then-size-eq0-via-then-size-eq0 w ↦ omega (arith, f.0, w.if-size-eq0.true)
        | then-size-eq0-via-else-size-eq0+then-not-is_subset w ↦ both_ways w.is_subset.result w.if-not-is_subset.true (fit_test c.args.subjects w.below.result c.args.size w.is_subset.result (below_fits 4 c.args.size w.below.result (omega arith) w.below.ensures) w.is_subset.ensures f.1)
      ];
    }

pub invariant_of-result : goal.invariant_of-result
invariant_of-result c =
    record {
      some = omega (arith, c.if-size-eq0.false);
      few = search rules;
      acting = fit c.args.subjects c.below.result c.args.size c.is_subset.result (below_fits 4 c.args.size c.below.result (omega arith) c.below.ensures) c.is_subset.ensures c.if-not-is_subset.false;
      whole = length-replicate {A = ℕ} 8192 0;
      held = (λ p r q t. absurd (subst T (bare_table 8192 p r q) t));
    }

pub returns : goal.returns
unfolding state
returns c = record { cases = same_state c.args.size (holds c.args.subjects) _ _ (λ p r q. bare_table 8192 p r q) }
