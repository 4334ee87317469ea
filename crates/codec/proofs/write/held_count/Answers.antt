use Rattle.std.proofs.Common.{◌≡◌, ℕ, ◌≤◌, Bool, arith, rules}
use Rattle.std.proofs.lemmas.Iterator.{YieldsList-from_range, YieldsList-from_map}
use Rattle.std.proofs.lemmas.Iterator.Adapters.{fits_from_length, at_most_from_yields_List}
use Rattle.std.proofs.lemmas.Iterator.Consumers.{sum_by_from_yields_List}
use Rattle.std.proofs.lemmas.List.FromFn.{length-range_with_len}
use Rattle.std.specs.List.{range_with_len}
use Rattle.graph.specs.Graphs.{state}
use Rattle.graph.proofs.Sound.{few_vertices}
use Rattle.bits.proofs.Below.{count_le}
use Rattle.model.specs.Bounded.{count_below}
use Rattle.codec.specs.Writing.{count_held}
use Rattle.codec.proofs.Written.{count_row, few_held}
use Rattle.codec.proofs.write.held_count.Goals as goal

small : (r : ℕ) (f : ℕ → Bool) → r ≡ count_below 256 f → r ≤ 2305843009213693951
small r f e = omega (arith, count_le 256 f)

pub sum-requires-clause-fits : goal.sum-requires-clause-fits
sum-requires-clause-fits c =
    fits_from_length _ _ 8 _ (at_most_from_yields_List (YieldsList-from_range 0 8 8 c.map.ensures.source (omega arith)) (omega (arith, length-range_with_len 0 8)))
    c.map.ensures.closure (omega arith) (λ x r q k. search (rules, small))

pub returns-clause-value : goal.returns-clause-value
unfolding count_held
returns-clause-value c =
    let s = state c.args.graph.now in
    sum_by_from_yields_List (λ r. count_below s.size (s.has c.args.p r)) (range_with_len 0 8) c.map.result c.sum.result c.sum.ensures.ran
    (YieldsList-from_map _ (λ r. count_below s.size (s.has c.args.p r)) (YieldsList-from_range 0 8 8 c.map.ensures.source (omega arith)) c.map.ensures.closure (λ x r q k. search (rules, count_row)))

pub returns-clause-bound : goal.returns-clause-bound
returns-clause-bound c = omega (arith, returns-clause-value c, few_held (state c.args.graph.now) c.args.p 8, few_vertices c.args.graph.now)
