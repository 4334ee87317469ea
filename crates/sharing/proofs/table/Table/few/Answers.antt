use Rattle.std.proofs.Common.{◌≡◌, ℕ, ◌≤◌, Bool, arith, rules}
use Rattle.std.proofs.lemmas.Iterator.{YieldsList-from_range}
use Rattle.std.proofs.lemmas.Iterator.Adapters.{fits_from_length, at_most_from_yields_List}
use Rattle.std.proofs.lemmas.List.FromFn.{length-range_with_len}
use Rattle.bits.proofs.Below.{count_le}
use Rattle.model.specs.Bounded.{count_below}
use Rattle.sharing.proofs.table.Table.few.Goals as goal

small : (r : ℕ) (f : ℕ → Bool) → r ≡ count_below 256 f → r ≤ 1152921504606846975
small r f e = omega (arith, count_le 256 f)

pub sum-sample-requires-clause-fits : goal.sum-sample-requires-clause-fits
sum-sample-requires-clause-fits g c =
    fits_from_length _ _ 16 _ (at_most_from_yields_List (YieldsList-from_range 0 16 16 c.map.ensures.source (omega arith)) (omega (arith, length-range_with_len 0 16)))
    c.map.ensures.closure (omega arith) (λ x r q k. search (rules, small))
