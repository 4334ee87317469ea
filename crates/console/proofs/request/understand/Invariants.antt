use Rattle.std.proofs.Common.{◌≡◌, drop, map, string_bytes, option_map, false, None}
use Rattle.console.specs.Requests.{meaning, meaning_from}
use Rattle.console.specs.declared.request.Writes.TheVariants.{Nothing}
use Rattle.std.specs.Vec.Iter.{into_iter_items, into_iter_len}
use Rattle.console.proofs.request.understand.Given as goal

-- What the words that are left mean beside what they named so far is what all of them mean.
abbrev pub invariant-loop-word : goal.invariant-loop-word
invariant-loop-word l =
    (l.writes ≡ l.fn.writes)
    × (meaning_from l.fn.writes false (map string_bytes (into_iter_items l.words)) (record { files = map string_bytes l.files.items; output = option_map string_bytes l.output }) ≡ meaning l.fn.writes (drop 1 (map string_bytes (into_iter_items l.fn.words))))
    × (l.fn.writes ≡ Nothing → l.output ≡ None)

abbrev pub decreases-loop-word : goal.decreases-loop-word
decreases-loop-word l = into_iter_len l.words
