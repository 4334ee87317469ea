use Rattle.std.proofs.Common.{ℕ, not, ◌&&◌, T}
use Rattle.bits.specs.Members.{left}
use Rattle.bits.specs.Sets.{among}
use Rattle.sharing.specs.Filling.{about, added, cells, of_links, Becomes}
use Rattle.sharing.proofs.table.Table.enter_inert.Given as goal

abbrev pub invariant-loop-x : goal.invariant-loop-x
invariant-loop-x g l =
    let s = about g.row.W l.initial.self in
    let rest = among g.row.W (left l.x-iterator) in
    ((x : ℕ) → T (rest x) → T (among g.row.W l.set x))
    × Becomes g.row.W l.initial.self l.self (added s (λ i y. not (of_links i) && (among g.row.W l.set y && not (rest y))) (cells g.row.W l.initial.self))
