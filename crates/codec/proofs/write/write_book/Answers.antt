use Rattle.std.proofs.Common.{◌≡◌, length, Ok, sym, ap, ◌∙◌, vec_items, rules}
use Rattle.graph.specs.Graphs.{state}
use Rattle.codec.specs.Writing.{vertices_bytes, book_bytes}
use Rattle.codec.specs.Books.{book_at}
use Rattle.codec.proofs.RoundTrips.{graph_bookable, book_reads_back}
use Rattle.codec.proofs.write.write_book.Goals as goal

pub returns-clause-back : goal.returns-clause-back
unfolding vertices_bytes book_bytes
returns-clause-back c =
    let s = state c.args.graph.now in
    let e : vec_items c.loop-p.out ≡ book_bytes s = search rules in
    ap (λ b. book_at b) e ∙ (book_reads_back s (graph_bookable c.args.graph.now) ∙ ap (λ b. Ok (s, length b)) (sym e))
