use Rattle.std.proofs.Common.{◌≡◌, Ok, rules}
use Rattle.graph.specs.Graphs.{state}
use Rattle.codec.specs.Books.{book_at}
use Rattle.codec.proofs.RoundTrips.{books_write_back}
use Rattle.codec.proofs.book.read_book.Goals as goal

pub returns-clause-says : goal.returns-clause-says
unfolding book_at
returns-clause-says c =
    let read : book_at c.args.bytes.now ≡ Ok (state c.vertices.new.graph, c.vertices.new.self.at) = search rules in
    (books_write_back c.args.bytes.now (λ i. (c.type_inv.bytes i).fits) (state c.vertices.new.graph) c.vertices.new.self.at read).bytes
