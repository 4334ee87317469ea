-- The round trips of books and acts, and what the reader of acts says by them.
use Rattle.std.proofs.Common.{◌≡◌, ◌-◌, ◌<◌, [], ◌++◌, length, take, drop, Ok, sym, ap, ◌∙◌, append-nil, arith}
use Rattle.model.specs.State.{State}
use Rattle.model.specs.declared.Rule.{Rule}
use Rattle.model.specs.declared.Rule.TheVariants.{Take, Grant, Create, Remove}
use Rattle.graph.specs.Graphs.{state}
use Rattle.graph.specs.declared.graph.Graph.{Graph}
use Rattle.graph.proofs.Sound.{right_below, subject_below, some_vertex, few_vertices, well_formed-law}
use Rattle.codec.specs.Acts.{act_bytes}
use Rattle.codec.specs.Bookable.{Bookable}
use Rattle.codec.specs.Books.{book_at}
use Rattle.codec.specs.RoundTrips.{BooksReadBack, BooksWriteBack, ActsReadBack, ActsWriteBack}
use Rattle.codec.specs.Writing.{book_bytes}
use Rattle.codec.proofs.Stands.{stands_in, stands_part, stands_there, stands_within}
use Rattle.codec.proofs.ActBytes.{act_read, act_ok}
use Rattle.codec.proofs.BookBytes.{book_read, book_ok}

-- Every graph can be written as a book.
pub graph_bookable : (g : Graph) → Bookable (state g)
graph_bookable g = record { some = some_vertex g; few = few_vertices g; formed = well_formed-law g; acting = subject_below g; rights = right_below g }

pub books_read_back : BooksReadBack
books_read_back s b rest = book_read (book_bytes s ++ rest) s b (stands_in [] (book_bytes s) rest)

-- Nothing needs to follow.
pub book_reads_back : (s : State) → Bookable s → book_at (book_bytes s) ≡ Ok (s, length (book_bytes s))
book_reads_back s b = ap book_at (sym (append-nil (book_bytes s))) ∙ books_read_back s b []

pub books_write_back : BooksWriteBack
books_write_back bs bytes s next e =
    let h = book_ok bs bytes (s, next) e in
    let l = stands_within bs (book_bytes s) 0 h.stands (omega arith) in
    let z = h.ends in
    record { bookable = h.bookable; within = omega arith; bytes = ap (λ m. take m bs) z ∙ stands_part bs (book_bytes s) 0 h.stands }

pub some_bytes : (a : Rule) → 0 < length (act_bytes a)
some_bytes (Take t) = omega arith
some_bytes (Grant g) = omega arith
some_bytes (Create c) = omega arith
some_bytes (Remove d) = omega arith

pub acts_read_back : ActsReadBack
acts_read_back n a r before rest = act_read (before ++ (act_bytes a ++ rest)) n a (length before) r (stands_in before (act_bytes a) rest)

pub acts_write_back : ActsWriteBack
acts_write_back bs bytes n at a next e =
    let h = act_ok bs bytes n at (a, next) e in
    let l = stands_within bs (act_bytes a) at h.stands (stands_there bs (act_bytes a) at h.stands (some_bytes a)) in
    let z = h.ends in
    record { range = h.range; ends = z; within = omega arith; bytes = ap (λ m. take m (drop at bs)) (let y : next - at ≡ length (act_bytes a) = omega arith in y) ∙ stands_part bs (act_bytes a) at h.stands }
