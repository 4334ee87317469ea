-- Exactly the inputs that play through are answered, and with the book after their acts.
use Rattle.std.proofs.Common.{◌≡◌, ◌+◌, ◌<◌, [], ◌++◌, length, Ok, sym, ap, ◌∙◌, subst, append-nil, arith, ℕ, ◌≤◌, T, ◌⊎◌, List, Err, ap₂, inl, inr, zero-add}
use Rattle.std.proofs.lemmas.List.{length-append}
use Rattle.model.specs.Rules.{after, all_applicable}
use Rattle.codec.specs.Reading.{onward}
use Rattle.codec.specs.Books.{book_at}
use Rattle.codec.specs.Played.{acts_bytes, Readable}
use Rattle.codec.specs.Replay.{acts_at, replayed, performed_at}
use Rattle.codec.specs.RoundTrips.{ReplaysPlay, PlaysReplay, AreBytes}
use Rattle.codec.specs.Writing.{book_bytes}
use Rattle.codec.proofs.Inverted.{ok_same, onward_ok, onward_on, never_err, onward_err}
use Rattle.codec.proofs.Stands.{Stands, stands_append, stands_left, stands_right, stands_whole, stands_in, stands_within, stands_part, part_stands}
use Rattle.codec.proofs.BookBytes.{book_read, book_ok}
use Rattle.codec.proofs.Running.{acts_play, acts_ok, acts_break, acts_broken}
use Rattle.model.specs.State.{State}
use Rattle.model.specs.declared.Rule.{Rule}
use Rattle.codec.specs.declared.fault.Fault.{Fault}
use Rattle.codec.specs.Bookable.{Bookable}
use Rattle.codec.proofs.Looked.{Same, part_same}

pub replays_play : ReplaysPlay
unfolding replayed
replays_play bs out bytes e =
    let b = onward_ok (book_at bs) (λ x. onward (acts_at (length bs) bs x.1 0 x.0) λ t. Ok (book_bytes t)) out e in
    let s = b.0.0 in
    let h = book_ok bs bytes b.0 b.1 in
    let c = onward_ok (acts_at (length bs) bs b.0.1 0 s) (λ t. Ok (book_bytes t)) out b.2 in
    let z = h.ends in
    let w = stands_within bs (book_bytes s) 0 h.stands (omega arith) in
    let k = acts_ok bs bytes (length bs) b.0.1 0 s c.0 (omega arith) (omega arith) c.1 in
    let ends = k.ends.0 in
    let all = stands_append bs (book_bytes s) (acts_bytes k.acts) 0 h.stands (subst (λ m. Stands bs m (acts_bytes k.acts)) (let y : b.0.1 ≡ 0 + length (book_bytes s) = omega arith in y) k.stands) in
    record {
      start = s;
      acts = k.acts;
      bookable = h.bookable;
      readable = k.readable;
      applicable = k.may;
      room = k.room h.bookable.few;
      reads = stands_whole bs (book_bytes s ++ acts_bytes k.acts) all (let g = length-append (book_bytes s) (acts_bytes k.acts) in omega arith);
      writes = sym (ok_same (book_bytes c.0) out c.2) ∙ ap book_bytes k.ends.1;
    }

pub plays_replay : PlaysReplay
unfolding replayed
plays_replay bs out p =
    let s = p.start in
    let book = book_bytes s in
    let acts = acts_bytes p.acts in
    let all : Stands bs 0 (book ++ acts) = subst (λ x. Stands x 0 (book ++ acts)) (append-nil (book ++ acts) ∙ sym p.reads) (stands_in [] (book ++ acts) []) in
    let long : length bs ≡ length book + length acts = ap length p.reads ∙ length-append book acts in
    onward_on (s, length book) (λ x. onward (acts_at (length bs) bs x.1 0 x.0) λ t. Ok (book_bytes t)) (book_read bs s p.bookable (stands_left bs book acts 0 all))
    (onward_on (after s p.acts) (λ t. Ok (book_bytes t))
    (acts_play bs p.acts (length book) 0 s (subst (λ m. Stands bs m acts) (omega arith) (stands_right bs book acts 0 all)) (omega arith) p.readable p.applicable p.room (omega arith))
    (ap (λ x. Ok x) (sym p.writes)))

-- Where a refused input went wrong: in its book, or at an act after some that were done.
stands_same : (k : ℕ) (bs cs xs : List ℕ) → Same k bs cs → length xs ≤ k → Stands bs 0 xs → Stands cs 0 xs
stands_same k bs cs xs s l h = part_stands cs xs 0 (sym (part_same k bs cs s 0 (length xs) (omega arith)) ∙ stands_part bs xs 0 h)

-- The input begins with a book and acts that may be done, and goes on.
pub record Begun (bs : List ℕ) (s : State) (acts : List Rule) : Type 0 where
  pub bookable : Bookable s
  pub readable : Readable s acts
  pub may : T (all_applicable s acts)
  pub room : (after s acts).size < 256
  pub stands : Stands bs 0 (book_bytes s ++ acts_bytes acts)
  pub there : length (book_bytes s ++ acts_bytes acts) < length bs

-- There an act that fails is the answer.
pub begun_fails : (bs : List ℕ) (s : State) (acts : List Rule) (f : Fault) → Begun bs s acts → performed_at bs (length (book_bytes s ++ acts_bytes acts)) (length acts) (after s acts) ≡ Err f → replayed bs ≡ Err f
unfolding replayed
begun_fails bs s acts f b e =
    let book = book_bytes s in
    let there = b.there in
    let g = length-append book (acts_bytes acts) in
    onward_on (s, length book) (λ x. onward (acts_at (length bs) bs x.1 0 x.0) λ t. Ok (book_bytes t)) (book_read bs s b.bookable (stands_left bs book (acts_bytes acts) 0 b.stands))
    (ap (λ x. onward x λ t. Ok (book_bytes t))
    (acts_break bs acts (length book) 0 s (subst (λ m. Stands bs m (acts_bytes acts)) (zero-add (length book)) (stands_right bs book (acts_bytes acts) 0 b.stands)) (omega arith) b.readable b.may b.room f (omega arith)
    (ap₂ (λ x y. performed_at bs x y (after s acts)) (sym g) (zero-add (length acts)) ∙ e)))

pub begun_same : (k : ℕ) (bs cs : List ℕ) (s : State) (acts : List Rule) → Same k bs cs → length (book_bytes s ++ acts_bytes acts) < k → Begun bs s acts → Begun cs s acts
begun_same k bs cs s acts same l b =
    let r = same.right in
    record { bookable = b.bookable; readable = b.readable; may = b.may; room = b.room; stands = stands_same k bs cs (book_bytes s ++ acts_bytes acts) same (omega arith) b.stands; there = omega arith }

-- After this book and these acts the next act fails.
pub record Broken (bs : List ℕ) (f : Fault) : Type 0 where
  pub start : State
  pub acts : List Rule
  pub begun : Begun bs start acts
  pub fails : performed_at bs (length (book_bytes start ++ acts_bytes acts)) (length acts) (after start acts) ≡ Err f

pub broken : (bs : List ℕ) → AreBytes bs → (f : Fault) → replayed bs ≡ Err f → (book_at bs ≡ Err f) ⊎ Broken bs f
unfolding replayed
broken bs bytes f e =
    elim (onward_err (book_at bs) (λ x. onward (acts_at (length bs) bs x.1 0 x.0) λ t. Ok (book_bytes t)) f e) [
      | inl b ↦ inl b
      | inr b ↦ elim (onward_err (acts_at (length bs) bs b.0.1 0 b.0.0) (λ t. Ok (book_bytes t)) f b.2) [
        | inl a ↦ inr (found b.0.0 b.0.1 b.1 a)
        | inr a ↦ never_err (book_bytes a.0) f a.2
      ]
    ]
  where
    found : (s : State) (at : ℕ) → book_at bs ≡ Ok (s, at) → acts_at (length bs) bs at 0 s ≡ Err f → Broken bs f
    found s at e a =
        let h = book_ok bs bytes (s, at) e in
        let z = h.ends in
        let w = stands_within bs (book_bytes s) 0 h.stands (omega arith) in
        let k = acts_broken bs bytes (length bs) at 0 s f (omega arith) (omega arith) a in
        let there = k.ends.0 in
        let g = length-append (book_bytes s) (acts_bytes k.acts) in
        let ends : length (book_bytes s ++ acts_bytes k.acts) ≡ at + length (acts_bytes k.acts) = omega arith in
        record {
          start = s;
          acts = k.acts;
          begun =
              record {
                bookable = h.bookable;
                readable = k.readable;
                may = k.may;
                room = k.room h.bookable.few;
                stands = stands_append bs (book_bytes s) (acts_bytes k.acts) 0 h.stands (subst (λ m. Stands bs m (acts_bytes k.acts)) (let y : at ≡ 0 + length (book_bytes s) = omega arith in y) k.stands);
                there = omega arith;
              };
          fails = ap₂ (λ x y. performed_at bs x y (after s k.acts)) ends (sym (zero-add (length k.acts))) ∙ k.ends.1;
        }
