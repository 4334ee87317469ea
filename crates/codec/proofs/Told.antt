-- The fault that is told is the first one, and what lies behind its place does not count.
use Rattle.std.proofs.Common.{◌≡◌, ℕ, ◌+◌, ◌-◌, ◌<◌, ◌≤◌, List, [], ◌++◌, length, take, drop, Ok, Err, sym, refl, ap, ◌∙◌, subst, inl, inr, append_assoc, zero-add, arith}
use Rattle.std.proofs.lemmas.Bool.{cases_lt}
use Rattle.std.proofs.lemmas.List.{get_or_append_left, get_or-append_right, take-append-le, length-append, length-take}
use Rattle.model.specs.State.{State}
use Rattle.model.specs.Rules.{after}
use Rattle.model.specs.declared.Rule.{Rule}
use Rattle.codec.specs.declared.fault.Fault.{Fault}
use Rattle.codec.specs.declared.fault.Fault.TheVariants.{UnknownKind, BadFlag, Missing, OutOfRange, NotRising, NotApplicable, Full}
use Rattle.codec.specs.Reading.{Read, onward}
use Rattle.codec.specs.Acts.{act_at, act_bytes}
use Rattle.codec.specs.Books.{book_at}
use Rattle.codec.specs.Faults.{fault_place}
use Rattle.codec.specs.Played.{acts_bytes}
use Rattle.codec.specs.Replay.{performed, acts_at, replayed}
use Rattle.codec.specs.RoundTrips.{AreBytes}
use Rattle.codec.specs.Told.{FirstAt, AtByte, Unfinished, Stopped, MayNot, NoRoom, Told, FaultsTold, StopsTold}
use Rattle.codec.specs.Writing.{book_bytes}
use Rattle.codec.proofs.Inverted.{err_same, never_err, onward_err, onward_on}
use Rattle.codec.proofs.Stands.{Stands, stands_append, stands_in, stands_at_front}
use Rattle.codec.proofs.ActBytes.{act_read, act_ok}
use Rattle.codec.proofs.Performed.{performed_not, performed_full, performed_err}
use Rattle.codec.proofs.RoundTrips.{some_bytes}
use Rattle.codec.proofs.Played.{Begun, begun_fails, begun_same, Broken, broken}
use Rattle.codec.proofs.Looked.{Same, Later, Past, behind, Both}
use Rattle.codec.proofs.Alike.{act_both, book_both}

-- A fault told at a byte of the input lies within it, and none lies behind itself.
later_place : (bs : List ℕ) (j : ℕ) (f : Fault) → Later bs j f → fault_place f + 1 ≤ length bs → j ≤ fault_place f + 1
later_place bs j (UnknownKind at) h l = h.0
later_place bs j (BadFlag at) h l = h.0
later_place bs j (Missing n) h l = absurd (omega arith)
later_place bs j (OutOfRange at) h l = h.0
later_place bs j (NotRising at) h l = h.0
later_place bs j (NotApplicable act) h l = absurd h
later_place bs j (Full act) h l = absurd h

-- Two inputs that are alike up to the fault's place have the same fault.
same_fault : {A : Type 0} (bs cs : List ℕ) (j : ℕ) (f : Fault) (r r' : Read A) → Same (fault_place f + 1) bs cs → Both bs cs (fault_place f + 1) behind j r r' → r ≡ Err f → r' ≡ Err f
same_fault bs cs j f r r' s b e =
    elim b.alike [
      | inl z ↦ sym z ∙ e
      | inr l ↦ absurd (let h = later_place bs (fault_place f + 1 + 1) f (subst (Past behind bs (fault_place f + 1 + 1)) e l) s.left in omega arith)
    ]

-- What is told of a fault by itself.
abbrev First : List ℕ → Fault → Type 0
First bs (UnknownKind at) = FirstAt bs at (UnknownKind at)
First bs (BadFlag at) = FirstAt bs at (BadFlag at)
First bs (Missing n) = n ≡ length bs
First bs (OutOfRange at) = FirstAt bs at (OutOfRange at)
First bs (NotRising at) = FirstAt bs at (NotRising at)
First bs (NotApplicable act) = Stopped bs act MayNot
First bs (Full act) = Stopped bs act NoRoom

-- A fault of reading, told by what all inputs that begin alike answer.
take_same : (at : ℕ) (bs cs : List ℕ) → at < length bs → take (at + 1) cs ≡ take (at + 1) bs → Same (at + 1) bs cs
take_same at bs cs l e = let a = ap length e in let b = length-take (at + 1) cs in let c = length-take (at + 1) bs in record { left = omega arith; right = omega arith; alike = sym e }

told_reading : (bs : List ℕ) (j : ℕ) (f : Fault) → Later bs j f → ((cs : List ℕ) → Same (fault_place f + 1) bs cs → replayed cs ≡ Err f) → First bs f
told_reading bs j (UnknownKind at) h all = (h.1, λ cs e. all cs (take_same at bs cs h.1 e))
told_reading bs j (BadFlag at) h all = (h.1, λ cs e. all cs (take_same at bs cs h.1 e))
told_reading bs j (Missing n) h all = h
told_reading bs j (OutOfRange at) h all = (h.1, λ cs e. all cs (take_same at bs cs h.1 e))
told_reading bs j (NotRising at) h all = (h.1, λ cs e. all cs (take_same at bs cs h.1 e))
told_reading bs j (NotApplicable act) h all = absurd h
told_reading bs j (Full act) h all = absurd h

-- An input is alike itself.
itself : (bs : List ℕ) → Same (length bs) bs bs
itself bs = record { left = omega arith; right = omega arith; alike = refl }

book_told : (bs : List ℕ) (f : Fault) → book_at bs ≡ Err f → First bs f
unfolding replayed
book_told bs f e =
    told_reading bs 1 f (subst (Past behind bs 1) e (book_both bs bs (length bs) (itself bs)).past) λ cs same.
    ap (λ x. onward x λ b. onward (acts_at (length cs) cs b.1 0 b.0) λ s. Ok (book_bytes s)) (same_fault bs cs 1 f (book_at bs) (book_at cs) same (book_both bs cs (fault_place f + 1) same) e)

act_told : (bs : List ℕ) (f : Fault) (s : State) (acts : List Rule) → Begun bs s acts → act_at bs (after s acts).size (length (book_bytes s ++ acts_bytes acts)) ≡ Err f → First bs f
act_told bs f s acts b e =
    let at : ℕ = length (book_bytes s ++ acts_bytes acts) in
    let n = (after s acts).size in
    let later : Later bs (at + 1) f = subst (Past behind bs (at + 1)) e (act_both bs bs (length bs) (itself bs) n at).past in
    told_reading bs (at + 1) f later λ cs same.
    let l = later_place bs (at + 1) f later same.left in
    begun_fails cs s acts f (begun_same (fault_place f + 1) bs cs s acts same (omega arith) b)
    (ap (λ x. onward x λ a. onward (performed (after s acts) a.0 (length acts)) λ t. Ok (t, a.1)) (same_fault bs cs (at + 1) f (act_at bs n at) (act_at cs n at) same (act_both bs cs (fault_place f + 1) same n at) e))

-- An act that was read and not done.
stopped : (bs : List ℕ) → AreBytes bs → (s : State) (acts : List Rule) → Begun bs s acts → (r : Rule × ℕ) → act_at bs (after s acts).size (length (book_bytes s ++ acts_bytes acts)) ≡ Ok r → (Why : State → Rule → Type 0) → Why (after s acts) r.0 → Stopped bs (length acts) Why
stopped bs bytes s acts b r e Why why =
    let front = book_bytes s ++ acts_bytes acts in
    let h = act_ok bs bytes (after s acts).size (length front) r e in
    let all = stands_append bs front (act_bytes r.0) 0 b.stands (subst (λ m. Stands bs m (act_bytes r.0)) (sym (zero-add (length front))) h.stands) in
    let rest = drop (length (front ++ act_bytes r.0)) bs in
    record {
      start = s;
      acts = acts;
      act = r.0;
      rest = rest;
      bookable = b.bookable;
      readable = b.readable;
      applicable = b.may;
      room = b.room;
      number = refl;
      range = h.range;
      why = why;
      reads = stands_at_front bs (front ++ act_bytes r.0) all ∙ (append_assoc front (act_bytes r.0) rest ∙ append_assoc (book_bytes s) (acts_bytes acts) (act_bytes r.0 ++ rest));
    }

broken_told : (bs : List ℕ) → AreBytes bs → (f : Fault) → Broken bs f → First bs f
broken_told bs bytes f b =
    let s = b.start in
    let acts = b.acts in
    let t = after s acts in
    elim (onward_err (act_at bs t.size (length (book_bytes s ++ acts_bytes acts))) (λ a. onward (performed t a.0 (length acts)) λ u. Ok (u, a.1)) f b.fails) [
      | inl e ↦ act_told bs f s acts b.begun e
      | inr a ↦ elim (onward_err (performed t a.0.0 (length acts)) (λ u. Ok (u, a.0.1)) f a.2) [
        | inr u ↦ never_err (u.0, a.0.1) f u.2
        | inl e ↦ elim (performed_err t a.0.0 (length acts) f e) [
          | inl w ↦ subst (First bs) w.0 (stopped bs bytes s acts b.begun a.0 a.1 MayNot w.1)
          | inr w ↦ subst (First bs) w.0 (stopped bs bytes s acts b.begun a.0 a.1 NoRoom w.1)
        ]
      ]
    ]

first_fault-law : (bs : List ℕ) → AreBytes bs → (f : Fault) → replayed bs ≡ Err f → First bs f
first_fault-law bs bytes f e = elim (broken bs bytes f e) [ inl b ↦ book_told bs f b | inr b ↦ broken_told bs bytes f b ]

-- An input that ends too soon has no fault in it, since that would have been told.
bytes_append : (bs cs : List ℕ) → AreBytes bs → AreBytes cs → AreBytes (bs ++ cs)
bytes_append bs cs h k i =
    elim (cases_lt i (length bs)) [
      | inl l ↦ (let e = get_or_append_left bs cs 0 i l in let b = h i in omega arith)
      | inr l ↦ (let e = get_or-append_right bs cs (length bs) i 0 refl l in let b = k (i - length bs) in omega arith)
    ]

first_at : (bs : List ℕ) (f : Fault) (at : ℕ) → AtByte f at → First bs f → FirstAt bs at f
first_at bs (UnknownKind n) at e h = subst (λ m. FirstAt bs m (UnknownKind n)) e h
first_at bs (BadFlag n) at e h = subst (λ m. FirstAt bs m (BadFlag n)) e h
first_at bs (Missing n) at e h = absurd e
first_at bs (OutOfRange n) at e h = subst (λ m. FirstAt bs m (OutOfRange n)) e h
first_at bs (NotRising n) at e h = subst (λ m. FirstAt bs m (NotRising n)) e h
first_at bs (NotApplicable act) at e h = absurd e
first_at bs (Full act) at e h = absurd e

unfinished : (bs : List ℕ) → AreBytes bs → (n : ℕ) → replayed bs ≡ Err (Missing n) → Unfinished bs
unfinished bs bytes n e more others f at a g =
    elim (cases_lt at (length bs)) [
      | inr l ↦ l
      | inl l ↦
          let h = first_at (bs ++ more) f at a (first_fault-law (bs ++ more) (bytes_append bs more bytes others) f g) in
          let same = h.1 bs (sym (take-append-le (at + 1) bs more (omega arith))) in
          absurd (subst (λ d. AtByte d at) (err_same f (Missing n) (sym same ∙ e)) a)
    ]

pub faults_told : FaultsTold
faults_told bs bytes f e = told f e (first_fault-law bs bytes f e)
  where
    told : (f : Fault) → replayed bs ≡ Err f → First bs f → Told bs f
    told (UnknownKind at) e h = h
    told (BadFlag at) e h = h
    told (Missing n) e h = (h, unfinished bs bytes n e)
    told (OutOfRange at) e h = h
    told (NotRising at) e h = h
    told (NotApplicable act) e h = h
    told (Full act) e h = h

-- And an act that stops the input is told.
module _ (bs : List ℕ) (i : ℕ) (Why : State → Rule → Type 0) (f : Fault) (because : (s : State) (a : Rule) → Why s a → performed s a i ≡ Err f) where
  stop_told : Stopped bs i Why → replayed bs ≡ Err f
  stop_told p =
      let s = p.start in
      let acts = p.acts in
      let front = book_bytes s ++ acts_bytes acts in
      let act = act_bytes p.act in
      let form : bs ≡ front ++ (act ++ p.rest) = p.reads ∙ sym (append_assoc (book_bytes s) (acts_bytes acts) (act ++ p.rest)) in
      let h : Stands bs 0 front = subst (λ x. Stands x 0 front) (sym form) (stands_in [] front (act ++ p.rest)) in
      let k : Stands bs (length front) act = subst (λ x. Stands x (length front) act) (sym form) (stands_in front act p.rest) in
      let long : length bs ≡ length front + length (act ++ p.rest) = ap length form ∙ length-append front (act ++ p.rest) in
      let more = length-append act p.rest in
      let some = some_bytes p.act in
      begun_fails bs s acts f (record { bookable = p.bookable; readable = p.readable; may = p.applicable; room = p.room; stands = h; there = omega arith })
      (onward_on (p.act, length front + length act) (λ a. onward (performed (after s acts) a.0 (length acts)) λ t. Ok (t, a.1)) (act_read bs (after s acts).size p.act (length front) p.range k)
      (ap (λ x. onward x λ t. Ok (t, length front + length act)) (ap (performed (after s acts) p.act) p.number ∙ because (after s acts) p.act p.why)))

pub stops_told : StopsTold
stops_told bs i = (stop_told bs i MayNot (NotApplicable i) (λ s a. performed_not s a i), stop_told bs i NoRoom (Full i) (λ s a. performed_full s a i))
