-- What an input that was read through says: the history that stands in its bytes, and that each question is decided.
use Rattle.std.proofs.Common.{◌≡◌, ℕ, zero, suc, ◌+◌, ◌<◌, ◌≤◌, eqb, ltb, leb, List, [], ◌∷◌, ◌++◌, length, get_or, Ok, sym, ap, ◌∙◌, subst, inl, inr, add-zero, arith}
use Rattle.std.proofs.lemmas.List.{length-append}
use Rattle.std.proofs.lemmas.List.Elements.{All-nil, All-cons}
use Rattle.std.specs.List.{All}
use Rattle.std.proofs.lemmas.Bool.{eqb-true, ltb-false, leb-true}
use Rattle.model.specs.State.{State, WellFormed}
use Rattle.model.specs.declared.Rule.{Rule}
use Rattle.model.proofs.Steps.{applied_well}
use Rattle.model.specs.declared.Question.{Question}
use Rattle.codec.specs.Acts.{act_bytes}
use Rattle.codec.specs.Books.{book_at}
use Rattle.codec.specs.Questions.{narrow_book_at}
use Rattle.codec.specs.Reading.{onward}
use Rattle.codec.specs.Replay.{performed_at}
use Rattle.codec.specs.RoundTrips.{AreBytes}
use Rattle.codec.specs.Writing.{book_bytes}
use Rattle.codec.proofs.ActBytes.{ActStood}
use Rattle.codec.proofs.BookBytes.{book_ok}
use Rattle.codec.proofs.Inverted.{passed, Byte, ok_same, onward_ok, cond_ways, byte_ok, below_ok}
use Rattle.codec.proofs.Performed.{DoneWell}
use Rattle.codec.proofs.RoundTrips.{some_bytes}
use Rattle.codec.proofs.Running.{done_act}
use Rattle.codec.proofs.Stands.{Stands, stands_append, stands_within, stands_whole}
use Rattle.answers.proofs.Within.{decided_so, shown}
use Rattle.history.specs.Events.{Event, act, ask, question_bytes, events_bytes, Askable, Goes, questions_in}
use Rattle.history.specs.Posed.{Posed, posed_question_at, posed_at, posed}
use Rattle.history.specs.Promised.{DecidedThen, ShownThen, Told}

-- A question that was read stands in the bytes.
pub record QuestionStood (bs : List ℕ) (s : State) (at : ℕ) (q : Question) (next : ℕ) : Type 0 where
  pub askable : Askable s q
  pub stands : Stands bs at (question_bytes q)
  pub ends : next ≡ at + 4

pub record Sound (p : Posed) : Type 0 where
  pub formed : WellFormed p.about
  pub askable : Askable p.about p.question

module _ (bs : List ℕ) where
  pub question_ok : (s : State) (at : ℕ) (q : Question) (next : ℕ) → posed_question_at bs at s.size ≡ Ok (q, next) → QuestionStood bs s at q next
  question_ok s at q next e =
      let few = passed (leb s.size 128) _ _ (q, next) e in
      let k = byte_ok bs at _ (q, next) few.1 in
      let six = passed (eqb k.0 6) _ _ (q, next) k.2 in
      let x = below_ok bs (at + 1) s.size _ (q, next) six.1 in
      let r = below_ok bs (at + 1 + 1) 8 _ (q, next) x.3 in
      let y = below_ok bs (at + 1 + 1 + 1) s.size _ (q, next) r.3 in
      subst (λ (p : Question × ℕ). QuestionStood bs s at p.0 p.1) (ok_same _ (q, next) y.3)
      (record {
        askable = record { few = leb-true s.size 128 few.0; holder = x.2; right = r.2; target = y.2 };
        stands = (subst (Byte bs at) (eqb-true k.0 6 six.0) k.1, (x.1, (r.1, (y.1, tt))));
        ends = omega arith;
      })

  -- What is left of the input from an offset on is a history that goes through.
  pub record Stood (at : ℕ) (s : State) (ps : List Posed) : Type 0 where
    pub events : List Event
    pub goes : Goes s events
    pub stands : Stands bs at (events_bytes events)
    pub ends : at + length (events_bytes events) ≡ length bs
    pub asks : ps ≡ questions_in s events
    pub each : All Sound ps

  no_event : (at : ℕ) (s : State) (ps : List Posed) → at ≡ length bs → [] ≡ ps → Stood at s ps
  unfolding Goes questions_in
  no_event at s ps l e =
      record { events = []; goes = tt; stands = tt; ends = add-zero at ∙ l; asks = sym e; each = subst (All Sound) e (All-nil Sound) }

  one_question : (at : ℕ) (s : State) (q : Question) (next : ℕ) (ps : List Posed) → WellFormed s → QuestionStood bs s at q next → Stood next s ps → Stood at s (record { about = s; question = q } ∷ ps)
  unfolding Goes questions_in
  one_question at s q next ps wf h k =
      let z = h.ends in
      let ends = k.ends in
      let g = length-append (question_bytes q) (events_bytes k.events) in
      record {
        events = ask q ∷ k.events;
        goes = (h.askable, k.goes);
        stands = stands_append bs (question_bytes q) (events_bytes k.events) at h.stands (subst (λ m. Stands bs m (events_bytes k.events)) z k.stands);
        ends = omega arith;
        asks = ap (λ more. record { about = s; question = q } ∷ more) k.asks;
        each = All-cons Sound _ ps (record { formed = wf; askable = h.askable }) k.each;
      }

  one_act : (at : ℕ) (s t : State) (a : Rule) (next : ℕ) (ps : List Posed) → s.size < 256 → DoneWell s a t → ActStood bs s.size at a next → Stood next t ps → Stood at s ps
  unfolding Goes questions_in
  one_act at s t a next ps l d h k =
      let z = h.ends in
      let ends = k.ends in
      let g = length-append (act_bytes a) (events_bytes k.events) in
      record {
        events = act a ∷ k.events;
        goes = (record { range = h.range; may = d.may; room = d.room l }, subst (λ u. Goes u k.events) d.result k.goes);
        stands = stands_append bs (act_bytes a) (events_bytes k.events) at h.stands (subst (λ m. Stands bs m (events_bytes k.events)) z k.stands);
        ends = omega arith;
        asks = k.asks ∙ ap (λ u. questions_in u k.events) d.result;
        each = k.each;
      }

  module _ (bytes : AreBytes bs) where
    events_ok : (most at i : ℕ) (s : State) (ps : List Posed) → WellFormed s → s.size < 256 → at ≤ length bs → length bs ≤ at + most → posed_at most bs at i s ≡ Ok ps → Stood at s ps
    unfolding posed_at
    events_ok zero at i s ps wf few l m e = no_event at s ps (omega arith) (ok_same [] ps e)
    events_ok (suc most) at i s ps wf few l m e =
        elim (cond_ways (ltb at (length bs)) _ _ _ e) [
          | inr n ↦ no_event at s ps (let h = ltb-false at (length bs) n.0 in omega arith) (ok_same [] ps n.1)
          | inl y ↦
              elim (cond_ways (eqb (get_or bs at 0) 6) _ _ _ y.1) [
                | inl w ↦
                    let p = onward_ok (posed_question_at bs at s.size) (λ q. onward (posed_at most bs q.1 i s) λ more. Ok (record { about = s; question = q.0 } ∷ more)) ps w.1 in
                    let r = onward_ok (posed_at most bs p.0.1 i s) (λ more. Ok (record { about = s; question = p.0.0 } ∷ more)) ps p.2 in
                    let h = question_ok s at p.0.0 p.0.1 p.1 in
                    let z = h.ends in
                    let k = stands_within bs (question_bytes p.0.0) at h.stands l in
                    subst (Stood at s) (ok_same _ ps r.2)
                    (one_question at s p.0.0 p.0.1 r.0 wf h (events_ok most p.0.1 i s r.0 wf few (omega arith) (omega arith) r.1))
                | inr w ↦
                    let p = onward_ok (performed_at bs at i s) (λ t. posed_at most bs t.1 (i + 1) t.0) ps w.1 in
                    let d = done_act bs bytes at i s p.0 p.1 in
                    let h = d.2 in
                    let z = h.ends in
                    let b = some_bytes d.0 in
                    let k = stands_within bs (act_bytes d.0) at h.stands l in
                    one_act at s p.0.0 d.0 p.0.1 ps few d.1 h
                    (events_ok most p.0.1 (i + 1) p.0.0 ps (subst WellFormed (sym d.1.result) (applied_well s d.0 d.1.may wf))
                    (subst (λ u. u.size < 256) (sym d.1.result) (d.1.room few)) (omega arith) (omega arith) p.2)
              ]
        ]

    -- The whole input.
    pub record Heard (ps : List Posed) : Type 0 where
      pub told : Told bs ps
      pub each : All Sound ps

    pub heard : (ps : List Posed) → posed bs ≡ Ok ps → Heard ps
    unfolding posed
    heard ps e =
        let b = onward_ok (narrow_book_at bs) (λ x. posed_at (length bs) bs x.1 0 x.0) ps e in
        let k = byte_ok bs 0 _ b.0 b.1 in
        let one = passed (eqb k.0 1) _ _ b.0 k.2 in
        whole b.0.0 b.0.1 (k.1.is ∙ eqb-true k.0 1 one.0) one.1 b.2
      where
        whole : (s : State) (at : ℕ) → get_or bs 0 0 ≡ 1 → book_at bs ≡ Ok (s, at) → posed_at (length bs) bs at 0 s ≡ Ok ps → Heard ps
        whole s at one g f =
            let h = book_ok bs bytes (s, at) g in
            let z = h.ends in
            let w = stands_within bs (book_bytes s) 0 h.stands (omega arith) in
            let k = events_ok (length bs) at 0 s ps h.bookable.formed h.bookable.few (omega arith) (omega arith) f in
            let ends = k.ends in
            let all = stands_append bs (book_bytes s) (events_bytes k.events) 0 h.stands (subst (λ m. Stands bs m (events_bytes k.events)) (let y : at ≡ 0 + length (book_bytes s) = omega arith in y) k.stands) in
            record {
              told =
                  record {
                    start = s;
                    events = k.events;
                    bookable = h.bookable;
                    narrow = one;
                    goes = k.goes;
                    bytes = stands_whole bs (book_bytes s ++ events_bytes k.events) all (let y = length-append (book_bytes s) (events_bytes k.events) in omega arith);
                    asks = k.asks;
                  };
              each = k.each;
            }

pub sound_decided : (p : Posed) → Sound p → DecidedThen p
sound_decided p h = decided_so p.about h.formed p.question (record { holder = h.askable.holder; target = h.askable.target })

pub sound_shown : (p : Posed) → Sound p → ShownThen p
sound_shown p h = shown p.about h.formed p.question (record { holder = h.askable.holder; target = h.askable.target })
