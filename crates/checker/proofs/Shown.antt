-- An input is let through exactly if it is right, and a right certificate shows that the right never comes about.
use Rattle.std.proofs.Common.{◌≡◌, ℕ, ◌≤◌, true, cond, eqb, ltb, List, length, Some, None, Ok, Err, Option, sym, refl, ap, ◌∙◌, subst, inl, inr, arith}
use lib.Dec.{eqb_refl}
use Rattle.std.proofs.lemmas.Bool.{eqb-true, ltb-false, le-ltb, cond-false, cond-true}
use Rattle.model.specs.State.{State, WellFormed}
use Rattle.model.specs.Bounded.{only}
use Rattle.model.specs.Rules.{after}
use Rattle.model.specs.Promise.{longest_witness_len}
use Rattle.model.proofs.Tests.{is_true, from_true}
use Rattle.model.proofs.Laws.{right_shows_never}
use Rattle.graph.specs.Graphs.{state}
use Rattle.graph.specs.declared.graph.Graph.{Graph}
use Rattle.graph.proofs.Sound.{well_formed-law, few_vertices}
use Rattle.codec.specs.Reading.{Read, byte_at}
use Rattle.codec.specs.Questions.{narrow_book_at, question_at}
use Rattle.checker.specs.Reading.{Checked, certificate_at, length_at, rules_at, end_at}
use Rattle.checker.specs.Checked.{has_asked, verdict, certificate_checked, witness_checked, answer_checked, checked}
use Rattle.checker.specs.Right.{Asked, RightWitness, RightCertificate, RightInput, NeverHas}
use Rattle.checker.specs.declared.fault.CheckFault.{CheckFault}
use Rattle.checker.specs.declared.fault.CheckFault.TheVariants.{Input}
use Rattle.codec.specs.declared.fault.Fault.TheVariants.{UnknownKind}
use Rattle.codec.specs.declared.fault.Fault.{Fault}
use Rattle.checker.proofs.Exact.{none_right, right_none}
use Rattle.checker.proofs.Performed.{rules_performed, performed_rules}
use Rattle.codec.proofs.Inverted.{ok_same, passed, refused_not}
use Rattle.checker.proofs.Ways.{reading_ok, checking_ok, one_of, reading_on, checking_on, question_there}

-- What is known of the state of a book that was read.
pub record Opened (s : State) : Type 0 where
  pub formed : WellFormed s
  pub few : s.size ≤ 255

pub opened_none : (bs : List ℕ) (f : Fault) → ◌≡◌ {A = Read State} (Err f) (narrow_book_at bs) → (s : State) (at : ℕ) → narrow_book_at bs ≡ Ok (s, at) → Opened s
opened_none bs f none s at e = cc

pub opened_graph : (bs : List ℕ) (g : Graph) (behind : ℕ) → ◌≡◌ {A = Read State} (Ok (state g, behind)) (narrow_book_at bs) → (s : State) (at : ℕ) → narrow_book_at bs ≡ Ok (s, at) → Opened s
opened_graph bs g behind read s at e =
    let few = few_vertices g in
    subst (λ (p : State × ℕ). Opened p.0) (ok_same (state g, behind) (s, at) (read ∙ e)) (record { formed = well_formed-law g; few = omega arith })

no_fault : (o : Option CheckFault) → verdict o ≡ Ok tt → o ≡ None
no_fault None e = refl
no_fault (Some f) e = cc

module _ (bs : List ℕ) (opened : (s : State) (at : ℕ) → narrow_book_at bs ≡ Ok (s, at) → Opened s) where
  witness_right : (a : Asked bs 16) → witness_checked bs a.book a.question a.body ≡ Ok tt → RightWitness bs
  witness_right a e =
      let l = reading_ok (length_at bs a.body) _ tt e in
      let m = refused_not (ltb (longest_witness_len a.book.size) l.0.0) _ _ tt l.2 in
      let t = reading_ok (rules_at l.0.0 bs l.0.1 0 a.book) _ tt m.1 in
      let f = checking_ok (end_at bs t.0.1) _ tt t.2 in
      let h = passed (has_asked a.question t.0.0) _ _ tt f.2 in
      let w = rules_performed l.0.0 bs l.0.1 0 a.book t.0.0 t.0.1 (opened _ _ a.opens).few t.1 in
      record {
        asked = a;
        rules = w.rules;
        first = l.0.1;
        end = t.0.1;
        counted = l.1 ∙ ap (λ n. Ok (n, l.0.1)) (sym w.many);
        listed = w.listed;
        whole = ltb-false _ _ (refused_not (ltb t.0.1 (length bs)) _ _ _ f.1).0;
        short = subst (λ n. n ≤ longest_witness_len a.book.size) (sym w.many) (ltb-false _ _ m.0);
        applicable = w.applicable;
        room = w.room;
        brings = from_true _ (ap (has_asked a.question) w.is ∙ h.0);
      }

  certificate_right : (a : Asked bs 17) → certificate_checked bs a.book a.question a.body ≡ Ok tt → RightCertificate bs
  certificate_right a e =
      let c = checking_ok (certificate_at bs a.book.size a.body) _ tt e in
      let f = checking_ok (end_at bs c.0.1) _ tt c.2 in
      record {
        asked = a;
        sets = c.0.0;
        end = c.0.1;
        listed = c.1;
        whole = ltb-false _ _ (refused_not (ltb c.0.1 (length bs)) _ _ _ f.1).0;
        right = none_right a.book _ _ _ c.0.0 (no_fault _ f.2);
      }

  pub input_right : checked bs ≡ Ok tt → RightInput bs
  unfolding checked
  input_right e =
      let b = reading_ok (narrow_book_at bs) _ tt e in
      let q = reading_ok (question_at bs b.0.0.size b.0.1) _ tt b.2 in
      let k = reading_ok (byte_at bs q.0.1) _ tt q.2 in
      let asked : (kind : ℕ) → eqb k.0.0 kind ≡ true → Asked bs kind = λ kind is. record { book = b.0.0; behind = b.0.1; question = q.0.0; start = q.0.1; body = k.0.1; opens = b.1; asks = q.1; answers = k.1 ∙ ap (λ n. Ok (n, k.0.1)) (eqb-true k.0.0 kind is) } in
      elim (one_of (eqb k.0.0 16) (eqb k.0.0 17) _ _ _ tt k.2) [
        | inl h ↦ inl (witness_right (asked 16 h.0) h.1)
        | inr h ↦ inr (certificate_right (asked 17 h.0) h.1)
      ]

  -- And the other way round.
  ends : (end : ℕ) → length bs ≤ end → end_at bs end ≡ Ok tt
  ends end h = cond-false (ltb end (length bs)) _ _ (le-ltb end (length bs) h)

  body_checked : (kind : ℕ) (a : Asked bs kind) → checked bs ≡ cond (eqb kind 16) (witness_checked bs a.book a.question a.body) (cond (eqb kind 17) (certificate_checked bs a.book a.question a.body) (Err (Input (UnknownKind a.start))))
  unfolding checked
  body_checked kind a =
      reading_on (narrow_book_at bs) (λ b. answer_checked bs b.0 b.1) (a.book, a.behind) a.opens ∙
      reading_on (question_at bs a.book.size a.behind) _ (a.question, a.start) a.asks ∙
      reading_on (byte_at bs a.start) _ (kind, a.body) a.answers

  pub right_passes : RightInput bs → checked bs ≡ Ok tt
  right_passes (inl w) =
      let a = w.asked in
      body_checked 16 a ∙
      reading_on (length_at bs a.body) _ (length w.rules, w.first) w.counted ∙
      cond-false (ltb (longest_witness_len a.book.size) (length w.rules)) _ _ (le-ltb _ _ w.short) ∙
      reading_on (rules_at (length w.rules) bs w.first 0 a.book) _ (after a.book w.rules, w.end) (performed_rules w.rules bs w.first 0 a.book w.end w.listed w.applicable w.room) ∙
      checking_on (end_at bs w.end) _ tt (ends w.end w.whole) ∙ cond-true (has_asked a.question (after a.book w.rules)) _ _ (is_true _ w.brings)
  right_passes (inr w) =
      let a = w.asked in
      body_checked 17 a ∙
      checking_on (certificate_at bs a.book.size a.body) _ (w.sets, w.end) w.listed ∙
      checking_on (end_at bs w.end) _ tt (ends w.end w.whole) ∙ ap verdict (right_none a.book _ _ _ w.sets w.right)

  pub certificate_never : (w : RightCertificate bs) → NeverHas w.asked.question w.asked.book
  certificate_never w =
      let a = w.asked in
      let there = question_there bs a.book.size a.behind a.question a.start a.asks in
      (right_shows_never a.book (opened _ _ a.opens).formed (only a.question.holder) a.question.right (only a.question.target) w.sets w.right
      a.question.holder a.question.target there.0 there.1 (eqb_refl a.question.holder) (eqb_refl a.question.target)).never

  -- What a call of `check` says, once its answer is the one that the input asks for.
  abbrev pub Said : Checked (Unit {0}) → Type 0
  Said r =
      record {
        value : r ≡ checked bs;
        sound : r ≡ Ok tt → RightInput bs;
        complete : RightInput bs → r ≡ Ok tt;
        never : (w : RightCertificate bs) → NeverHas w.asked.question w.asked.book;
      }

  pub check_said : (r : Checked (Unit {0})) → r ≡ checked bs → Said r
  check_said r value = record { value = value; sound = λ e. input_right (sym value ∙ e); complete = λ w. value ∙ right_passes w; never = certificate_never }
