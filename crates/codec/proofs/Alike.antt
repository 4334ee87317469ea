-- Books and acts are read alike from inputs that begin alike.
use Rattle.std.proofs.Common.{◌≡◌, ℕ, zero, suc, ◌+◌, ◌-◌, ◌*◌, ◌^◌, true, false, ◌&&◌, eqb, ltb, leb, List, length, get_or, Ok, Err, ap, inl, inr, arith}
use Rattle.std.proofs.lemmas.Bool.{cases_lt, ltb-true}
use Rattle.codec.proofs.Inverted.{cond_ok}
use Rattle.bits.specs.Sets.{in_bytes}
use Rattle.model.specs.State.{State}
use Rattle.model.specs.Rules.{given}
use Rattle.model.specs.declared.Rule.TheVariants.{Take, Grant, Create, Remove}
use Rattle.graph.specs.Graphs.{bare}
use Rattle.model.specs.declared.Held.{Held}
use Rattle.codec.specs.declared.book.Layout.{Layout}
use Rattle.codec.specs.declared.book.Layout.TheVariants.{Narrow, Wide}
use Rattle.codec.specs.declared.fault.Fault.TheVariants.{UnknownKind, BadFlag, Missing, OutOfRange, NotRising}
use Rattle.codec.specs.Reading.{Read, byte_at, flag_at, count_at}
use Rattle.codec.specs.Acts.{act_at, taking_at, grant_at, create_at, remove_at, transfer_at}
use Rattle.codec.specs.Books.{layout_at, least_size, most_size, size_at, set_width, set_byte_at, end_of_set, subjects_at, held_at, past, first, rights_at, vertices_at, book_at}
use Rattle.codec.proofs.Looked.{Same, part_same, behind, Both, done_both, less_both, test_both, onward_both, then_both, byte_both, byte_then, below_then}
use Rattle.codec.proofs.SetBytes.{set_read-law}

module _ (bs cs : List ℕ) (k : ℕ) (same : Same k bs cs) where
  -- An answer that looks at nothing more.
  answer_both : {A : Type 0} (a : A) (at : ℕ) → Both bs cs k behind at (Ok (a, at)) (Ok (a, at))
  answer_both a at = done_both bs cs k behind at (Ok (a, at)) (omega arith)

  -- Reading on with one byte at least.
  more_both : {A : Type 0} (at : ℕ) (r r' : Read A) → Both bs cs k behind (at + 1) r r' → Both bs cs k behind at r r'
  more_both at r r' h = less_both bs cs k behind at (at + 1) r r' (omega arith) h

  flag_both : (at : ℕ) → Both bs cs k behind (at + 1) (flag_at bs at) (flag_at cs at)
  flag_both at =
      byte_then bs cs k same at _ _ λ b l.
      test_both bs cs k behind (at + 1) (eqb b 0) _ _ _ _ (answer_both false (at + 1)) (test_both bs cs k behind (at + 1) (eqb b 1) _ _ _ _ (answer_both true (at + 1)) (done_both bs cs k behind (at + 1) (Err (BadFlag at)) (omega arith, l)))

  transfer_both : (n at : ℕ) → Both bs cs k behind (at + 1) (transfer_at bs n at) (transfer_at cs n at)
  transfer_both n at =
      below_then bs cs k same at n _ _ λ who _.
      more_both (at + 1) _ _
      (below_then bs cs k same (at + 1) n _ _ λ other _.
      more_both (at + 1 + 1) _ _
      (below_then bs cs k same (at + 1 + 1) 8 _ _ λ right _.
      more_both (at + 1 + 1 + 1) _ _
      (below_then bs cs k same (at + 1 + 1 + 1) n _ _ λ to _. answer_both (record { who = who; other = other; right = right; to = to }) (at + 1 + 1 + 1 + 1))))

  take_both : (n at : ℕ) → Both bs cs k behind at (taking_at bs n at) (taking_at cs n at)
  take_both n at = more_both at _ _ (then_both bs cs k (at + 1) (transfer_at bs n at) (transfer_at cs n at) _ _ (transfer_both n at) λ t next e. answer_both (Take (record { who = t.who; from = t.other; right = t.right; to = t.to })) next)

  grant_both : (n at : ℕ) → Both bs cs k behind at (grant_at bs n at) (grant_at cs n at)
  grant_both n at = more_both at _ _ (then_both bs cs k (at + 1) (transfer_at bs n at) (transfer_at cs n at) _ _ (transfer_both n at) λ t next e. answer_both (Grant (record { who = t.who; into = t.other; right = t.right; to = t.to })) next)

  create_both : (n at : ℕ) → Both bs cs k behind at (create_at bs n at) (create_at cs n at)
  create_both n at =
      more_both at _ _
      (below_then bs cs k same at n _ _ λ who _.
      more_both (at + 1) _ _
      (then_both bs cs k (at + 1 + 1) (flag_at bs (at + 1)) (flag_at cs (at + 1)) _ _ (flag_both (at + 1)) λ subject at2 e.
      more_both at2 _ _ (byte_then bs cs k same at2 _ _ λ rights _. answer_both (Create (record { who = who; subject = subject; rights = rights })) (at2 + 1))))

  remove_both : (n at : ℕ) → Both bs cs k behind at (remove_at bs n at) (remove_at cs n at)
  remove_both n at =
      more_both at _ _
      (below_then bs cs k same at n _ _ λ who _.
      more_both (at + 1) _ _
      (below_then bs cs k same (at + 1) 8 _ _ λ right _.
      more_both (at + 1 + 1) _ _ (below_then bs cs k same (at + 1 + 1) n _ _ λ to _. answer_both (Remove (record { who = who; right = right; to = to })) (at + 1 + 1 + 1))))

  pub act_both : (n at : ℕ) → Both bs cs k behind (at + 1) (act_at bs n at) (act_at cs n at)
  act_both n at =
      byte_then bs cs k same at _ _ λ kind l.
      test_both bs cs k behind (at + 1) (eqb kind 2) _ _ _ _ (take_both n (at + 1))
      (test_both bs cs k behind (at + 1) (eqb kind 3) _ _ _ _ (grant_both n (at + 1))
      (test_both bs cs k behind (at + 1) (eqb kind 4) _ _ _ _ (create_both n (at + 1))
      (test_both bs cs k behind (at + 1) (eqb kind 5) _ _ _ _ (remove_both n (at + 1)) (done_both bs cs k behind (at + 1) (Err (UnknownKind at)) (omega arith, l)))))

  -- The parts of a book.
  layout_both : (at : ℕ) → Both bs cs k behind (at + 1) (layout_at bs at) (layout_at cs at)
  layout_both at =
      byte_then bs cs k same at _ _ λ kind l.
      test_both bs cs k behind (at + 1) (eqb kind 1) _ _ _ _ (answer_both Narrow (at + 1))
      (test_both bs cs k behind (at + 1) (eqb kind 7) _ _ _ _ (answer_both Wide (at + 1)) (done_both bs cs k behind (at + 1) (Err (UnknownKind at)) (omega arith, l)))

  size_both : (l : Layout) (at : ℕ) → Both bs cs k behind (at + 1) (size_at bs l at) (size_at cs l at)
  size_both l at =
      byte_then bs cs k same at _ _ λ n h.
      test_both bs cs k behind (at + 1) (leb (least_size l) n && leb n (most_size l)) _ _ _ _ (answer_both n (at + 1)) (done_both bs cs k behind (at + 1) (Err (OutOfRange at)) (omega arith, h))

  abbrev here : ℕ → ℕ
  here n = n

  set_byte_both : (n w at : ℕ) → Both bs cs k here (at + 1) (set_byte_at bs n w at) (set_byte_at cs n w at)
  set_byte_both n w at =
      onward_both bs cs k behind here (at + 1) (byte_at bs at) (byte_at cs at) _ _ (byte_both bs cs k same at) λ b e.
      let q = cond_ok (ltb at (length bs)) (get_or bs at 0, at + 1) b (Missing (length bs)) e in
      let next : at + 1 ≡ b.1 = ap (λ (x : ℕ × ℕ). x.1) q.1 in
      test_both bs cs k here b.1 (ltb b.0 (2 ^ (n - 8 * w))) _ _ _ _ (done_both bs cs k here b.1 (Ok b.1) (omega arith)) (done_both bs cs k here b.1 (Err (OutOfRange at)) (omega arith, ltb-true at (length bs) q.0))

  set_end_both : (n w at : ℕ) → Both bs cs k here at (end_of_set bs n w at) (end_of_set cs n w at)
  unfolding end_of_set
  set_end_both n zero at = done_both bs cs k here at (Ok at) (omega arith)
  set_end_both n (suc w) at =
      less_both bs cs k here at (at + 1) _ _ (omega arith)
      (onward_both bs cs k here here (at + 1) (set_byte_at bs n w at) (set_byte_at cs n w at) (end_of_set bs n w) (end_of_set cs n w) (set_byte_both n w at) λ next e. set_end_both n w next)

  subjects_both : (n w at : ℕ) → Both bs cs k behind at (subjects_at bs n w at) (subjects_at cs n w at)
  subjects_both n w at =
      onward_both bs cs k here behind at (end_of_set bs n w at) (end_of_set cs n w at) _ _ (set_end_both n w at) λ next e.
      record {
        past = omega arith;
        alike = elim (cases_lt k next) [
          | inl l ↦ inr (omega arith)
          | inr l ↦ inl (ap (λ x. Ok (in_bytes x, next)) (part_same k bs cs same at w (let a = (set_read-law bs n w at next e).after in omega arith)))
        ];
      }

  count_both : (at : ℕ) → Both bs cs k behind (at + 1) (count_at bs at) (count_at cs at)
  count_both at = byte_then bs cs k same at _ _ λ high _. more_both (at + 1) _ _ (byte_then bs cs k same (at + 1) _ _ λ low _. answer_both (256 * high + low) (at + 1 + 1))

  held_both : (n : ℕ) (least : Held) (at : ℕ) → Both bs cs k behind (at + 1) (held_at bs n least at) (held_at cs n least at)
  held_both n least at =
      below_then bs cs k same at 8 _ _ λ r l.
      test_both bs cs k behind (at + 1) (ltb r least.right) _ _ _ _ (done_both bs cs k behind (at + 1) (Err (NotRising at)) (omega arith, l))
      (more_both (at + 1) _ _
      (below_then bs cs k same (at + 1) n _ _ λ q h.
      test_both bs cs k behind (at + 1 + 1) (eqb r least.right && ltb q least.to) _ _ _ _ (done_both bs cs k behind (at + 1 + 1) (Err (NotRising (at + 1))) (omega arith, h)) (answer_both (record { right = r; to = q }) (at + 1 + 1))))

  rights_both : (n p count : ℕ) (least : Held) (at : ℕ) (s : State) → Both bs cs k behind at (rights_at bs n p count least at s) (rights_at cs n p count least at s)
  unfolding rights_at
  rights_both n p zero least at s = answer_both s at
  rights_both n p (suc count) least at s =
      more_both at _ _ (then_both bs cs k (at + 1) (held_at bs n least at) (held_at cs n least at) _ _ (held_both n least at) λ h next e. rights_both n p count (past h) next (given p h.right h.to s))

  vertices_both : (n p m at : ℕ) (s : State) → Both bs cs k behind at (vertices_at bs n p m at s) (vertices_at cs n p m at s)
  unfolding vertices_at
  vertices_both n p zero at s = answer_both s at
  vertices_both n p (suc m) at s =
      more_both at _ _
      (then_both bs cs k (at + 1) (count_at bs at) (count_at cs at) _ _ (count_both at) λ count next e.
      then_both bs cs k next (rights_at bs n p count first next s) (rights_at cs n p count first next s) _ _ (rights_both n p count first next s) λ t after e. vertices_both n (p + 1) m after t)

  pub book_both : Both bs cs k behind 1 (book_at bs) (book_at cs)
  unfolding book_at
  book_both =
      then_both bs cs k 1 (layout_at bs 0) (layout_at cs 0) _ _ (layout_both 0) λ l at1 e.
      more_both at1 _ _
      (then_both bs cs k (at1 + 1) (size_at bs l at1) (size_at cs l at1) _ _ (size_both l at1) λ n at2 e.
      then_both bs cs k at2 (subjects_at bs n (set_width l) at2) (subjects_at cs n (set_width l) at2) _ _ (subjects_both n (set_width l) at2) λ subjects at3 e. vertices_both n 0 n at3 (bare n subjects))
