use Rattle.std.proofs.Common.{◌≡◌, ℕ, Bool, ◌++◌, drop, vec_items, sym, ap, ◌∙◌, subst, arith}
use mathlib.Core.Path.{fun_ext}
use Rattle.codec.specs.Writing.{Appended}
use Rattle.model.specs.Bounded.{only}
use Rattle.bits.specs.Sets.{holds}
use Rattle.model.specs.Certificates.{Certificate, certificate_of}
use Rattle.witness.specs.Answers.{witness_of, yes_bytes}
use Rattle.witness.specs.Of.{routed}
use Rattle.answers.specs.Lines.{answer_to, line_of}
use Rattle.answers.specs.Records.{no_bytes, record_of}
use Rattle.answers.proofs.Written.{extended_once, kept_so, yes_line, yes_record, no_record, front_of}
use Rattle.answers.proofs.record.Answers.add.Goals as goal

pub returns-in_ok-extend_from_slice-in-Ok : goal.returns-in_ok-extend_from_slice-in-Ok
returns-in_ok-extend_from_slice-in-Ok c =
    let s = routed c.args.routes.now in
    let q = c.args.question in
    let w = c.in-Ok.ensures.value in
    let before = vec_items c.args.self.now.lines in
    record {
      lines = kept_so c.extend_from_slice-in-Ok.result before (vec_items c.extend_from_slice.new.self) (line_of (answer_to s q)) (c.in_ok-extend_from_slice-in-Ok.ensures.items ∙ ap (λ t. before ++ t) (c.line.ensures ∙ sym (yes_line s q w.shared)));
      records =
          extended_once c.extend_from_slice-in-Ok.result (vec_items c.args.self.now.records) (vec_items c.extend_from_slice-in-Ok.new.self) _ (record_of s q)
          c.extend_from_slice-in-Ok.ensures.items
          (front_of (yes_bytes (witness_of s q)) (drop c.in-Ok.n c.args.room.now) c.write_witness.new.out c.in-Ok.n (omega (arith, w.size)) w.bytes ∙ sym (yes_record s q w.shared));
    }

pub returns-in_ok-extend_from_slice-in-Err-Never : goal.returns-in_ok-extend_from_slice-in-Err-Never
returns-in_ok-extend_from_slice-in-Err-Never c =
    let s = routed c.args.routes.now in
    let q = c.args.question in
    let x = q.holder in
    let said = rw c.in-Err-Never.field-0-is at c.in-Err-Never.ensures.value in
    let unshared = said.unshared in
    let before = vec_items c.args.self.now.lines in
    let found = said.round in
    let barrier = c.in-Err-Never.barrier in
    record {
      lines = kept_so c.write_sheet.result before (vec_items c.extend_from_slice-in-Err-Never.new.self) (line_of (answer_to s q)) (c.in_ok-extend_from_slice-in-Err-Never.ensures.items ∙ ap (λ t. before ++ t) (c.line-in-Err-Never.ensures ∙ sym (ap line_of unshared)));
      records =
          subst (Appended c.write_sheet.result (vec_items c.args.self.now.records) (vec_items c.write_sheet.new.out))
          (sheet_is (holds barrier.inner) (holds barrier.out) (holds barrier.into) (certificate_of s (only x)) (fun_ext found.inner) (fun_ext found.out) (fun_ext found.into)
          ∙ sym (no_record s q unshared))
          c.write_sheet.ensures;
    }
  where
    sheet_is : (f g h : ℕ → Bool) (d : Certificate) → f ≡ d.inner → g ≡ d.out → h ≡ d.into → no_bytes (record { inner = f; out = g; into = h }) ≡ no_bytes d
    sheet_is f g h d a b e =
        ap (λ i. no_bytes (record { inner = i; out = g; into = h })) a
        ∙ ap (λ i. no_bytes (record { inner = d.inner; out = i; into = h })) b
        ∙ ap (λ i. no_bytes (record { inner = d.inner; out = d.out; into = i })) e
