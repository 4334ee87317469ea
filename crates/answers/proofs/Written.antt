-- What one more question or vertex adds to what is printed.
use Rattle.std.proofs.Common.{◌≡◌, ℕ, ◌+◌, true, false, cond, T, eqb, List, [], ◌∷◌, ◌++◌, length, take, is_ok, Ok, Err, Result, sym, ap, ◌∙◌, append_assoc, append-nil, add-one}
use Rattle.std.proofs.lemmas.List.{take_at}
use Rattle.std.proofs.lemmas.Bool.{cond-true, cond-false}
use Rattle.model.specs.Bounded.{only}
use Rattle.model.specs.Certificates.{certificate_of}
use Rattle.model.specs.Exact.{exact_witness}
use Rattle.model.proofs.Tests.{is_true}
use Rattle.codec.specs.Writing.{Appended}
use Rattle.witness.specs.Answers.{yes_bytes}
use Rattle.model.specs.State.{State}
use Rattle.model.specs.declared.Question.{Question}
use Rattle.answers.specs.Records.{no_bytes, record_of, records_of}
use Rattle.answers.specs.Lines.{line_of, answer_to, lines_of, sharers, count_of, counts_of, table_of}

pub lines_more : (s : State) (qs : List Question) (q : Question) → lines_of s (qs ++ (q ∷ [])) ≡ lines_of s qs ++ line_of (answer_to s q)
unfolding lines_of
lines_more s [] q = append-nil (line_of (answer_to s q))
lines_more s (p ∷ more) q = ap (λ t. line_of (answer_to s p) ++ t) (lines_more s more q) ∙ sym (append_assoc (line_of (answer_to s p)) (lines_of s more) (line_of (answer_to s q)))

pub records_more : (s : State) (qs : List Question) (q : Question) → records_of s (qs ++ (q ∷ [])) ≡ records_of s qs ++ record_of s q
unfolding records_of
records_more s [] q = append-nil (record_of s q)
records_more s (p ∷ more) q = ap (λ t. record_of s p ++ t) (records_more s more q) ∙ sym (append_assoc (record_of s p) (records_of s more) (record_of s q))

pub counts_more : (s : State) (y r : ℕ) → counts_of s y (r + 1) ≡ counts_of s y r ++ count_of (sharers s r y) (eqb r 7)
unfolding counts_of
counts_more s y r = ap (counts_of s y) (add-one r)

pub table_more : (s : State) (y : ℕ) → table_of s (y + 1) ≡ table_of s y ++ counts_of s y 8
unfolding table_of
table_more s y = ap (table_of s) (add-one y)

-- One piece more behind what was written.
pub extended_once :
    {E : Type 0} (r : Result (Unit {0}) E) (before after x y : List ℕ) → after ≡ cond (is_ok r) (before ++ x) before → x ≡ y → Appended r before after y
extended_once (Ok _) before after x y e g = e ∙ ap (λ t. before ++ t) g
extended_once (Err _) before after x y e g = tt

-- And nothing more.
pub kept_so : {E : Type 0} (r : Result (Unit {0}) E) (before after x : List ℕ) → after ≡ before ++ x → Appended r before after x
kept_so (Ok _) before after x e = e
kept_so (Err _) before after x e = tt

-- The record of a yes, cut from the room where it was written, and that of a no.
module _ (s : State) (q : Question) where
  pub yes_line : T (answer_to s q) → line_of (answer_to s q) ≡ line_of true
  yes_line t = ap line_of (is_true _ t)

  pub yes_record : T (answer_to s q) → record_of s q ≡ yes_bytes (exact_witness s q.holder q.right q.target)
  unfolding record_of
  yes_record t = cond-true (answer_to s q) _ _ (is_true _ t)

  pub no_record : answer_to s q ≡ false → record_of s q ≡ no_bytes (certificate_of s (only q.holder))
  unfolding record_of
  no_record e = cond-false (answer_to s q) _ _ e

pub front_of : (bytes rest out : List ℕ) (n : ℕ) → n ≡ length bytes → out ≡ bytes ++ rest → take n out ≡ bytes
front_of bytes rest out n e o = ap (take n) o ∙ take_at bytes rest n (sym e)
