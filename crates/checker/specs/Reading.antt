-- The bytes of answers: three sets, or a count and so many rules, and then the end of the input.
use Rattle.std.specs.Prelude.{ℕ, zero, suc, ◌+◌, ◌*◌, Bool, cond, List, length, Ok, Err, Result, nat_lt}
use Rattle.bits.specs.Sets.{holds, VertexSet}
use Rattle.model.specs.State.{State}
use Rattle.model.specs.Certificates.{Certificate}
use Rattle.codec.specs.Reading.{Read, ◌then◌, onward, count_at}
use Rattle.codec.specs.Books.{subjects_at}
use Rattle.codec.specs.Replay.{performed_at}
use Rattle.codec.specs.declared.fault.Fault.{Fault}
use Rattle.codec.specs.declared.fault.Fault.TheVariants.{UnknownKind, BadFlag, Missing, OutOfRange, NotRising, NotApplicable, Full}
use Rattle.checker.specs.Looking.{certificate}
use Rattle.checker.specs.declared.fault.CheckFault.{CheckFault}
use Rattle.checker.specs.declared.fault.CheckFault.TheVariants.{Input, LeftOver, NoVertex}
use Rattle.checker.specs.declared.certificate.Certificate.{Certificate as Stored}

abbrev pub Checked : Type 0 → Type 0
Checked A = Result A CheckFault

-- Go on with what was read, or with what was found right, unless there was a fault.
abbrev pub reading : {A B : Type 0} → Result A Fault → (A → Checked B) → Checked B
reading (Ok a) f = f a
reading (Err e) f = Err (Input e)

abbrev pub checking : {A B : Type 0} → Checked A → (A → Checked B) → Checked B
checking (Ok a) f = f a
checking (Err e) f = Err e

-- A vertex that isn't there is a fault of its own where it stands in a certificate.
abbrev pub set_fault : Fault → CheckFault
set_fault (UnknownKind at) = Input (UnknownKind at)
set_fault (BadFlag at) = Input (BadFlag at)
set_fault (Missing length) = Input (Missing length)
set_fault (OutOfRange at) = NoVertex at
set_fault (NotRising at) = Input (NotRising at)
set_fault (NotApplicable act) = Input (NotApplicable act)
set_fault (Full act) = Input (Full act)

abbrev pub of_set : {A : Type 0} → Read A → Checked (A × ℕ)
of_set (Ok p) = Ok p
of_set (Err f) = Err (set_fault f)

-- 32 bytes that name vertices below n.
abbrev pub set_at : List ℕ → ℕ → ℕ → Checked ((ℕ → Bool) × ℕ)
set_at bs n at = of_set (subjects_at bs n 32 at)

-- The three sets, and the offset behind them.
abbrev pub certificate_at : List ℕ → ℕ → ℕ → Checked (Certificate × ℕ)
certificate_at bs n at =
    checking (set_at bs n at) λ inner.
    checking (set_at bs n inner.1) λ into.
    checking (set_at bs n into.1) λ out. Ok (record { inner = inner.0; out = out.0; into = into.0 }, out.1)

-- A number of rules: four bytes, the highest first.
abbrev pub length_at : List ℕ → ℕ → Read ℕ
length_at bs at =
    count_at bs at then λ high middle. count_at bs middle then λ low next. Ok (65536 * high + low, next)

-- So many rules, the first of which has the number i, each applied to the state as it is by then.
unfoldable pub rules_at : ℕ → List ℕ → ℕ → ℕ → State → Read State
rules_at zero bs at i s = Ok (s, at)
rules_at (suc count) bs at i s = onward (performed_at bs at i s) λ t. rules_at count bs t.1 (i + 1) t.0

-- Nothing is left over.
abbrev pub end_at : List ℕ → ℕ → Checked (Unit {0})
end_at bs at = cond (nat_lt at (length bs)) (Err (LeftOver at)) (Ok tt)

-- Who is named by a set that was read, and what is meant by a certificate that was read.
abbrev pub set_read : Checked VertexSet → Checked (ℕ → Bool)
set_read (Ok set) = Ok (holds set)
set_read (Err f) = Err f

abbrev pub certificate_read : Checked Stored → Checked Certificate
certificate_read (Ok c) = Ok (certificate c)
certificate_read (Err f) = Err f
