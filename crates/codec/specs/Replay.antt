-- A book and acts to the end of the input: the book after them, or the first fault.
use Rattle.std.specs.Prelude.{ℕ, zero, suc, ◌+◌, cond, List, length, Ok, Err, Result, nat_lt}
use Rattle.model.specs.State.{State}
use Rattle.model.specs.Rules.{applied}
use Rattle.model.specs.declared.Rule.{Rule}
use Rattle.graph.specs.Graphs.{answer}
use Rattle.graph.specs.declared.refusal.Refusal.{Refusal}
use Rattle.graph.specs.declared.refusal.Refusal.TheVariants.{NotApplicable, Full}
use Rattle.codec.specs.declared.fault.Fault.{Fault}
use Rattle.codec.specs.declared.fault.Fault.TheVariants.{NotApplicable as Unapplicable, Full as Overfull}
use Rattle.codec.specs.Reading.{onward}
use Rattle.codec.specs.Acts.{act_at}
use Rattle.codec.specs.Books.{book_at}
use Rattle.codec.specs.Writing.{book_bytes}

-- What comes of an act that has this number, once a graph has answered it.
abbrev pub told : Result Unit Refusal → ℕ → State → Result State Fault
told (Ok _) i s = Ok s
told (Err NotApplicable) i s = Err (Unapplicable i)
told (Err Full) i s = Err (Overfull i)

abbrev pub performed : State → Rule → ℕ → Result State Fault
performed s a i = told (answer s a) i (applied s a)

-- The act at an offset, which has the number i: the state after it, and the offset behind it.
abbrev pub performed_at : List ℕ → ℕ → ℕ → State → Result (State × ℕ) Fault
performed_at bs at i s = onward (act_at bs s.size at) λ a. onward (performed s a.0 i) λ t. Ok (t, a.1)

-- Acts to the end of the input, the first of which has the number i. Each takes some bytes, so there are fewer than `most`, the length of the input.
unfoldable pub acts_at : ℕ → List ℕ → ℕ → ℕ → State → Result State Fault
acts_at zero bs at i s = Ok s
acts_at (suc most) bs at i s =
    cond (nat_lt at (length bs)) (onward (performed_at bs at i s) λ t. acts_at most bs t.1 (i + 1) t.0) (Ok s)

unfoldable pub replayed : List ℕ → Result (List ℕ) Fault
replayed bs = onward (book_at bs) λ b. onward (acts_at (length bs) bs b.1 0 b.0) λ s. Ok (book_bytes s)
