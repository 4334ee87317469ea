-- A search for the least barrier round x, over single rights.
use Rattle.std.specs.Prelude.{ℕ, Bool, T}
use Rattle.model.specs.State.{State, is_subject}
use Rattle.model.specs.Bounded.{only}
use Rattle.model.specs.Spans.{can_take, can_grant}
use Rattle.model.specs.Certificates.{out_of, into_of}

-- What was found belongs to the barrier, and what was looked at led on.
pub record Searching (s : State) (x : ℕ) (out into outSeen intoSeen : ℕ → Bool) : Type 0 where
  pub out_sound : (p : ℕ) → T (out p) → T (out_of s (only x) p)
  pub into_sound : (p : ℕ) → T (into p) → T (into_of s (only x) p)
  pub holder : T (is_subject s x) → T (into x)
  pub giver : (p : ℕ) → T (can_grant s p x) → T (into p)
  pub out_takes : (p q : ℕ) → T (outSeen p) → T (can_take s p q) → T (out q)
  pub out_grants : (p q : ℕ) → T (outSeen p) → T (can_grant s p q) → T (into q)
  pub out_granted : (p q : ℕ) → T (outSeen q) → T (can_grant s p q) → T (into p)
  pub out_acts : (p : ℕ) → T (outSeen p) → T (is_subject s p) → T (into p)
  pub into_taken : (p q : ℕ) → T (intoSeen q) → T (can_take s p q) → T (into p)
  pub into_acts : (p : ℕ) → T (intoSeen p) → T (is_subject s p) → T (out p)
