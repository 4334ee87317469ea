-- The witness that is written is the exact one.
use Rattle.std.proofs.Common.{◌≡◌, ℕ, ◌+◌, ◌-◌, ◌*◌, ◌≤◌, true, false, ◌||◌, T, Ok, Err, Result, List, [], ◌∷◌, ◌++◌, length, take, drop, sym, refl, ap, ◌∙◌, subst, ap₂, append_assoc, append-nil, arith, length-append, length-drop}
use borrow.Rule.Slice.PartMut.{put_mid}
use Rattle.std.proofs.lemmas.List.{drop_at, drop-drop, drop_all, take_all, length-take-le}
use Rattle.std.proofs.lemmas.Bool.{cond-true, cond-false}
use Rattle.model.specs.State.{State}
use Rattle.model.specs.Exact.{Work, carried, holder_for, last_for, first_for, exact_work, exact_witness}
use Rattle.witness.specs.Plans.{Wrote, acts_bytes}
use Rattle.witness.specs.Answers.{Answered, Written, head_bytes, longest_answer_len, witness_of, yes_bytes}
use Rattle.witness.specs.declared.halt.Halt.{Halt}
use Rattle.witness.specs.declared.halt.Halt.TheVariants.{NoSpace, Refused}
use Rattle.model.specs.declared.Question.{Question}
use Rattle.std.specs.Result.{IsErrAnd, IsOk}
use Rattle.model.specs.Rules.{all_applicable}
use Rattle.model.specs.Plans.{creations}
use Rattle.model.specs.declared.Rule.{Rule}
use Rattle.model.specs.declared.Rule.TheVariants.{Take, Grant, Create, Remove}
use Rattle.model.specs.State.{WellFormed}
use Rattle.model.specs.Sharing.{can_get, can_share}
use Rattle.model.proofs.ExactLaws.{exact_applicable, exact_short, exact_few}
use Rattle.model.proofs.Tests.{right}
use Rattle.codec.specs.Acts.{act_bytes}
use Rattle.witness.specs.Ends.{Exact}
use Rattle.witness.specs.declared.ends.Ends.{Ends}

abbrev pub begun : State → Work
begun b = record { state = b; rules = [] }

pub none_needed : (b : State) (q : Question) → true ≡ b.has q.holder q.right q.target → witness_of b q ≡ []
unfolding exact_witness
none_needed b q h = cond-true (b.has q.holder q.right q.target) _ _ (sym h)

pub witness_is : (b : State) (q : Question) → false ≡ b.has q.holder q.right q.target → witness_of b q ≡ (exact_work b q.holder q.right q.target).rules
unfolding exact_witness
witness_is b q h = cond-false (b.has q.holder q.right q.target) _ _ (sym h)

-- An act has at most five bytes.
acts_short : (rules : List Rule) → length (acts_bytes rules) ≤ 5 * length rules
unfolding acts_bytes
acts_short [] = omega arith
acts_short (a ∷ more) = omega (arith, length-append (act_bytes a) (acts_bytes more), one a, acts_short more)
  where
    one : (a : Rule) → length (act_bytes a) ≤ 5
    one (Take t) = omega arith
    one (Grant g) = omega arith
    one (Create c) = omega arith
    one (Remove d) = omega arith

pub yes_length : (rules : List Rule) → length (yes_bytes rules) ≡ 5 + length (acts_bytes rules)
unfolding yes_bytes
yes_length rules = length-append (head_bytes (length rules)) (acts_bytes rules)

-- The work of who can get the right and hasn't it, and that it has room.
module _ (b : State) (wf : WellFormed b) (q : Question) (e : Ends) (ends : Exact b q e) where
  pub ends_share : T (can_share b q.holder q.right q.target)
  unfolding can_share
  ends_share = right (b.has q.holder q.right q.target) (can_get b q.holder q.right q.target) ends.gets

  pub work_of : carried b q.holder q.right q.target e.holder e.last e.first (begun b) ≡ exact_work b q.holder q.right q.target
  unfolding exact_work
  work_of =
      ap (λ t. carried b q.holder q.right q.target t e.last e.first (begun b)) ends.holder
      ∙ ap (λ k. carried b q.holder q.right q.target (holder_for b q.holder q.right q.target) k e.first (begun b)) last
      ∙ ap (λ k. carried b q.holder q.right q.target (holder_for b q.holder q.right q.target) (last_for b q.holder (holder_for b q.holder q.right q.target)) k (begun b))
      (ends.first ∙ ap (first_for b q.holder) last)
    where
      last : e.last ≡ last_for b q.holder (holder_for b q.holder q.right q.target)
      last = ends.last ∙ ap (last_for b q.holder) ends.holder

  pub answer_short : b.size ≤ 128 → length (yes_bytes (witness_of b q)) ≤ longest_answer_len b.size
  answer_short few =
      omega (arith, yes_length (witness_of b q), acts_short (witness_of b q), exact_short b wf q.holder q.right q.target ends_share)

  -- So whoever writes the answer into that room doesn't halt.
  pub never_halts : (r : Result ℕ Halt) (was out : List ℕ) → b.size ≤ 128 → longest_answer_len b.size ≤ length was → Answered b (witness_of b q) r was out → IsOk r
  never_halts (Ok n) was out few room a = refl
  never_halts (Err NoSpace) was out few room a = let none : ⊥ = a (omega (arith, answer_short few)) in absurd none
  never_halts (Err Refused) was out few room a =
      let none : ⊥ = a (exact_applicable b wf q.holder q.right q.target ends_share) (omega (arith, exact_few b wf q.holder q.right q.target ends_share)) in absurd none

-- The head before the acts, in a slice whose free end behind the head has them.
module _ (was free out : List ℕ) (k : ℕ) (size : k ≡ length was - 5) (room : 5 ≤ length was) where
  behind_head : (used : ℕ) (acts head : List ℕ) → length head ≡ 5 → free ≡ acts ++ drop used (take k (drop 5 was)) →
      out ≡ head ++ drop 5 (put_mid 5 k was free) → out ≡ (head ++ acts) ++ drop (5 + used) was
  behind_head used acts head l f o =
      o
      ∙ ap (λ t. head ++ t) (drop_at (take 5 was) (free ++ drop k (drop 5 was)) 5 (length-take-le 5 was room))
      ∙ ap (λ t. head ++ (free ++ t)) (drop_all k (drop 5 was) (let d = length-drop 5 was in omega arith))
      ∙ ap (λ t. head ++ t) (append-nil free)
      ∙ ap (λ t. head ++ t) (f ∙ ap (λ t. acts ++ drop used t) (take_all k (drop 5 was) (let d = length-drop 5 was in omega arith)) ∙ ap (λ t. acts ++ t) (drop-drop used 5 was))
      ∙ sym (append_assoc head acts (drop (5 + used) was))

  pub free_length : length (take k (drop 5 was)) ≡ length was - 5
  free_length = length-take-le k (drop 5 was) (let d = length-drop 5 was in omega arith) ∙ size

pub answered :
    (rules : List Rule) (was free out : List ℕ) (k : ℕ) → k ≡ length was - 5 → 5 ≤ length was → (used acts head : ℕ) → used ≡ length (acts_bytes rules) →
    acts ≡ length rules → head ≡ 5 → free ≡ acts_bytes rules ++ drop used (take k (drop 5 was)) → out ≡ head_bytes acts ++ drop head (put_mid 5 k was free) →
    (head + used ≡ length (yes_bytes rules)) × (out ≡ yes_bytes rules ++ drop (head + used) was)
unfolding yes_bytes
answered rules was free out k size room used acts head u a h f o = (
  (let l = yes_length rules in omega arith),
  behind_head was free out k size room used (acts_bytes rules) (head_bytes acts) refl f (o ∙ ap (λ m. head_bytes acts ++ drop m (put_mid 5 k was free)) h)
      ∙ ap₂ (λ m n. (head_bytes m ++ acts_bytes rules) ++ drop (n + used) was) a (sym h),
)

-- No act, where the right is held.
pub none_answered : (b : State) (r : Result ℕ Halt) (was out : List ℕ) → Wrote r (head_bytes 0) was out → Answered b [] r was out
unfolding yes_bytes acts_bytes all_applicable
none_answered b (Ok n) was out w = (w.0, w.2, tt)
none_answered b (Err NoSpace) was out w = λ l. let short = w.1 in omega arith
none_answered b (Err Refused) was out w = λ t h. let is = w.0 in let none : ⊥ = cc in absurd none

-- An answer that was given up.
pub given_up : (halt : Halt) (b : State) (rules : List Rule) (r : Result ℕ Halt) (was out : List ℕ) → IsErrAnd r (λ e. e ≡ halt) →
    (halt ≡ NoSpace → length (yes_bytes rules) ≤ length was → ⊥) → (halt ≡ Refused → T (all_applicable b rules) → b.size + creations rules ≤ 255 → ⊥) → Answered b rules r was out
given_up halt b rules (Err NoSpace) was out is short barred = short (sym is)
given_up halt b rules (Err Refused) was out is short barred = barred (sym is)
given_up halt b rules (Ok _) was out is short barred = absurd is

pub plan_written :
    (b : State) (q : Question) (n : ℕ) (was out : List ℕ) → T (can_share b q.holder q.right q.target) → length out ≡ length was → Answered b (witness_of b q) (Ok n) was out → Written b q n was out
plan_written b q n was out shared e a =
    record {
      shared = shared;
      room = omega (arith, e ∙ refl, ap length a.1, length-append (yes_bytes (witness_of b q)) (drop n was), length-drop n was, a.0);
      size = a.0;
      bytes = a.1;
    }

pub held_written : (b : State) (q : Question) (n : ℕ) (was out : List ℕ) → true ≡ b.has q.holder q.right q.target → Wrote (Ok n) (head_bytes 0) was out → Written b q n was out
unfolding can_share yes_bytes acts_bytes
held_written b q n was out h w =
    record {
      shared = subst (λ c. T (c || can_get b q.holder q.right q.target)) h tt;
      room = w.1;
      size = w.0 ∙ ap (λ (z : List Rule). length (yes_bytes z)) (sym (none_needed b q h));
      bytes = w.2 ∙ ap (λ (z : List Rule). yes_bytes z ++ drop n was) (sym (none_needed b q h));
    }
