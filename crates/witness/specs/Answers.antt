-- The bytes of the answer yes.
use Rattle.std.specs.Prelude.{◌≡◌, ℕ, ◌+◌, ◌*◌, ◌/◌, ◌%◌, ◌≤◌, false, T, List, [], ◌∷◌, ◌++◌, length, drop, Ok, Err, Result}
use Rattle.spans.specs.declared.barrier.Barrier.{Barrier}
use Rattle.spans.specs.Barriers.{Round}
use Rattle.witness.specs.declared.unwritten.Unwritten.{Unwritten}
use Rattle.witness.specs.declared.unwritten.Unwritten.TheVariants.{Never, NoRoom}
use Rattle.model.specs.State.{State}
use Rattle.model.specs.Rules.{all_applicable}
use Rattle.model.specs.Plans.{creations}
use Rattle.model.specs.Exact.{exact_witness}
use Rattle.model.specs.Promise.{longest_witness_len}
use Rattle.model.specs.Sharing.{can_share}
use Rattle.model.specs.declared.Question.{Question}
use Rattle.model.specs.declared.Rule.{Rule}
use Rattle.witness.specs.Plans.{acts_bytes}
use Rattle.witness.specs.declared.halt.Halt.{Halt}
use Rattle.witness.specs.declared.halt.Halt.TheVariants.{NoSpace, Refused}

-- A count in four bytes, the highest first.
abbrev pub count_bytes : ℕ → List ℕ
count_bytes n = n / 16777216 % 256 ∷ n / 65536 % 256 ∷ n / 256 % 256 ∷ n % 256 ∷ []

-- The kind of the answer and how many acts there are; and the acts.
abbrev pub head_bytes : ℕ → List ℕ
head_bytes n = 16 ∷ count_bytes n

unfoldable pub yes_bytes : List Rule → List ℕ
yes_bytes rules = head_bytes (length rules) ++ acts_bytes rules

-- The witness that the right comes about.
abbrev pub witness_of : State → Question → List Rule
witness_of b q = exact_witness b q.holder q.right q.target

-- The answer was written at the start of the slice, in so many bytes, and behind them the slice is as it was; each rule may be applied when its turn comes.
-- If not: there is no room for the bytes; or that can't be done, or would make a 256th vertex. Which of the two, the halt says.
abbrev pub Answered : State → List Rule → Result ℕ Halt → List ℕ → List ℕ → Type 0
Answered b rules (Ok n) was out = (n ≡ length (yes_bytes rules)) × (out ≡ yes_bytes rules ++ drop n was) × T (all_applicable b rules)
Answered b rules (Err NoSpace) was out = length (yes_bytes rules) ≤ length was → ⊥
Answered b rules (Err Refused) was out = T (all_applicable b rules) → b.size + creations rules ≤ 255 → ⊥

-- The most bytes of an answer about n vertices.
abbrev pub longest_answer_len : ℕ → ℕ
longest_answer_len n = 5 + 5 * longest_witness_len n

-- The answer yes to the question was written at the start of the slice, in n bytes, with the exact witness; behind them it is as it was.
pub record Written (b : State) (q : Question) (n : ℕ) (was out : List ℕ) : Type 0 where
  pub shared : T (can_share b q.holder q.right q.target)
  pub room : n ≤ length was
  pub size : n ≡ length (yes_bytes (witness_of b q))
  pub bytes : out ≡ yes_bytes (witness_of b q) ++ drop n was

-- Or it was not, and the slice is as it was: the right never comes about, and the barrier shows it; or there is too little room, or too many vertices.
pub record Unshared (b : State) (q : Question) (barrier : Barrier) (was out : List ℕ) : Type 0 where
  pub same : out ≡ was
  pub unshared : can_share b q.holder q.right q.target ≡ false
  pub round : Round b q.holder barrier

pub record Unfit (b : State) (was out : List ℕ) : Type 0 where
  pub same : out ≡ was
  pub narrow : b.size ≤ 128 → longest_answer_len b.size ≤ length was → ⊥

abbrev pub AnsweredAs : State → Question → Result ℕ Unwritten → List ℕ → List ℕ → Type 0
AnsweredAs b q (Ok n) was out = Written b q n was out
AnsweredAs b q (Err (Never barrier)) was out = Unshared b q barrier was out
AnsweredAs b q (Err NoRoom) was out = Unfit b was out
