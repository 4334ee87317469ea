-- Plans as they are written: rules as bytes, and how far a plan has come.
use Rattle.std.specs.Prelude.{◌≡◌, ℕ, ◌<◌, ◌≤◌, Bool, true, ◌&&◌, T, List, [], ◌∷◌, ◌++◌, length, drop, Ok, Err, Result}
use Rattle.model.specs.State.{State, grant_right}
use Rattle.model.specs.Rules.{applied}
use Rattle.model.specs.Exact.{Work, doing, granting, taking_to}
use Rattle.model.specs.declared.Rule.{Rule}
use Rattle.std.specs.Result.{is_ok}
use Rattle.graph.specs.Graphs.{state, answer}
use Rattle.codec.specs.Acts.{act_bytes}
use Rattle.witness.specs.Of.{routed}
use Rattle.witness.specs.declared.plan.Plan.{Plan}
use Rattle.witness.specs.declared.halt.Halt.{Halt}
use Rattle.witness.specs.declared.halt.Halt.TheVariants.{NoSpace, Refused}

-- The bytes of rules, one after the other.
unfoldable pub acts_bytes : List Rule → List ℕ
acts_bytes [] = []
acts_bytes (a ∷ more) = act_bytes a ++ acts_bytes more

-- The state after a row of rules that may all be applied.
unfoldable pub done : State → List Rule → State
done s [] = s
done s (a ∷ more) = done (applied s a) more

-- Each of the rules may be applied when its turn comes, and a graph has room for what it creates.
unfoldable pub performable : State → List Rule → Bool
performable s [] = true
performable s (a ∷ more) = is_ok (answer s a) && performable (applied s a) more

-- p takes its path of the state b to u, for the right to grant to c, and grants c right r to y.
abbrev pub given : State → ℕ → ℕ → ℕ → ℕ → ℕ → Work → Work
given b p u c r y w = doing (granting p c r y) (taking_to b p u grant_right c w)

-- Bytes written at the start of a slice: so many, and behind them it is as it was; or they don't fit, and nothing else halts.
abbrev pub Wrote : Result ℕ Halt → List ℕ → List ℕ → List ℕ → Type 0
Wrote (Err halt) bytes was out = (halt ≡ NoSpace) × (length was < length bytes)
Wrote (Ok n) bytes was out = (n ≡ length bytes) × (n ≤ length was) × (out ≡ bytes ++ drop n was)

-- The plan, which is chosen and began in the state b with the slice as it was, has come to w: its graph is in w's state, each of w's rules was applied in its turn,
-- and they stand at the start of the slice, which behind them is as it was.
pub record At (b : State) (w : Work) (plan : Plan) (was out : List ℕ) : Type 0 where
  pub about : routed plan.routes.now ≡ b
  pub here : state plan.graph ≡ w.state
  pub reached : w.state ≡ done b w.rules
  pub performed : T (performable b w.rules)
  pub bytes : plan.used ≡ length (acts_bytes w.rules)
  pub count : plan.acts ≡ length w.rules
  pub written : out ≡ acts_bytes w.rules ++ drop plan.used was

-- The plan can't come to w: there is no room for its bytes, or one of its rules can't be carried out, as the halt says.
abbrev pub Halted : Halt → State → ℕ → Work → Type 0
Halted halt b room w = (halt ≡ NoSpace → length (acts_bytes w.rules) ≤ room → ⊥) × (halt ≡ Refused → T (performable b w.rules) → ⊥)

-- The plan comes to w, or it can't.
abbrev pub Goes : State → Work → Result (Unit {0}) Halt → Plan → List ℕ → List ℕ → Type 0
Goes b w (Ok _) plan was out = At b w plan was out
Goes b w (Err halt) plan was out = Halted halt b (length was) w

-- From wherever the plan has come to, it takes this step, which may look at the state that it is chosen in, or it can't.
abbrev pub Does : (State → Work → Work) → Plan → List ℕ → Result (Unit {0}) Halt → Plan → List ℕ → Type 0
Does step plan out r next after = (b : State) (w : Work) (was : List ℕ) → At b w plan was out → Goes b (step b w) r next was after
