-- Taking along a path: a subject brings to itself a right that the end of its take path has, by as many rules as the path has steps.
-- The path is one of the first state b; the current state c is only known to be grown from it.
use Rattle.std.proofs.Common.{ℕ, suc, Bool, T, arith}
use Rattle.model.specs.State.{State, is_subject, take_right}
use Rattle.model.specs.Closure.{here, next}
use Rattle.model.specs.Spans.{TakePath, take_path, can_take}
use Rattle.model.specs.Plans.{Grown, Plan, Has}
use Rattle.model.proofs.Grown.{grown_trans}
use Rattle.model.proofs.Plan.{widen, followed, idle, takes_unless_held}
use Rattle.model.proofs.Lengths.{steps, row}

-- A subject of b that may apply rules.
pub record Acts (by : ℕ → Bool) (b : State) (p : ℕ) : Type 0 where
  pub allowed : T (by p)
  pub subject : T (is_subject b p)

module _ (by : ℕ → Bool) (b : State) (p : ℕ) (a : Acts by b p) (r z : ℕ) where
  -- p has take to x by now.
  along : {x y : ℕ} (c : State) → Grown b c → T (c.has p take_right x) → T (c.has y r z) → (w : TakePath b x y) → Plan by c (suc (steps w)) 0 (Has p r z)
  unfolding steps
  along {x} c g t h here = takes_unless_held by c g.well_formed p a.allowed (g.subjects p a.subject) x r z t h
  along {x} {y} c g t h (next {z = v} e w) =
      widen _ _ (omega arith) (omega arith)
      (followed
      (takes_unless_held by c g.well_formed p a.allowed (g.subjects p a.subject) x take_right v t (g.rights x take_right v e))
      (λ d i u. along d (grown_trans g i) u (i.rights y r z h) w))

  pub taking : {y : ℕ} (c : State) → Grown b c → T (c.has y r z) → (w : TakePath b p y) → Plan by c (steps w) 0 (Has p r z)
  unfolding steps
  taking c g h here = idle by c (Has p r z) g.well_formed h
  taking c g h (next {z = v} e w) = along c g (g.rights p take_right v e) h w

  -- The same from the test: at most n rules.
  pub taking_far : (y : ℕ) (c : State) → Grown b c → T (c.has y r z) → T (take_path b p y) → Plan by c b.size 0 (Has p r z)
  unfolding take_path
  taking_far y c g h t = let w = row b.size b.size (can_take b) p y t in widen _ _ (omega arith) (omega arith) (taking c g h w.way)
