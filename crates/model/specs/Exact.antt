-- The witness that is written, exactly: which subjects and paths it goes over, and each of its rules. All choices are made in the state at the question.
use Rattle.std.specs.Prelude.{ℕ, zero, suc, Bool, false, cond, ◌&&◌, ◌||◌, List, [], ◌∷◌, ◌++◌, ◌==◌}
use Rattle.model.specs.State.{State, take_right, grant_right}
use Rattle.model.specs.Rules.{applied}
use Rattle.model.specs.Bounded.{some_below}
use Rattle.model.specs.Closure.{within}
use Rattle.model.specs.Spans.{can_take, can_grant, take_path, bridge, connected, initial_span, terminal_span}
use Rattle.model.specs.declared.Rule.{Rule}
use Rattle.model.specs.declared.Rule.TheVariants.{Take, Grant, Create}

-- The lowest number from k on that passes the test, of m numbers; the number behind them if none does.
unfoldable pub lowest_from : ℕ → ℕ → (ℕ → Bool) → ℕ
lowest_from k zero f = k
lowest_from k (suc m) f = cond (f k) k (lowest_from (suc k) m f)

-- The lowest number below n that passes; n if none does.
abbrev pub lowest : ℕ → (ℕ → Bool) → ℕ
lowest n f = lowest_from 0 n f

-- The vertices behind x on the first, in lexicographic order, of the rows of k steps that lead from x to y.
unfoldable pub first_row : ℕ → ℕ → (ℕ → ℕ → Bool) → ℕ → ℕ → List ℕ
first_row zero n e x y = []
first_row (suc k) n e x y =
    lowest n (λ z. e x z && within k n e z y) ∷ first_row k n e (lowest n (λ z. e x z && within k n e z y)) y

-- The vertices behind x on the shortest row of steps from x to y, of equals the first in lexicographic order.
unfoldable pub shortest_row_of : ℕ → (ℕ → ℕ → Bool) → ℕ → ℕ → List ℕ
shortest_row_of n e x y = first_row (lowest n (λ k. within k n e x y)) n e x y

abbrev pub shortest_path : State → ℕ → ℕ → List ℕ
shortest_path s x y = shortest_row_of s.size (can_take s) x y

-- The state as it is by now, and the rules that led to it.
pub record Work : Type 0 where
  pub state : State
  pub rules : List Rule

abbrev pub doing : Rule → Work → Work
doing a w = record { state = applied w.state a; rules = w.rules ++ (a ∷ []) }

abbrev pub taking : ℕ → ℕ → ℕ → ℕ → Rule
taking p y r z = Take (record { who = p; from = y; right = r; to = z })

abbrev pub granting : ℕ → ℕ → ℕ → ℕ → Rule
granting p y r z = Grant (record { who = p; into = y; right = r; to = z })

-- An object to which p has take and grant.
abbrev pub creating : ℕ → Rule
creating p = Create (record { who = p; subject = false; rights = 3 })

-- p takes r to z from y, unless p has it.
abbrev pub taking_unless_held : ℕ → ℕ → ℕ → ℕ → Work → Work
taking_unless_held p y r z w = cond (w.state.has p r z) w (doing (taking p y r z) w)

-- p takes along a path, from where it has come to: vertex by vertex, until it has r to z.
unfoldable pub taking_along : ℕ → ℕ → List ℕ → ℕ → ℕ → Work → Work
taking_along p at [] r z w = taking_unless_held p at r z w
taking_along p at (next ∷ more) r z w =
    cond (w.state.has p r z) w (taking_along p next more r z (taking_unless_held p at take_right next w))

-- Along its shortest path of the state b to y.
abbrev pub taking_to : State → ℕ → ℕ → ℕ → ℕ → Work → Work
taking_to b p y r z w = taking_along p p (shortest_path b p y) r z w

-- u and v, where the take paths of p and of q in b meet at a grant: the lowest u, and the lowest v for it.
abbrev pub meeting : State → ℕ → ℕ → ℕ → Bool
meeting b q u v = take_path b q v && (can_grant b u v || can_grant b v u)

abbrev pub near_end : State → ℕ → ℕ → ℕ
near_end b p q = lowest b.size (λ u. take_path b p u && some_below b.size (meeting b q u))

abbrev pub far_end : State → ℕ → ℕ → ℕ
far_end b q u = lowest b.size (meeting b q u)

-- p, who has r to y, and q, who is to have it: q takes its path to p.
abbrev pub fetched : State → ℕ → ℕ → ℕ → ℕ → Work → Work
fetched b p q r y w = taking_to b q p r y w

-- q creates an object; p takes its path to q, for the right to grant to the object, and grants; q takes.
abbrev pub left : State → ℕ → ℕ → ℕ → ℕ → ℕ → Work → Work
left b p q r y c w =
    taking_unless_held q c r y (doing (granting p c r y) (taking_to b p q grant_right c (doing (creating q) w)))

-- p takes its path to u, for the right to grant to v, and grants; q takes its path to v.
abbrev pub passed : State → ℕ → ℕ → ℕ → ℕ → ℕ → ℕ → Work → Work
passed b p q r y u v w = taking_to b q v r y (doing (granting p v r y) (taking_to b p u grant_right v w))

-- q creates an object, takes its path to v, for the right to grant to u, and grants the right to grant to the object to u;
-- p takes its path to u, for that right, and grants; q takes.
abbrev pub asked : State → ℕ → ℕ → ℕ → ℕ → ℕ → ℕ → ℕ → Work → Work
asked b p q r y u v c w =
    taking_unless_held q c r y
    (doing (granting p c r y)
    (taking_to b p u grant_right c (doing (granting q u grant_right c) (taking_to b q v grant_right u (doing (creating q) w)))))

-- Over one bridge of b, from p to q.
unfoldable pub over_bridge : State → ℕ → ℕ → ℕ → ℕ → Work → Work
over_bridge b p q r y w =
    cond (take_path b q p) (fetched b p q r y w)
    (cond (take_path b p q) (left b p q r y w.state.size w)
    (cond (can_grant b (near_end b p q) (far_end b q (near_end b p q)))
    (passed b p q r y (near_end b p q) (far_end b q (near_end b p q)) w)
    (asked b p q r y (near_end b p q) (far_end b q (near_end b p q)) w.state.size w)))

-- Over a row of bridges, from p on.
unfoldable pub over_row : State → ℕ → List ℕ → ℕ → ℕ → Work → Work
over_row b p [] r y w = w
over_row b p (q ∷ more) r y w = over_row b q more r y (over_bridge b p q r y w)

-- p, who has r to y, grants it to x, unless it is x: it takes its path to the lowest that has grant to x.
abbrev pub last_holder : State → ℕ → ℕ → ℕ
last_holder b p x = lowest b.size (λ u. take_path b p u && can_grant b u x)

abbrev pub handed_to : State → ℕ → ℕ → ℕ → ℕ → Work → Work
handed_to b p x r y w = cond (p == x) w (doing (granting p x r y) (taking_to b p (last_holder b p x) grant_right x w))

-- Who has the right and whom it goes over: the lowest holder for which there are such, the lowest last for it, the lowest first for these.
abbrev pub reaching : State → ℕ → ℕ → ℕ → Bool
reaching b x t q = terminal_span b q t && some_below b.size (λ p. initial_span b p x && connected b p q)

abbrev pub holder_for : State → ℕ → ℕ → ℕ → ℕ
holder_for b x r y = lowest b.size (λ t. b.has t r y && some_below b.size (reaching b x t))

abbrev pub last_for : State → ℕ → ℕ → ℕ
last_for b x t = lowest b.size (reaching b x t)

abbrev pub first_for : State → ℕ → ℕ → ℕ
first_for b x q = lowest b.size (λ p. initial_span b p x && connected b p q)

-- From the holder t by q and p to x.
abbrev pub carried : State → ℕ → ℕ → ℕ → ℕ → ℕ → ℕ → Work → Work
carried b x r y t q p w =
    handed_to b p x r y (over_row b q (shortest_row_of b.size (bridge b) q p) r y (taking_to b q t r y w))

unfoldable pub exact_work : State → ℕ → ℕ → ℕ → Work
exact_work b x r y =
    carried b x r y (holder_for b x r y) (last_for b x (holder_for b x r y)) (first_for b x (last_for b x (holder_for b x r y)))
    (record { state = b; rules = [] })

-- The witness that x can come to have r to y: none is needed if x has it.
unfoldable pub exact_witness : State → ℕ → ℕ → ℕ → List Rule
exact_witness b x r y = cond (b.has x r y) [] (exact_work b x r y).rules
