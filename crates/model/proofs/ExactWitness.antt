-- The exact witness as a whole: from the chosen holder over the row of bridges to x. Every choice is there to be made where x can get the right.
use Rattle.std.proofs.Common.{ℕ, ◌+◌, ◌-◌, ◌*◌, ◌≤◌, Bool, ◌&&◌, T, eqb, List, [], length, subst, inl, inr, mul-le-mul_right, suc-mul, arith, eqb→eq}
use Rattle.model.specs.State.{State, WellFormed, is_subject, grant_right}
use Rattle.model.specs.Bounded.{some_below}
use Rattle.model.specs.Spans.{take_path, can_grant, bridge, connected, initial_span, terminal_span}
use Rattle.model.specs.Sharing.{can_get}
use Rattle.model.specs.Plans.{Grown, Has}
use Rattle.model.specs.Exact.{Work, doing, granting, taking_to, over_bridge, over_row, last_holder, handed_to, reaching, holder_for, last_for, first_for}
use Rattle.model.specs.Exact.{shortest_row_of, carried, exact_work}
use Rattle.model.proofs.Tests.{parts, cases, some_both, both_from}
use Rattle.model.proofs.Readings.{subject_vertex, terminal_span-to}
use Rattle.model.proofs.Symmetry.{connected_both_ways}
use Rattle.model.proofs.Grown.{grown_refl, grown_trans}
use Rattle.model.proofs.Taking.{Acts}
use Rattle.model.proofs.Witnesses.{longest}
use Rattle.model.proofs.ExactChoices.{either_way, lowest_passes, Leads, arrived, onward, shortest_leads, shortest_short}
use Rattle.model.proofs.ExactSteps.{Led, widen, followed, idle, grant_one, take_to}
use Rattle.model.proofs.ExactBridge.{over_bridge-law}

module _ (by : ℕ → Bool) (b : State) (acts : (p : ℕ) → T (is_subject b p) → T (by p)) (r y : ℕ) where
  may : (p : ℕ) → T (is_subject b p) → Acts by b p
  may p t = record { allowed = acts p t; subject = t }

  hand : (p q : ℕ) (w : Work) → Grown b w.state → T (bridge b p q) → T (w.state.has p r y) → Led by w (2 * b.size + 4) 1 (Has q r y) (over_bridge b p q r y w)
  unfolding bridge
  hand p q w g t h =
      let k = parts (is_subject b p) _ t in
      let l = parts (is_subject b q) _ k.1 in
      over_bridge-law by b w g p q (acts p k.0) (acts q l.0) t r y h

  -- Over a row of bridges.
  pub over_row-law : {p q : ℕ} {list : List ℕ} (w : Work) → Grown b w.state → T (w.state.has p r y) → Leads b.size (bridge b) p list q →
      Led by w (length list * (2 * b.size + 4)) (length list) (Has q r y) (over_row b p list r y w)
  unfolding over_row
  over_row-law {p} w g h arrived = widen _ _ (omega arith) (omega arith) (idle by w (Has p r y) g.well_formed h)
  over_row-law {p} w g h (onward {z = q} {more = more} l t row) =
      widen _ _ (omega (arith, suc-mul (length more) (2 * b.size + 4))) (omega arith)
      (followed (hand p q w g t h) (λ i u. over_row-law (over_bridge b p q r y w) (grown_trans g i) u row))

  -- From the holder, by one that spans terminally to it.
  pub from_holder : (q t : ℕ) (w : Work) → Grown b w.state → T (terminal_span b q t) → T (w.state.has t r y) → Led by w b.size 0 (Has q r y) (taking_to b q t r y w)
  unfolding terminal_span
  from_holder q t w g s h = let k = parts (is_subject b q) (take_path b q t) s in take_to by b q (may q k.0) r y t w g h k.1

  -- To x, by one that spans initially to it: it takes its path to the chosen one that has grant to x, and grants.
  grant_last : (p x : ℕ) (w : Work) → Grown b w.state → T (is_subject b p) → T (some_below b.size (λ u. take_path b p u && can_grant b u x)) →
      T (w.state.has p r y) → Led by w (b.size + 1) 0 (Has x r y) (doing (granting p x r y) (taking_to b p (last_holder b p x) grant_right x w))
  grant_last p x w g a m h =
      let u = last_holder b p x in
      let k = parts (take_path b p u) (can_grant b u x) (lowest_passes b.size (λ u. take_path b p u && can_grant b u x) m) in
      followed (take_to by b p (may p a) grant_right x u w g (g.rights u grant_right x k.1) k.0) (λ i v.
      grant_one (may p a) (taking_to b p u grant_right x w) (grown_trans g i) x r y v (i.rights p r y h))

  pub to_wanting : (p x : ℕ) (w : Work) → Grown b w.state → T (initial_span b p x) → T (w.state.has p r y) → Led by w (b.size + 1) 0 (Has x r y) (handed_to b p x r y w)
  unfolding initial_span
  to_wanting p x w g s h =
      let k = parts (is_subject b p) _ s in
      either_way (Led by w (b.size + 1) 0 (Has x r y)) (eqb p x) w _
      (λ e. widen _ _ (omega arith) (omega arith) (idle by w (Has x r y) g.well_formed (subst (λ v. T (w.state.has v r y)) (eqb→eq p x e) h))) (λ other.
      elim (cases (eqb p x) _ k.1) [
        | inl e ↦ absurd (other e)
        | inr m ↦ grant_last p x w g k.0 m h
      ])

  -- The whole way from a holder t over q and p to x.
  pub whole : (x t q p : ℕ) (w : Work) → Grown b w.state → WellFormed b → T (b.has t r y) → T (terminal_span b q t) → T (initial_span b p x) →
      T (connected b p q) → Led by w (longest b.size) (b.size - 1) (Has x r y) (carried b x r y t q p w)
  unfolding connected longest
  whole x t q p w g wf h e i j =
      let below = subject_vertex b q (terminal_span-to b q t e).acts in
      let back = subst T (connected_both_ways b wf p q) j in
      let w1 = taking_to b q t r y w in
      let row = shortest_row_of b.size (bridge b) q p in
      let short = shortest_short b.size (bridge b) q p below back in
      let few : length row ≤ b.size - 1 = omega arith in
      widen _ _ (omega (arith, mul-le-mul_right (2 * b.size + 4) few)) (omega arith)
      (followed (from_holder q t w g e (g.rights t r y h)) (λ gd u.
      followed (over_row-law w1 (grown_trans g gd) u (shortest_leads b.size (bridge b) q p below back)) (λ gf v.
      to_wanting p x (over_row b q row r y w1) (grown_trans g (grown_trans gd gf)) i v)))

-- The last and the first, as they are chosen.
abbrev pub last_of : State → ℕ → ℕ → ℕ → ℕ
last_of b x r y = last_for b x (holder_for b x r y)

abbrev pub first_of : State → ℕ → ℕ → ℕ → ℕ
first_of b x r y = first_for b x (last_of b x r y)

-- Where x can get the right the choices are there to be made: the holder has it, the last spans terminally to it, the first spans initially to x,
-- and they are connected.
module _ (b : State) (x r y : ℕ) (t : T (can_get b x r y)) where
  some_holder : T (some_below b.size (λ t. b.has t r y && some_below b.size (reaching b x t)))
  unfolding can_get
  some_holder =
      let n = b.size in
      let t = some_both n (λ t. b.has t r y) _ t in
      let p = some_both n (λ p. initial_span b p x) _ t.other in
      let q = some_both n (λ q. terminal_span b q t.at) (connected b p.at) p.other in
      both_from n (λ t. b.has t r y) (λ t. some_below n (reaching b x t)) t.at t.below t.one
      (both_from n (λ q. terminal_span b q t.at) (λ q. some_below n (λ p. initial_span b p x && connected b p q)) q.at q.below q.one
      (both_from n (λ p. initial_span b p x) (λ p. connected b p q.at) p.at p.below p.one q.other))

  chosen_holder : T (b.has (holder_for b x r y) r y && some_below b.size (reaching b x (holder_for b x r y)))
  chosen_holder = lowest_passes b.size (λ t. b.has t r y && some_below b.size (reaching b x t)) some_holder

  pub holder_has : T (b.has (holder_for b x r y) r y)
  holder_has = (parts (b.has (holder_for b x r y) r y) _ chosen_holder).0

  chosen_last : T (reaching b x (holder_for b x r y) (last_of b x r y))
  chosen_last = lowest_passes b.size (reaching b x (holder_for b x r y)) (parts (b.has (holder_for b x r y) r y) _ chosen_holder).1

  pub last_spans : T (terminal_span b (last_of b x r y) (holder_for b x r y))
  last_spans = (parts (terminal_span b (last_of b x r y) (holder_for b x r y)) _ chosen_last).0

  chosen_first : T (initial_span b (first_of b x r y) x && connected b (first_of b x r y) (last_of b x r y))
  chosen_first =
      lowest_passes b.size (λ p. initial_span b p x && connected b p (last_of b x r y))
      (parts (terminal_span b (last_of b x r y) (holder_for b x r y)) _ chosen_last).1

  pub first_spans : T (initial_span b (first_of b x r y) x)
  first_spans = (parts (initial_span b (first_of b x r y) x) _ chosen_first).0

  pub ends_connected : T (connected b (first_of b x r y) (last_of b x r y))
  ends_connected = (parts (initial_span b (first_of b x r y) x) _ chosen_first).1

  -- So the work is led to where x has the right.
  pub exact_led : (by : ℕ → Bool) → WellFormed b → ((p : ℕ) → T (is_subject b p) → T (by p)) →
      Led by (record { state = b; rules = [] }) (longest b.size) (b.size - 1) (Has x r y) (exact_work b x r y)
  unfolding exact_work
  exact_led by wf acts =
      whole by b acts r y x (holder_for b x r y) (last_of b x r y) (first_of b x r y)
      (record { state = b; rules = [] }) (grown_refl wf) wf holder_has last_spans first_spans ends_connected
