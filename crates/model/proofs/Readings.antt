-- Each test of spans and of sharing says what its relation says: without more from the test to the relation, and back in a well-formed state.
use Rattle.std.proofs.Common.{◌≡◌, ℕ, ◌<◌, Bool, ◌&&◌, ◌||◌, T, eqb, inl, inr, eqb→eq, ltb→lt}
use Rattle.model.specs.State.{State, WellFormed, is_subject, is_vertex, take_right, grant_right}
use Rattle.model.specs.Bounded.{some_below}
use Rattle.model.specs.Spans.{can_take, can_grant, take_path, TakePath, meet, bridge, Joins, ahead, back, over, under, Bridge, connected, Connected}
use Rattle.model.specs.Spans.{initial_span, Grants, itself, through, InitialSpan, terminal_span, TerminalSpan}
use Rattle.model.specs.Sharing.{can_get, CanGet, can_share, CanShare}
use Rattle.model.proofs.Tests.{both, parts, cases, left, right, eq_test, SomeBoth, some_both, both_from}
use Rattle.model.proofs.Stars.{map_steps}
use Rattle.model.proofs.Rounds.{star_to, star_from, closed_is}

pub subject_vertex : (s : State) (p : ℕ) → T (is_subject s p) → p < s.size
subject_vertex s p t = ltb→lt p s.size (parts (is_vertex s p) _ t).0

module _ (s : State) where
  pub take_path-to : (x y : ℕ) → T (take_path s x y) → TakePath s x y
  unfolding take_path
  take_path-to x y t = star_to s.size (can_take s) s.size x y t

  pub terminal_span-to : (q t : ℕ) → T (terminal_span s q t) → TerminalSpan s q t
  unfolding terminal_span
  terminal_span-to q t h = let u = parts (is_subject s q) _ h in record { acts = u.0; takes = take_path-to q t u.1 }

  pub initial_span-to : (p x : ℕ) → T (initial_span s p x) → InitialSpan s p x
  unfolding initial_span
  initial_span-to p x h = let u = parts (is_subject s p) _ h in record { acts = u.0; grants = granting u.1 }
    where
      reached : SomeBoth s.size (take_path s p) (λ u. can_grant s u x) → Grants s p x
      reached w = through w.at (take_path-to p w.at w.one) w.other

      granting : T (eqb p x || some_below s.size (λ u. take_path s p u && can_grant s u x)) → Grants s p x
      granting t = elim (cases (eqb p x) _ t) [ inl e ↦ itself (eqb→eq p x e) | inr w ↦ reached (some_both s.size _ _ w) ]

  meet_to : (p q : ℕ) → T (meet s p q) → Joins s p q
  unfolding meet
  meet_to p q h = first (some_both s.size (take_path s p) _ h)
    where
      second : (u : ℕ) → TakePath s p u → SomeBoth s.size (take_path s q) (λ v. can_grant s u v || can_grant s v u) → Joins s p q
      second u w k =
          elim (cases (can_grant s u k.at) _ k.other) [
            | inl g ↦ over u k.at w (take_path-to q k.at k.one) g
            | inr g ↦ under u k.at w (take_path-to q k.at k.one) g
          ]

      first : SomeBoth s.size (take_path s p) (λ u. some_below s.size (λ v. take_path s q v && (can_grant s u v || can_grant s v u))) → Joins s p q
      first k = second k.at (take_path-to p k.at k.one) (some_both s.size (take_path s q) _ k.other)

  pub bridge_to : (p q : ℕ) → T (bridge s p q) → Bridge s p q
  unfolding bridge
  bridge_to p q h =
      let u = parts (is_subject s p) _ h in
      let v = parts (is_subject s q) _ u.1 in
      record { one = u.0; other = v.0; joins = joined v.1 }
    where
      joined : T (take_path s p q || (take_path s q p || meet s p q)) → Joins s p q
      joined t =
          elim (cases (take_path s p q) _ t) [
            | inl w ↦ ahead (take_path-to p q w)
            | inr u ↦ elim (cases (take_path s q p) _ u) [ inl w ↦ back (take_path-to q p w) | inr m ↦ meet_to p q m ]
          ]

  pub connected_to : (p q : ℕ) → T (connected s p q) → Connected s p q
  unfolding connected
  connected_to p q t = map_steps bridge_to (star_to s.size (bridge s) s.size p q t)

  pub can_get-to : (x r y : ℕ) → T (can_get s x r y) → CanGet s x r y
  unfolding can_get
  can_get-to x r y h = first (some_both s.size (λ t. s.has t r y) _ h)
    where
      third : (t p : ℕ) → T (s.has t r y) → InitialSpan s p x → SomeBoth s.size (λ q. terminal_span s q t) (connected s p) → CanGet s x r y
      third t p g i k =
          record {
            holder = t;
            first = p;
            last = k.at;
            holds = g;
            initial = i;
            terminal = terminal_span-to k.at t k.one;
            joined = connected_to p k.at k.other;
          }

      second :
          (t : ℕ) → T (s.has t r y) → SomeBoth s.size (λ p. initial_span s p x) (λ p. some_below s.size (λ q. terminal_span s q t && connected s p q)) →
          CanGet s x r y
      second t g k = third t k.at g (initial_span-to k.at x k.one) (some_both s.size _ (connected s k.at) k.other)

      first :
          SomeBoth s.size (λ t. s.has t r y)
          (λ t. some_below s.size (λ p. initial_span s p x && some_below s.size (λ q. terminal_span s q t && connected s p q))) →
          CanGet s x r y
      first k = second k.at k.one (some_both s.size (λ p. initial_span s p x) _ k.other)

  pub can_share-to : (x r y : ℕ) → T (can_share s x r y) → CanShare s x r y
  unfolding can_share
  can_share-to x r y h = elim (cases (s.has x r y) _ h) [ inl t ↦ inl t | inr t ↦ inr (can_get-to x r y t) ]

module _ (s : State) (wf : WellFormed s) where
  pub take_path-from : (x y : ℕ) → TakePath s x y → T (take_path s x y)
  unfolding take_path
  take_path-from x y v = star_from s.size (can_take s) (λ a b. wf.target a take_right b) v

  pub terminal_span-from : (q t : ℕ) → TerminalSpan s q t → T (terminal_span s q t)
  unfolding terminal_span
  terminal_span-from q t h = both (is_subject s q) _ h.acts (take_path-from q t h.takes)

  grants_from : (p x : ℕ) → Grants s p x → T (eqb p x || some_below s.size (λ u. take_path s p u && can_grant s u x))
  grants_from p x (itself e) = left (eqb p x) _ (eq_test p x e)
  grants_from p x (through u w g) =
      right (eqb p x) _ (both_from s.size (take_path s p) _ u (wf.holder u grant_right x g) (take_path-from p u w) g)

  pub initial_span-from : (p x : ℕ) → InitialSpan s p x → T (initial_span s p x)
  unfolding initial_span
  initial_span-from p x h = both (is_subject s p) _ h.acts (grants_from p x h.grants)

  meet_from : (p q u v : ℕ) → TakePath s p u → TakePath s q v → u < s.size → v < s.size → T (can_grant s u v || can_grant s v u) → T (meet s p q)
  unfolding meet
  meet_from p q u v w z l m g =
      both_from s.size (take_path s p) _ u l (take_path-from p u w) (both_from s.size (take_path s q) _ v m (take_path-from q v z) g)

  joins_from : (p q : ℕ) → Joins s p q → T (take_path s p q || (take_path s q p || meet s p q))
  joins_from p q (ahead w) = left (take_path s p q) _ (take_path-from p q w)
  joins_from p q (back w) = right (take_path s p q) _ (left (take_path s q p) _ (take_path-from q p w))
  joins_from p q (over u v w z g) =
      right (take_path s p q) _ (right (take_path s q p) _
      (meet_from p q u v w z (wf.holder u grant_right v g) (wf.target u grant_right v g) (left (can_grant s u v) _ g)))
  joins_from p q (under u v w z g) =
      right (take_path s p q) _ (right (take_path s q p) _
      (meet_from p q u v w z (wf.target v grant_right u g) (wf.holder v grant_right u g) (right (can_grant s u v) _ g)))

  pub bridge_from : (p q : ℕ) → Bridge s p q → T (bridge s p q)
  unfolding bridge
  bridge_from p q h = both (is_subject s p) _ h.one (both (is_subject s q) _ h.other (joins_from p q h.joins))

  bridge_below : (a b : ℕ) → T (bridge s a b) → b < s.size
  bridge_below a b t = subject_vertex s b (bridge_to s a b t).other

  pub connected_from : (p q : ℕ) → Connected s p q → T (connected s p q)
  unfolding connected
  connected_from p q v = star_from s.size (bridge s) bridge_below (map_steps bridge_from v)

  pub can_get-from : (x r y : ℕ) → CanGet s x r y → T (can_get s x r y)
  unfolding can_get
  can_get-from x r y h =
      both_from s.size (λ t. s.has t r y) _ h.holder (wf.holder h.holder r y h.holds) h.holds
      (both_from s.size (λ p. initial_span s p x) _ h.first (subject_vertex s h.first h.initial.acts) (initial_span-from h.first x h.initial)
      (both_from s.size _ (connected s h.first) h.last (subject_vertex s h.last h.terminal.acts)
      (terminal_span-from h.last h.holder h.terminal) (connected_from h.first h.last h.joined)))

  pub can_share-from : (x r y : ℕ) → CanShare s x r y → T (can_share s x r y)
  unfolding can_share
  can_share-from x r y (inl t) = left (s.has x r y) _ t
  can_share-from x r y (inr h) = right (s.has x r y) _ (can_get-from x r y h)

  -- A set of vertices that is closed under take rights, holds x, and holds only what a take path from x leads to, is a row of take paths;
  pub take_path-is :
      (S : ℕ → Bool) (x : ℕ) → x < s.size → T (S x) → ((a b : ℕ) → a < s.size → b < s.size → T (S a) → T (can_take s a b) → T (S b)) →
      ((y : ℕ) → y < s.size → T (S y) → TakePath s x y) → (y : ℕ) → y < s.size → S y ≡ take_path s x y
  unfolding take_path
  take_path-is S x l start closed led y h = closed_is s.size (can_take s) S x l start closed led (λ a b. wf.target a take_right b) y h

  -- and one that is closed under bridges is what is connected with x.
  pub connected_is :
      (S : ℕ → Bool) (x : ℕ) → x < s.size → T (S x) → ((a b : ℕ) → a < s.size → b < s.size → T (S a) → T (bridge s a b) → T (S b)) →
      ((y : ℕ) → y < s.size → T (S y) → Connected s x y) → (y : ℕ) → y < s.size → S y ≡ connected s x y
  unfolding connected
  connected_is S x l start closed led y h =
      closed_is s.size (bridge s) S x l start closed (λ z m t. map_steps bridge_from (led z m t)) bridge_below y h
