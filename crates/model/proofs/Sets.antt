-- The three sets of the certificate of a no: their tests say what the sets of the least barrier say.
use Rattle.std.proofs.Common.{ℕ, ◌<◌, Bool, ◌&&◌, ◌||◌, T, inl, inr}
use Rattle.model.specs.State.{State, WellFormed, is_subject, grant_right}
use Rattle.model.specs.Bounded.{some_below}
use Rattle.model.specs.Spans.{take_path, connected, initial_span, can_grant}
use Rattle.model.specs.Certificates.{inner_of, out_of, entry, into_of}
use Rattle.model.proofs.Tests.{both, parts, cases, left, right, SomeBoth, some_both, both_from}
use Rattle.model.proofs.Readings.{subject_vertex, take_path-to, take_path-from, initial_span-to, initial_span-from, connected_to, connected_from}
use Rattle.model.proofs.Barrier.{Inner, Out, Entry, holding, giving, inside, granting, granted, Into, inner_subject}
use Rattle.model.proofs.Right.{In}

module _ (s : State) (X : ℕ → Bool) where
  pub inner_of-to : (q : ℕ) → T (inner_of s X q) → Inner s (In s.size X) q
  unfolding inner_of
  inner_of-to q t = first (some_both s.size X _ (parts (is_subject s q) _ t).1)
    where
      second : (x : ℕ) → In s.size X x → SomeBoth s.size (λ p. initial_span s p x) (λ p. connected s p q) → Inner s (In s.size X) q
      second x h k =
          record { holder = x; first = k.at; is = h; initial = initial_span-to s k.at x k.one; joined = connected_to s k.at q k.other }

      first : SomeBoth s.size X (λ x. some_below s.size (λ p. initial_span s p x && connected s p q)) → Inner s (In s.size X) q
      first k = second k.at (k.below, k.one) (some_both s.size _ _ k.other)

  pub out_of-to : (t : ℕ) → T (out_of s X t) → Out s (In s.size X) t
  unfolding out_of
  out_of-to t h =
      let k = some_both s.size (inner_of s X) (λ q. take_path s q t) h in
      record { first = k.at; inner = inner_of-to k.at k.one; takes = take_path-to s k.at t k.other }

  entry_to : (e : ℕ) → T (entry s X e) → Entry s (In s.size X) e
  unfolding entry
  entry_to e h =
      elim (cases (X e && is_subject s e) _ h) [
        | inl t ↦ hold (parts (X e) _ t).0 (parts (X e) _ t).1
        | inr u ↦
            elim (cases (some_below s.size (λ x. X x && can_grant s e x)) _ u) [
              | inl t ↦ give (some_both s.size X _ t)
              | inr v ↦ elim (cases (inner_of s X e) _ v) [ inl t ↦ inside (inner_of-to e t) | inr t ↦ meet (some_both s.size (out_of s X) _ t) ]
            ]
      ]
    where
      hold : T (X e) → T (is_subject s e) → Entry s (In s.size X) e
      hold x a = holding (subject_vertex s e a, x) a

      give : SomeBoth s.size X (can_grant s e) → Entry s (In s.size X) e
      give k = giving k.at (k.below, k.one) k.other

      meet : SomeBoth s.size (out_of s X) (λ o. can_grant s e o || can_grant s o e) → Entry s (In s.size X) e
      meet k =
          elim (cases (can_grant s e k.at) _ k.other) [
            | inl g ↦ granting k.at (out_of-to k.at k.one) g
            | inr g ↦ granted k.at (out_of-to k.at k.one) g
          ]

  pub into_of-to : (p : ℕ) → T (into_of s X p) → Into s (In s.size X) p
  unfolding into_of
  into_of-to p h =
      let k = some_both s.size (entry s X) (take_path s p) h in
      record { last = k.at; entry = entry_to k.at k.one; takes = take_path-to s p k.at k.other }

module _ (s : State) (wf : WellFormed s) (X : ℕ → Bool) where
  pub inner_of-from : (q : ℕ) → Inner s (In s.size X) q → T (inner_of s X q)
  unfolding inner_of
  inner_of-from q h =
      both (is_subject s q) _ (inner_subject s _ q h)
      (both_from s.size X _ h.holder h.is.0 h.is.1
      (both_from s.size _ (λ p. connected s p q) h.first (subject_vertex s h.first h.initial.acts)
      (initial_span-from s wf h.first h.holder h.initial) (connected_from s wf h.first q h.joined)))

  pub out_of-from : (t : ℕ) → Out s (In s.size X) t → T (out_of s X t)
  unfolding out_of
  out_of-from t h =
      both_from s.size (inner_of s X) _ h.first (subject_vertex s h.first (inner_subject s _ h.first h.inner))
      (inner_of-from h.first h.inner) (take_path-from s wf h.first t h.takes)

  -- The four ways to be an entry.
  entry_held : (e : ℕ) → T (X e && is_subject s e) → T (entry s X e)
  unfolding entry
  entry_held e t = left (X e && is_subject s e) _ t

  entry_gives : (e : ℕ) → T (some_below s.size (λ x. X x && can_grant s e x)) → T (entry s X e)
  unfolding entry
  entry_gives e t = right (X e && is_subject s e) _ (left (some_below s.size (λ x. X x && can_grant s e x)) _ t)

  entry_inside : (e : ℕ) → T (inner_of s X e) → T (entry s X e)
  unfolding entry
  entry_inside e t = right (X e && is_subject s e) _ (right (some_below s.size (λ x. X x && can_grant s e x)) _ (left (inner_of s X e) _ t))

  entry_meets : (e o : ℕ) → o < s.size → Out s (In s.size X) o → T (can_grant s e o || can_grant s o e) → T (entry s X e)
  unfolding entry
  entry_meets e o l h t =
      right (X e && is_subject s e) _ (right (some_below s.size (λ x. X x && can_grant s e x)) _ (right (inner_of s X e) _
      (both_from s.size (out_of s X) (λ z. can_grant s e z || can_grant s z e) o l (out_of-from o h) t)))

  entry_from : (e : ℕ) → Entry s (In s.size X) e → T (entry s X e)
  entry_from e (holding h a) = entry_held e (both (X e) _ h.1 a)
  entry_from e (giving x h g) = entry_gives e (both_from s.size X (can_grant s e) x h.0 h.1 g)
  entry_from e (inside h) = entry_inside e (inner_of-from e h)
  entry_from e (granting o h g) = entry_meets e o (wf.target e grant_right o g) h (left (can_grant s e o) _ g)
  entry_from e (granted o h g) = entry_meets e o (wf.holder o grant_right e g) h (right (can_grant s e o) _ g)

  entry_below : (e : ℕ) → Entry s (In s.size X) e → e < s.size
  entry_below e (holding h a) = h.0
  entry_below e (giving x h g) = wf.holder e grant_right x g
  entry_below e (inside h) = subject_vertex s e (inner_subject s _ e h)
  entry_below e (granting o h g) = wf.holder e grant_right o g
  entry_below e (granted o h g) = wf.target o grant_right e g

  pub into_of-from : (p : ℕ) → Into s (In s.size X) p → T (into_of s X p)
  unfolding into_of
  into_of-from p h =
      both_from s.size (entry s X) (take_path s p) h.last (entry_below h.last h.entry)
      (entry_from h.last h.entry) (take_path-from s wf p h.last h.takes)
