-- A row of acts: what is answered if they play through, and if one fails.
use Rattle.std.proofs.Common.{◌≡◌, ℕ, zero, suc, ◌+◌, ◌-◌, ◌<◌, ◌≤◌, T, ltb, List, [], ◌∷◌, ◌++◌, length, Ok, Err, Result, sym, refl, ap, ◌∙◌, subst, ap₂, inl, inr, add-zero, arith}
use Rattle.std.proofs.lemmas.Bool.Decides.{nat_tests}
use Rattle.std.proofs.lemmas.List.{length-append}
use Rattle.std.proofs.lemmas.Bool.{cond-true, cond-false, lt-ltb, le-ltb, ltb-true, ltb-false}
use Rattle.model.specs.State.{State}
use Rattle.model.specs.Rules.{applicable, applied, after, all_applicable}
use Rattle.model.specs.declared.Rule.{Rule}
use Rattle.model.proofs.Tests.{both, parts}
use Rattle.codec.specs.declared.fault.Fault.{Fault}
use Rattle.codec.specs.Reading.{onward}
use Rattle.codec.specs.Acts.{act_at, act_bytes}
use Rattle.codec.specs.Played.{acts_bytes, Readable}
use Rattle.codec.specs.Replay.{performed, performed_at, acts_at}
use Rattle.codec.specs.RoundTrips.{AreBytes}
use Rattle.codec.proofs.Inverted.{ok_same, never_err, onward_ok, onward_err, cond_ways}
use Rattle.codec.proofs.Stands.{Stands, stands_append, stands_left, stands_right, stands_within}
use Rattle.codec.proofs.ActBytes.{act_read, act_ok, ActStood}
use Rattle.codec.proofs.Performed.{after_on, after_grows, performed_done, performed_ok, DoneWell}
use Rattle.codec.proofs.RoundTrips.{some_bytes}

module _ (bs : List ℕ) where
  -- Acts that may be done are done, and then what follows them.
  acts_run : (acts : List Rule) (most at i : ℕ) (s : State) {R : Result State Fault} → Stands bs at (acts_bytes acts) → at ≤ length bs → length bs ≤ at + most → Readable s acts → T (all_applicable s acts) → (after s acts).size < 256 → ((left : ℕ) → length bs ≤ at + length (acts_bytes acts) + left → acts_at left bs (at + length (acts_bytes acts)) (i + length acts) (after s acts) ≡ R) → acts_at most bs at i s ≡ R
  unfolding acts_at acts_bytes Readable all_applicable after
  acts_run [] most at i s h e m r t l goes = ap₂ (λ a b. acts_at most bs a b s) (sym (add-zero at)) (sym (add-zero i)) ∙ goes most (omega arith)
  acts_run (a ∷ more) zero at i s h e m r t l goes = absurd (let k = some_bytes a in let w = stands_within bs (act_bytes a) at (stands_left bs (act_bytes a) (acts_bytes more) at h) e in omega arith)
  acts_run (a ∷ more) (suc most) at i s h e m r t l goes =
      let stood = stands_left bs (act_bytes a) (acts_bytes more) at h in
      let k = some_bytes a in
      let w = stands_within bs (act_bytes a) at stood e in
      let g = length-append (act_bytes a) (acts_bytes more) in
      let may = parts (applicable s a) (all_applicable (applied s a) more) t in
      let next = at + length (act_bytes a) in
      let z = after_on s a more may.0 in
      let size = ap (λ u. u.size) z in
      let grows = after_grows (applied s a) more may.1 in
      let read = act_read bs s.size a at r.0 stood in
      let done = performed_done s a i may.0 (omega arith) in
      let one : acts_at (suc most) bs at i s ≡ acts_at most bs next (i + 1) (applied s a) = grind (arith, nat_tests) in
      let ends : next + length (acts_bytes more) ≡ at + length (act_bytes a ++ acts_bytes more) = omega arith in
      let count : i + 1 + length more ≡ i + suc (length more) = omega arith in
      one ∙
      acts_run more most next (i + 1) (applied s a) (stands_right bs (act_bytes a) (acts_bytes more) at h) (omega arith) (omega arith) r.1 may.1 (omega arith) λ left n.
      let there = goes left (omega arith) in cc

  -- At the end of the input there is nothing to do.
  pub acts_end : (most at i : ℕ) (s : State) → length bs ≤ at → acts_at most bs at i s ≡ Ok s
  unfolding acts_at
  acts_end zero at i s l = refl
  acts_end (suc most) at i s l = cond-false (ltb at (length bs)) _ _ (le-ltb at (length bs) l)

  -- Elsewhere an act that fails is the answer.
  acts_fail : (most at i : ℕ) (s : State) (f : Fault) → at < length bs → length bs ≤ at + most → performed_at bs at i s ≡ Err f → acts_at most bs at i s ≡ Err f
  unfolding acts_at
  acts_fail zero at i s f l m e = absurd (omega arith)
  acts_fail (suc most) at i s f l m e =
      cond-true (ltb at (length bs)) _ _ (lt-ltb at (length bs) l) ∙ ap (λ x. onward x λ t. acts_at most bs t.1 (i + 1) t.0) e

  -- One more turn, of so many as the input has bytes.
  pub acts_turn : (at i : ℕ) (s : State) → at < length bs → i ≤ at → acts_at (length bs - i) bs at i s ≡ onward (performed_at bs at i s) λ t. acts_at (length bs - (i + 1)) bs t.1 (i + 1) t.0
  unfolding acts_at
  acts_turn at i s l k =
      ap (λ m. acts_at m bs at i s) (let turn : length bs - i ≡ suc (length bs - (i + 1)) = omega arith in turn) ∙ cond-true (ltb at (length bs)) _ _ (lt-ltb at (length bs) l)

  module _ (acts : List Rule) (at i : ℕ) (s : State) (stands : Stands bs at (acts_bytes acts)) (there : at ≤ length bs) (readable : Readable s acts) (may : T (all_applicable s acts)) (room : (after s acts).size < 256) where
    pub acts_play : at + length (acts_bytes acts) ≡ length bs → acts_at (length bs) bs at i s ≡ Ok (after s acts)
    acts_play e = acts_run acts (length bs) at i s stands there (omega arith) readable may room λ left n. acts_end left _ _ (after s acts) (omega arith)

    pub acts_break : (f : Fault) → at + length (acts_bytes acts) < length bs → performed_at bs (at + length (acts_bytes acts)) (i + length acts) (after s acts) ≡ Err f → acts_at (length bs) bs at i s ≡ Err f
    acts_break f l e = acts_run acts (length bs) at i s stands there (omega arith) readable may room λ left n. acts_fail left _ _ (after s acts) f l n e

  -- Acts that were done one after the other, and what is so where they end: at which byte, after how many, and in which state.
  pub record Done (at i : ℕ) (s : State) (Ends : ℕ → ℕ → State → Type 0) : Type 0 where
    pub acts : List Rule
    pub readable : Readable s acts
    pub may : T (all_applicable s acts)
    pub room : s.size < 256 → (after s acts).size < 256
    pub stands : Stands bs at (acts_bytes acts)
    pub ends : Ends (at + length (acts_bytes acts)) (i + length acts) (after s acts)

  no_acts : (at i : ℕ) (s : State) (Ends : ℕ → ℕ → State → Type 0) → Ends at i s → Done at i s Ends
  unfolding acts_bytes Readable all_applicable after
  no_acts at i s Ends e = record { acts = []; readable = tt; may = tt; room = λ k. k; stands = tt; ends = subst (λ m. Ends m (i + 0) s) (sym (add-zero at)) (subst (λ j. Ends at j s) (sym (add-zero i)) e) }

  one_act : (at next i : ℕ) (a : Rule) (s u : State) (Ends : ℕ → ℕ → State → Type 0) → ActStood bs s.size at a next → DoneWell s a u → Done next (i + 1) u Ends → Done at i s Ends
  unfolding acts_bytes Readable all_applicable
  one_act at next i a s u Ends h d k =
      let z = h.ends in
      let more = k.acts in
      let g = length-append (act_bytes a) (acts_bytes more) in
      let e : after u more ≡ after s (a ∷ more) = ap (λ v. after v more) d.result ∙ sym (after_on s a more d.may) in
      record {
        acts = a ∷ more;
        readable = (h.range, subst (λ v. Readable v more) d.result k.readable);
        may = both _ _ d.may (subst (λ v. T (all_applicable v more)) d.result k.may);
        room = λ l. subst (λ v. v.size < 256) e (k.room (subst (λ v. v.size < 256) (sym d.result) (d.room l)));
        stands = stands_append bs (act_bytes a) (acts_bytes more) at h.stands (subst (λ m. Stands bs m (acts_bytes more)) z k.stands);
        ends = subst (λ m. Ends m (i + suc (length more)) (after s (a ∷ more))) (omega arith) (subst (λ j. Ends (next + length (acts_bytes more)) j (after s (a ∷ more))) (omega arith) (subst (Ends (next + length (acts_bytes more)) (i + 1 + length more)) e k.ends));
      }

  -- At the end of the input, in the state that was answered; or before it, at an act that fails.
  abbrev pub Over : State → ℕ → ℕ → State → Type 0
  Over t end i u = (end ≡ length bs) × (t ≡ u)

  abbrev pub Fails : Fault → ℕ → ℕ → State → Type 0
  Fails f end i u = (end < length bs) × (performed_at bs end i u ≡ Err f)

  module _ (bytes : AreBytes bs) where
    -- An act that was done.
    pub done_act : (at i : ℕ) (s : State) (r : State × ℕ) → performed_at bs at i s ≡ Ok r → (a : Rule) × DoneWell s a r.0 × ActStood bs s.size at a r.1
    done_act at i s r e =
        let q = onward_ok (act_at bs s.size at) (λ x. onward (performed s x.0 i) λ u. Ok (u, x.1)) r e in
        let p = onward_ok (performed s q.0.0 i) (λ u. Ok (u, q.0.1)) r q.2 in
        let z = ok_same (p.0, q.0.1) r p.2 in
        (q.0.0, subst (λ (x : State × ℕ). DoneWell s q.0.0 x.0) z (performed_ok s q.0.0 i p.0 p.1), subst (λ (x : State × ℕ). ActStood bs s.size at q.0.0 x.1) z (act_ok bs bytes s.size at q.0 q.1))

    pub acts_ok : (most at i : ℕ) (s t : State) → at ≤ length bs → length bs ≤ at + most → acts_at most bs at i s ≡ Ok t → Done at i s (Over t)
    unfolding acts_at
    acts_ok zero at i s t l m e = no_acts at i s (Over t) (omega arith, sym (ok_same s t e))
    acts_ok (suc most) at i s t l m e =
        elim (cond_ways (ltb at (length bs)) _ _ _ e) [
          | inr n ↦ no_acts at i s (Over t) (let h = ltb-false at (length bs) n.0 in omega arith, sym (ok_same s t n.1))
          | inl y ↦
              let p = onward_ok (performed_at bs at i s) (λ x. acts_at most bs x.1 (i + 1) x.0) t y.1 in
              let d = done_act at i s p.0 p.1 in
              let h = d.2 in
              let z = h.ends in
              let k = some_bytes d.0 in
              let w = stands_within bs (act_bytes d.0) at h.stands l in
              one_act at p.0.1 i d.0 s p.0.0 (Over t) h d.1 (acts_ok most p.0.1 (i + 1) p.0.0 t (omega arith) (omega arith) p.2)
        ]

    -- Acts that failed: some were done, and then one was not.
    pub acts_broken : (most at i : ℕ) (s : State) (f : Fault) → at ≤ length bs → length bs ≤ at + most → acts_at most bs at i s ≡ Err f → Done at i s (Fails f)
    unfolding acts_at
    acts_broken zero at i s f l m e = never_err s f e
    acts_broken (suc most) at i s f l m e =
        elim (cond_ways (ltb at (length bs)) _ _ _ e) [
          | inr n ↦ never_err s f n.1
          | inl y ↦ elim (onward_err (performed_at bs at i s) (λ x. acts_at most bs x.1 (i + 1) x.0) f y.1) [
            | inl b ↦ no_acts at i s (Fails f) (ltb-true at (length bs) y.0, b)
            | inr p ↦
                let d = done_act at i s p.0 p.1 in
                let h = d.2 in
                let z = h.ends in
                let k = some_bytes d.0 in
                let w = stands_within bs (act_bytes d.0) at h.stands l in
                one_act at p.0.1 i d.0 s p.0.0 (Fails f) h d.1 (acts_broken most p.0.1 (i + 1) p.0.0 f (omega arith) (omega arith) p.2)
          ]
        ]
