-- The exact witness over one bridge: what p has, q comes to have, by rules of these two.
-- All paths and bridges are those of the first state b; the state of the work is only known to be grown from it.
use Rattle.std.proofs.Common.{ℕ, ◌+◌, ◌*◌, Bool, cond, ◌&&◌, ◌||◌, T, inl, inr, arith}
use Rattle.model.specs.State.{State, is_subject, take_right, grant_right}
use Rattle.model.specs.Bounded.{some_below}
use Rattle.model.specs.Spans.{take_path, can_grant, meet, bridge}
use Rattle.model.specs.Plans.{Grown, Has}
use Rattle.model.specs.Exact.{Work, doing, granting, creating, taking_unless_held, taking_to, meeting, near_end, far_end, fetched, left, passed, asked}
use Rattle.model.specs.Exact.{over_bridge}
use Rattle.model.proofs.Tests.{parts, cases}
use Rattle.model.proofs.Grown.{grown_trans}
use Rattle.model.proofs.Taking.{Acts}
use Rattle.model.proofs.ExactChoices.{either_way, lowest_passes}
use Rattle.model.proofs.ExactSteps.{Led, widen, followed, take_one, grant_one, create_one, take_to}

-- Where the take paths of p and of q meet at a grant, the chosen ends are such a place.
module _ (b : State) (p q : ℕ) (t : T (meet b p q)) where
  near : T (take_path b p (near_end b p q) && some_below b.size (meeting b q (near_end b p q)))
  unfolding meet
  near = lowest_passes b.size (λ u. take_path b p u && some_below b.size (meeting b q u)) t

  far : T (meeting b q (near_end b p q) (far_end b q (near_end b p q)))
  far = lowest_passes b.size (meeting b q (near_end b p q)) (parts (take_path b p (near_end b p q)) _ near).1

  pub near_path : T (take_path b p (near_end b p q))
  near_path = (parts (take_path b p (near_end b p q)) _ near).0

  pub far_path : T (take_path b q (far_end b q (near_end b p q)))
  far_path = (parts (take_path b q (far_end b q (near_end b p q))) _ far).0

  pub ends_grant : T (can_grant b (near_end b p q) (far_end b q (near_end b p q)) || can_grant b (far_end b q (near_end b p q)) (near_end b p q))
  ends_grant = (parts (take_path b q (far_end b q (near_end b p q))) _ far).1

module _ (by : ℕ → Bool) (b : State) (w : Work) (g : Grown b w.state) (p q : ℕ) (pa : Acts by b p) (qa : Acts by b q)
    (r y : ℕ) (h : T (w.state.has p r y)) where
  -- Through an object o that q can take from, and that u, to which p takes its path, can grant to.
  pub through : (o u : ℕ) (v : Work) → Grown w.state v.state → T (v.state.has q take_right o) → T (v.state.has u grant_right o) → T (take_path b p u) →
      Led by v (b.size + 2) 0 (Has q r y) (taking_unless_held q o r y (doing (granting p o r y) (taking_to b p u grant_right o v)))
  through o u v i t k path =
      let gv = grown_trans g i in
      let v1 = taking_to b p u grant_right o v in
      widen _ _ (omega arith) (omega arith)
      (followed (take_to by b p pa grant_right o u v gv k path) (λ j m.
      let gj = grown_trans gv j in
      followed (grant_one pa v1 gj o r y m (j.rights p r y (i.rights p r y h))) (λ l n.
      take_one qa (doing (granting p o r y) v1) (grown_trans gj l) o r y n (λ _. l.rights q take_right o (j.rights q take_right o t)))))

  pub over_fetched : T (take_path b q p) → Led by w b.size 0 (Has q r y) (fetched b p q r y w)
  over_fetched path = take_to by b q qa r y p w g h path

  pub over_left : T (take_path b p q) → Led by w (b.size + 3) 1 (Has q r y) (left b p q r y w.state.size w)
  over_left path =
      widen _ _ (omega arith) (omega arith)
      (followed (create_one qa w g) (λ i t. through w.state.size q (doing (creating q) w) i t.0 t.1 path))

  pub over_passed : (u v : ℕ) → T (take_path b p u) → T (take_path b q v) → T (can_grant b u v) → Led by w (2 * b.size + 1) 0 (Has q r y) (passed b p q r y u v w)
  over_passed u v pu qv t =
      let w1 = taking_to b p u grant_right v w in
      widen _ _ (omega arith) (omega arith)
      (followed (take_to by b p pa grant_right v u w g (g.rights u grant_right v t) pu) (λ i k.
      let gi = grown_trans g i in
      followed (grant_one pa w1 gi v r y k (i.rights p r y h)) (λ j m.
      take_to by b q qa r y v (doing (granting p v r y) w1) (grown_trans gi j) m qv)))

  pub over_asked : (u v : ℕ) → T (take_path b p u) → T (take_path b q v) → T (can_grant b v u) →
      Led by w (2 * b.size + 4) 1 (Has q r y) (asked b p q r y u v w.state.size w)
  over_asked u v pu qv t =
      let o = w.state.size in
      let w1 = doing (creating q) w in
      let w2 = taking_to b q v grant_right u w1 in
      widen _ _ (omega arith) (omega arith)
      (followed (create_one qa w g) (λ i m.
      let gi = grown_trans g i in
      followed (take_to by b q qa grant_right u v w1 gi (gi.rights v grant_right u t) qv) (λ j k.
      followed (grant_one qa w2 (grown_trans gi j) u grant_right o k (j.rights q grant_right o m.1)) (λ l n.
      let jl = grown_trans j l in
      through o u (doing (granting q u grant_right o) w2) (grown_trans i jl) (jl.rights q take_right o m.0) n pu))))

  pub over_meet : T (meet b p q) → Led by w (2 * b.size + 4) 1 (Has q r y)
      (cond (can_grant b (near_end b p q) (far_end b q (near_end b p q)))
      (passed b p q r y (near_end b p q) (far_end b q (near_end b p q)) w)
      (asked b p q r y (near_end b p q) (far_end b q (near_end b p q)) w.state.size w))
  over_meet t =
      let u = near_end b p q in
      let v = far_end b q (near_end b p q) in
      either_way (Led by w (2 * b.size + 4) 1 (Has q r y)) (can_grant b u v) _ _
      (λ k. widen _ _ (omega arith) (omega arith) (over_passed u v (near_path b p q t) (far_path b p q t) k)) (λ none.
      elim (cases (can_grant b u v) (can_grant b v u) (ends_grant b p q t)) [
        | inl k ↦ absurd (none k)
        | inr k ↦ over_asked u v (near_path b p q t) (far_path b p q t) k
      ])

-- Over one bridge: at most 2n + 4 rules and one creation.
pub over_bridge-law : (by : ℕ → Bool) (b : State) (w : Work) → Grown b w.state → (p q : ℕ) → T (by p) → T (by q) → T (bridge b p q) → (r y : ℕ) →
    T (w.state.has p r y) → Led by w (2 * b.size + 4) 1 (Has q r y) (over_bridge b p q r y w)
unfolding bridge over_bridge
over_bridge-law by b w g p q bp bq t r y h =
    let k = parts (is_subject b p) _ t in
    let l = parts (is_subject b q) _ k.1 in
    let pa : Acts by b p = record { allowed = bp; subject = k.0 } in
    let qa : Acts by b q = record { allowed = bq; subject = l.0 } in
    either_way (Led by w (2 * b.size + 4) 1 (Has q r y)) (take_path b q p) _ _
    (λ path. widen _ _ (omega arith) (omega arith) (over_fetched by b w g p q pa qa r y h path)) (λ no-back.
    either_way (Led by w (2 * b.size + 4) 1 (Has q r y)) (take_path b p q) _ _
    (λ path. widen _ _ (omega arith) (omega arith) (over_left by b w g p q pa qa r y h path)) (λ no-ahead.
    elim (cases (take_path b p q) _ l.1) [
      | inl path ↦ absurd (no-ahead path)
      | inr m ↦
          elim (cases (take_path b q p) (meet b p q) m) [
            | inl path ↦ absurd (no-back path)
            | inr m ↦ over_meet by b w g p q pa qa r y h m
          ]
    ]))
