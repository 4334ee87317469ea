-- Over a bridge: what q has, p comes to have, by rules of these two alone. One case for each way in which a bridge joins them.
use Rattle.std.proofs.Common.{ℕ, ◌+◌, ◌*◌, Bool, ◌||◌, T, eqb, inl, inr, arith}
use lib.Dec.{eqb_refl}
use Rattle.model.specs.State.{State, is_subject, take_right, grant_right}
use Rattle.model.specs.Spans.{take_path, can_grant, meet, bridge}
use Rattle.model.specs.Plans.{Grown, Plan, Has, Exchange}
use Rattle.model.proofs.Tests.{parts, cases, left, right, some_both}
use Rattle.model.proofs.Readings.{bridge_to, bridge_from}
use Rattle.model.proofs.Symmetry.{turn_bridge}
use Rattle.model.proofs.Grown.{grown_refl, grown_trans}
use Rattle.model.proofs.Plan.{widen, reaching, followed, takes_unless_held, grants, creates}
use Rattle.model.proofs.Taking.{Acts, taking_far}

-- Who acts in the first state acts in a grown one: its single rules there.
module _ {by : ℕ → Bool} {b d : State} {p : ℕ} (a : Acts by b p) (g : Grown b d) where
  take_one : (y r z : ℕ) → T (d.has p take_right y) → T (d.has y r z) → Plan by d 1 0 (Has p r z)
  take_one = takes_unless_held by d g.well_formed p a.allowed (g.subjects p a.subject)

  pub grant_one : (y r z : ℕ) → T (d.has p grant_right y) → T (d.has p r z) → Plan by d 1 0 (Has y r z)
  grant_one = grants by d g.well_formed p a.allowed (g.subjects p a.subject)

  create_one : Plan by d 1 1 (λ e. T (e.has p take_right d.size) × T (e.has p grant_right d.size))
  create_one = creates by d g.well_formed p a.allowed (g.subjects p a.subject)

module _ (by : ℕ → Bool) (b c : State) (g : Grown b c) (p q : ℕ) (pa : Acts by b p) (qa : Acts by b q) (r y : ℕ) (h : T (c.has q r y)) where
  -- Through an object o that p can take from, and that v, to which q takes its way, can grant to.
  through : (o v : ℕ) (d : State) → Grown c d → T (d.has p take_right o) → T (d.has v grant_right o) → T (take_path b q v) → Plan by d (b.size + 2) 0 (Has p r y)
  through o v d i t u w =
      let gd = grown_trans g i in
      followed (taking_far by b q qa grant_right o v d gd u w) (λ e j k.
      let ge = grown_trans gd j in
      followed (grant_one qa ge o r y k (j.rights q r y (i.rights q r y h))) (λ f l m.
      take_one pa (grown_trans ge l) o r y (l.rights p take_right o (j.rights p take_right o t)) m))

  -- q takes its way to p: p creates the object.
  over_back : T (take_path b q p) → Plan by c (b.size + 3) 1 (Has p r y)
  over_back w =
      widen _ _ (omega arith) (omega arith) (followed (create_one pa g) (λ d i t. through c.size p d i t.0 t.1 w))

  -- v, to which q takes its way, has grant to u, to which p takes its way.
  over_granted : (u v : ℕ) → T (take_path b p u) → T (take_path b q v) → T (can_grant b v u) → Plan by c (2 * b.size + 1) 0 (Has p r y)
  over_granted u v wp wq t =
      widen _ _ (omega arith) (omega arith)
      (followed (taking_far by b q qa grant_right u v c g (g.rights v grant_right u t) wq) (λ d i k.
      let gd = grown_trans g i in
      followed (grant_one qa gd u r y k (i.rights q r y h)) (λ e j l. taking_far by b p pa r y u e (grown_trans gd j) l wp)))

  -- u has grant to v: p creates the object, and grants into v the right to grant to it.
  over_granting : (u v : ℕ) → T (take_path b p u) → T (take_path b q v) → T (can_grant b u v) → Plan by c (2 * b.size + 4) 1 (Has p r y)
  over_granting u v wp wq t =
      let o = c.size in
      widen _ _ (omega arith) (omega arith)
      (followed (create_one pa g) (λ d i m.
      let gd = grown_trans g i in
      followed (taking_far by b p pa grant_right v u d gd (gd.rights u grant_right v t) wp) (λ e j k.
      followed (grant_one pa (grown_trans gd j) v grant_right o k (j.rights p grant_right o m.1)) (λ f l n.
      let jl = grown_trans j l in
      through o v f (grown_trans i jl) (jl.rights p take_right o m.0) n wq))))

  over_meet : T (meet b p q) → Plan by c (2 * b.size + 4) 1 (Has p r y)
  unfolding meet
  over_meet t =
      let u = some_both b.size (take_path b p) _ t in
      let v = some_both b.size (take_path b q) _ u.other in
      elim (cases (can_grant b u.at v.at) _ v.other) [
        | inl k ↦ over_granting u.at v.at u.one v.one k
        | inr k ↦ widen _ _ (omega arith) (omega arith) (over_granted u.at v.at u.one v.one k)
      ]

-- In all, at most 2n + 4 rules and one creation.
pub over_bridge-law : (by : ℕ → Bool) (b c : State) → Grown b c → (p q : ℕ) → T (by p) → T (by q) → T (bridge b p q) → (r y : ℕ) → T (c.has q r y) →
    Plan by c (2 * b.size + 4) 1 (Has p r y)
unfolding bridge
over_bridge-law by b c g p q bp bq t r y h =
    let k = parts (is_subject b p) _ t in
    let l = parts (is_subject b q) _ k.1 in
    let pa : Acts by b p = record { allowed = bp; subject = k.0 } in
    let qa : Acts by b q = record { allowed = bq; subject = l.0 } in
    elim (cases (take_path b p q) _ l.1) [
      | inl w ↦ widen _ _ (omega arith) (omega arith) (taking_far by b p pa r y q c g h w)
      | inr m ↦
          elim (cases (take_path b q p) (meet b p q) m) [
            | inl w ↦ widen _ _ (omega arith) (omega arith) (over_back by b c g p q pa qa r y h w)
            | inr w ↦ over_meet by b c g p q pa qa r y h w
          ]
    ]

-- Both ends of a bridge come to have what either has.
pub exchange : Exchange (λ n. 2 * n + 4) 1
exchange s w p q r y t h =
    elim (cases (s.has p r y) (s.has q r y) h) [
      | inl k ↦
          reaching (λ d i u. (i.rights p r y k, u))
          (over_bridge-law by s s (grown_refl w) q p (right (eqb q p) _ (eqb_refl q)) (left (eqb p p) _ (eqb_refl p)) (bridge_from s w q p (turn_bridge s p q (bridge_to s p q t))) r y k)
      | inr k ↦
          reaching (λ d i u. (u, i.rights q r y k))
          (over_bridge-law by s s (grown_refl w) p q (left (eqb p p) _ (eqb_refl p)) (right (eqb q p) _ (eqb_refl q)) t r y k)
    ]
  where
    by : ℕ → Bool
    by v = eqb v p || eqb v q
