-- Whatever can be shared has a witness: the right is taken from its holder, handed over the row of bridges, and granted to where it is wanted.
use Rattle.std.proofs.Common.{ℕ, ◌+◌, ◌-◌, ◌*◌, ◌<◌, ◌≤◌, Bool, T, eqb, subst, inl, inr, mul-le-mul_right, mul_assoc, suc-mul, mul-le-mul, mul_left_comm, arith, eqb→eq}
use Rattle.model.specs.State.{State, WellFormed, is_subject, is_vertex, grant_right}
use Rattle.model.specs.Closure.{Star, here, next}
use Rattle.model.specs.Spans.{take_path, bridge, connected, initial_span, terminal_span}
use Rattle.model.specs.Sharing.{can_get, can_share}
use Rattle.model.specs.Restricted.{restricted}
use Rattle.model.specs.Plans.{Grown, Plan, Has}
use Rattle.model.specs.Promise.{longest_witness_len, Witness}
use Rattle.model.proofs.Tests.{parts, cases, some_below-law, some_both}
use Rattle.model.proofs.Grown.{grown_refl, grown_trans, restricted_grown, restricted_well}
use Rattle.model.proofs.Plan.{widen, followed, idle}
use Rattle.model.proofs.Rounds.{enough}
use Rattle.model.proofs.Lengths.{steps, row}
use Rattle.model.proofs.Taking.{Acts, taking_far}
use Rattle.model.proofs.Exchange.{grant_one, over_bridge-law}

module _ (by : ℕ → Bool) (b : State) (acts : (p : ℕ) → T (is_subject b p) → T (by p)) (r y : ℕ) where
  may : (p : ℕ) → T (is_subject b p) → Acts by b p
  may p t = record { allowed = acts p t; subject = t }

  -- Over one bridge, and over a row of bridges from p to q: what q has, p comes to have.
  hand : (p q : ℕ) (c : State) → Grown b c → T (bridge b p q) → T (c.has q r y) → Plan by c (2 * b.size + 4) 1 (Has p r y)
  unfolding bridge
  hand p q c g t h =
      let k = parts (is_subject b p) _ t in
      let l = parts (is_subject b q) _ k.1 in
      over_bridge-law by b c g p q (acts p k.0) (acts q l.0) t r y h

  pub over_row-law : {p q : ℕ} (c : State) → Grown b c → T (c.has q r y) → (w : Star (λ u v. T (bridge b u v)) p q) → Plan by c (steps w * (2 * b.size + 4)) (steps w) (Has p r y)
  unfolding steps
  over_row-law {p} c g h here = widen _ _ (omega arith) (omega arith) (idle by c (Has p r y) g.well_formed h)
  over_row-law {p} c g h (next {z = z} t w) =
      widen _ _ (omega (arith, suc-mul (steps w) (2 * b.size + 4))) (omega arith)
      (followed (over_row-law c g h w) (λ d i u. hand p z d (grown_trans g i) t u))

  -- A subject that spans terminally to a holder comes to have the right.
  pub from_holder : (q t : ℕ) (c : State) → Grown b c → T (terminal_span b q t) → T (c.has t r y) → Plan by c b.size 0 (Has q r y)
  unfolding terminal_span
  from_holder q t c g s h = let k = parts (is_subject b q) (take_path b q t) s in taking_far by b q (may q k.0) r y t c g h k.1

  -- What a subject has that spans initially to x, x comes to have.
  pub to_wanting : (p x : ℕ) (c : State) → Grown b c → T (initial_span b p x) → T (c.has p r y) → Plan by c (b.size + 1) 0 (Has x r y)
  unfolding initial_span
  to_wanting p x c g s h =
      let k = parts (is_subject b p) _ s in
      elim (cases (eqb p x) _ k.1) [
        | inl e ↦ widen _ _ (omega arith) (omega arith) (idle by c (Has x r y) g.well_formed (subst (λ v. T (c.has v r y)) (eqb→eq p x e) h))
        | inr m ↦
            let u = some_both b.size (take_path b p) _ m in
            followed (taking_far by b p (may p k.0) grant_right x u.at c g (g.rights u.at grant_right x u.other) u.one) (λ d i v.
            grant_one (may p k.0) (grown_trans g i) x r y v (i.rights p r y h))
      ]

-- The bound of the whole: n to take from the holder, a bridge at most n - 1 times, and n + 1 to grant at the end.
unfoldable pub longest : ℕ → ℕ
longest n = n + ((n - 1) * (2 * n + 4) + (n + 1))

module _ (by : ℕ → Bool) (b : State) (acts : (p : ℕ) → T (is_subject b p) → T (by p)) (x r y : ℕ) where
  -- The whole way from a holder t over q and p to x.
  pub whole : (t p q : ℕ) (c : State) → Grown b c → p < b.size → T (b.has t r y) → T (initial_span b p x) → T (terminal_span b q t) → T (connected b p q) →
      Plan by c (longest b.size) (b.size - 1) (Has x r y)
  unfolding connected longest
  whole t p q c g below h i e j =
      let w = row (b.size - 1) b.size (bridge b) p q (enough b.size (bridge b) (b.size - 1) b.size p q (omega arith) below j) in
      widen _ _ (omega (arith, mul-le-mul_right (2 * b.size + 4) w.short)) (omega arith)
      (followed (from_holder by b acts r y q t c g e (g.rights t r y h)) (λ d gd u.
      followed (over_row-law by b acts r y d (grown_trans g gd) u w.way) (λ f gf v.
      to_wanting by b acts r y p x f (grown_trans g (grown_trans gd gf)) i v)))

  -- Whatever can be shared in b has a plan in every state grown from it.
  pub shared : (c : State) → Grown b c → T (can_share b x r y) → Plan by c (longest b.size) (b.size - 1) (Has x r y)
  unfolding can_share can_get
  shared c g t =
      elim (cases (b.has x r y) _ t) [
        | inl h ↦ widen _ _ (omega arith) (omega arith) (idle by c (Has x r y) g.well_formed (g.rights x r y h))
        | inr m ↦
            let t = some_both b.size (λ t. b.has t r y) _ m in
            let p = some_both b.size (λ p. initial_span b p x) _ t.other in
            let q = some_both b.size (λ q. terminal_span b q t.at) (connected b p.at) p.other in
            whole t.at p.at q.at c g p.below t.one p.one q.one q.other
      ]

-- The bound as it is told: a round one above it.
pub longest_bound : (n : ℕ) → longest n ≤ longest_witness_len n
unfolding longest
longest_bound n =
    let m = n + 2 in
    let h : (n - 1) * (2 * n + 4) ≤ m * (2 * m) = mul-le-mul (omega arith) (omega arith) in
    let k : m * 1 ≤ m * m = mul-le-mul (omega arith) (omega arith) in
    omega (arith, mul_assoc 8 m m, mul_left_comm m 2 m)

-- Where something can be shared there is a vertex.
pub some_vertex : (b : State) (x r y : ℕ) → WellFormed b → T (can_share b x r y) → 0 < b.size
unfolding can_share can_get
some_vertex b x r y w t =
    elim (cases (b.has x r y) _ t) [
      | inl h ↦ let k = w.holder x r y h in omega arith
      | inr m ↦ let s = some_below-law b.size _ m in omega arith
    ]

pub witness : (by : ℕ → Bool) (s : State) (x r y : ℕ) → 0 < s.size → Plan by s (longest s.size) (s.size - 1) (Has x r y) → Witness by s x r y
witness by s x r y pos p =
    record {
      rules = p.rules;
      applicable = p.applicable;
      applied = p.applied;
      short = omega (arith, longest_bound s.size);
      few = omega arith;
      brings = p.reached;
    }

-- Whatever can be shared has a witness, and subjects that are there from the start apply its rules.
pub sharing_witness : (s : State) → WellFormed s → (x r y : ℕ) → T (can_share s x r y) → Witness (is_subject s) s x r y
sharing_witness s w x r y t =
    witness (is_subject s) s x r y (some_vertex s x r y w t) (shared (is_subject s) s (λ p a. a) x r y s (grown_refl w) t)

-- What can be shared in the state in which all outside S are objects has a witness whose rules those of S alone apply.
pub restricted_witness : (S : ℕ → Bool) (s : State) → WellFormed s → (x r y : ℕ) → T (can_share (restricted S s) x r y) → Witness S s x r y
restricted_witness S s w x r y t =
    witness S s x r y (some_vertex (restricted S s) x r y (restricted_well S s w) t)
    (shared S (restricted S s) (λ p a. (parts (S p) (s.subject p) (parts (is_vertex s p) _ a).1).0) x r y s (restricted_grown s w S) t)
