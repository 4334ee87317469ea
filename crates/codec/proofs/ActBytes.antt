-- An act is read from its bytes, and from no others.
use Rattle.std.proofs.Common.{◌≡◌, ℕ, ◌+◌, ◌<◌, Bool, true, false, eqb, List, [], ◌∷◌, length, get_or, Ok, sym, refl, ap, subst, inl, inr, arith}
use Rattle.std.proofs.lemmas.Bool.{eqb-true}
use Rattle.model.specs.declared.Rule.{Rule}
use Rattle.model.specs.declared.Rule.TheVariants.{Take, Grant, Create, Remove}
use Rattle.codec.specs.declared.act.Transfer.{Transfer}
use Rattle.codec.specs.Reading.{Read, ◌then◌, flag_at}
use Rattle.codec.specs.Acts.{act_at, taking_at, grant_at, create_at, remove_at, transfer_at, flag_byte, act_bytes}
use Rattle.codec.specs.Played.{InRange}
use Rattle.codec.proofs.Inverted.{passed, Byte, ok_same, then_ok, cond_ways, then_on, byte_read, below_read, byte_ok, below_ok}
use Rattle.codec.proofs.Stands.{Stands}

abbrev transfer_bytes : Transfer → List ℕ
transfer_bytes t = t.who ∷ t.other ∷ t.right ∷ t.to ∷ []

abbrev Transferable : ℕ → Transfer → Type 0
Transferable n t = (t.who < n) × (t.other < n) × (t.right < 8) × (t.to < n)

-- Reading what was written.
module _ (bs : List ℕ) (n : ℕ) where
  transfer_read : (t : Transfer) (at : ℕ) → Transferable n t → Stands bs at (transfer_bytes t) → transfer_at bs n at ≡ Ok (t, at + 1 + 1 + 1 + 1)
  transfer_read t at r h =
      then_on t.who (at + 1) _ (below_read bs at t.who n h.0 r.0)
      (then_on t.other (at + 1 + 1) _ (below_read bs (at + 1) t.other n h.1.0 r.1)
      (then_on t.right (at + 1 + 1 + 1) _ (below_read bs (at + 1 + 1) t.right 8 h.1.1.0 r.2)
      (then_on t.to (at + 1 + 1 + 1 + 1) _ (below_read bs (at + 1 + 1 + 1) t.to n h.1.1.1.0 r.3) refl)))

  flag_read : (b : Bool) (at : ℕ) → Byte bs at (flag_byte b) → flag_at bs at ≡ Ok (b, at + 1)
  flag_read true at h = then_on 1 (at + 1) _ (byte_read bs at 1 h) refl
  flag_read false at h = then_on 0 (at + 1) _ (byte_read bs at 0 h) refl

  pub act_read : (a : Rule) (at : ℕ) → InRange n a → Stands bs at (act_bytes a) → act_at bs n at ≡ Ok (a, at + length (act_bytes a))
  act_read (Take t) at r h =
      then_on 2 (at + 1) _ (byte_read bs at 2 h.0)
      (then_on _ _ _ (transfer_read (record { who = t.who; other = t.from; right = t.right; to = t.to }) (at + 1) r h.1) (ap (λ m. Ok (Take t, m)) (omega arith)))
  act_read (Grant g) at r h =
      then_on 3 (at + 1) _ (byte_read bs at 3 h.0)
      (then_on _ _ _ (transfer_read (record { who = g.who; other = g.into; right = g.right; to = g.to }) (at + 1) r h.1) (ap (λ m. Ok (Grant g, m)) (omega arith)))
  act_read (Create c) at r h =
      then_on 4 (at + 1) _ (byte_read bs at 4 h.0)
      (then_on c.who _ _ (below_read bs (at + 1) c.who n h.1.0 r.0)
      (then_on c.subject _ _ (flag_read c.subject (at + 1 + 1) h.1.1.0)
      (then_on c.rights _ _ (byte_read bs (at + 1 + 1 + 1) c.rights h.1.1.1.0) (ap (λ m. Ok (Create c, m)) (omega arith)))))
  act_read (Remove d) at r h =
      then_on 5 (at + 1) _ (byte_read bs at 5 h.0)
      (then_on d.who _ _ (below_read bs (at + 1) d.who n h.1.0 r.0)
      (then_on d.right _ _ (below_read bs (at + 1 + 1) d.right 8 h.1.1.0 r.1)
      (then_on d.to _ _ (below_read bs (at + 1 + 1 + 1) d.to n h.1.1.1.0 r.2) (ap (λ m. Ok (Remove d, m)) (omega arith)))))

-- What an act that was read says of the bytes.
pub record ActStood (bs : List ℕ) (n at : ℕ) (a : Rule) (next : ℕ) : Type 0 where
  pub range : InRange n a
  pub stands : Stands bs at (act_bytes a)
  pub ends : next ≡ at + length (act_bytes a)

module _ (bs : List ℕ) (bytes : (i : ℕ) → get_or bs i 0 < 256) (n : ℕ) where
  transfer_ok : {B : Type 0} (at : ℕ) (f : Transfer → ℕ → Read B) (r : B × ℕ) → (transfer_at bs n at then f) ≡ Ok r → (t : Transfer) × Transferable n t × Stands bs at (transfer_bytes t) × (f t (at + 1 + 1 + 1 + 1) ≡ Ok r)
  transfer_ok at f r e =
      let p = then_ok (transfer_at bs n at) f r e in
      let a = below_ok bs at n _ p.0 p.1 in
      let b = below_ok bs (at + 1) n _ p.0 a.3 in
      let c = below_ok bs (at + 1 + 1) 8 _ p.0 b.3 in
      let d = below_ok bs (at + 1 + 1 + 1) n _ p.0 c.3 in
      let t : Transfer = record { who = a.0; other = b.0; right = c.0; to = d.0 } in
      (t, (a.2, b.2, c.2, d.2), (a.1, (b.1, (c.1, (d.1, tt)))), subst (λ (x : Transfer × ℕ). f x.0 x.1 ≡ Ok r) (sym (ok_same (t, at + 1 + 1 + 1 + 1) p.0 d.3)) p.2)

  flag_ok : {B : Type 0} (at : ℕ) (f : Bool → ℕ → Read B) (r : B × ℕ) → (flag_at bs at then f) ≡ Ok r → (b : Bool) × Byte bs at (flag_byte b) × (f b (at + 1) ≡ Ok r)
  flag_ok at f r e =
      let p = then_ok (flag_at bs at) f r e in
      let a = byte_ok bs at _ p.0 p.1 in
      elim (cond_ways (eqb a.0 0) _ _ _ a.2) [
        | inl z ↦ (false, subst (Byte bs at) (eqb-true a.0 0 z.0) a.1, subst (λ (x : Bool × ℕ). f x.0 x.1 ≡ Ok r) (sym (ok_same (false, at + 1) p.0 z.1)) p.2)
        | inr y ↦ (let z = passed (eqb a.0 1) _ _ p.0 y.1 in (true, subst (Byte bs at) (eqb-true a.0 1 z.0) a.1, subst (λ (x : Bool × ℕ). f x.0 x.1 ≡ Ok r) (sym (ok_same (true, at + 1) p.0 z.1)) p.2))
      ]

  module _ (at : ℕ) (r : Rule × ℕ) where
    take_ok : Byte bs at 2 → taking_at bs n (at + 1) ≡ Ok r → ActStood bs n at r.0 r.1
    take_ok k e =
        let t = transfer_ok (at + 1) (λ u next. Ok (Take (record { who = u.who; from = u.other; right = u.right; to = u.to }), next)) r e in
        subst (λ (x : Rule × ℕ). ActStood bs n at x.0 x.1) (ok_same (Take (record { who = t.0.who; from = t.0.other; right = t.0.right; to = t.0.to }), at + 1 + 1 + 1 + 1 + 1) r t.3)
        (record { range = t.1; stands = (k, t.2); ends = omega arith })

    grant_ok : Byte bs at 3 → grant_at bs n (at + 1) ≡ Ok r → ActStood bs n at r.0 r.1
    grant_ok k e =
        let t = transfer_ok (at + 1) (λ u next. Ok (Grant (record { who = u.who; into = u.other; right = u.right; to = u.to }), next)) r e in
        subst (λ (x : Rule × ℕ). ActStood bs n at x.0 x.1) (ok_same (Grant (record { who = t.0.who; into = t.0.other; right = t.0.right; to = t.0.to }), at + 1 + 1 + 1 + 1 + 1) r t.3)
        (record { range = t.1; stands = (k, t.2); ends = omega arith })

    create_ok : Byte bs at 4 → create_at bs n (at + 1) ≡ Ok r → ActStood bs n at r.0 r.1
    create_ok k e =
        let a = below_ok bs (at + 1) n _ r e in
        let b = flag_ok (at + 1 + 1) _ r a.3 in
        let c = byte_ok bs (at + 1 + 1 + 1) _ r b.2 in
        subst (λ (x : Rule × ℕ). ActStood bs n at x.0 x.1) (ok_same (Create (record { who = a.0; subject = b.0; rights = c.0 }), at + 1 + 1 + 1 + 1) r c.2)
        (record { range = (a.2, (let h = bytes (at + 1 + 1 + 1) in let i = c.1.is in omega arith)); stands = (k, (a.1, (b.1, (c.1, tt)))); ends = omega arith })

    remove_ok : Byte bs at 5 → remove_at bs n (at + 1) ≡ Ok r → ActStood bs n at r.0 r.1
    remove_ok k e =
        let a = below_ok bs (at + 1) n _ r e in
        let b = below_ok bs (at + 1 + 1) 8 _ r a.3 in
        let c = below_ok bs (at + 1 + 1 + 1) n _ r b.3 in
        subst (λ (x : Rule × ℕ). ActStood bs n at x.0 x.1) (ok_same (Remove (record { who = a.0; right = b.0; to = c.0 }), at + 1 + 1 + 1 + 1) r c.3)
        (record { range = (a.2, b.2, c.2); stands = (k, (a.1, (b.1, (c.1, tt)))); ends = omega arith })

    pub act_ok : act_at bs n at ≡ Ok r → ActStood bs n at r.0 r.1
    act_ok e =
        let k = byte_ok bs at _ r e in
        let kind : (m : ℕ) → eqb k.0 m ≡ true → Byte bs at m = λ m t. subst (Byte bs at) (eqb-true k.0 m t) k.1 in
        elim (cond_ways (eqb k.0 2) _ _ _ k.2) [
          | inl z ↦ take_ok (kind 2 z.0) z.1
          | inr y ↦ elim (cond_ways (eqb k.0 3) _ _ _ y.1) [
            | inl z ↦ grant_ok (kind 3 z.0) z.1
            | inr x ↦ elim (cond_ways (eqb k.0 4) _ _ _ x.1) [
              | inl z ↦ create_ok (kind 4 z.0) z.1
              | inr w ↦ (let z = passed (eqb k.0 5) _ _ r w.1 in remove_ok (kind 5 z.0) z.1)
            ]
          ]
        ]
