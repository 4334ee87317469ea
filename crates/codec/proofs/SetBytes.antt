-- A set of vertices is read from its bytes, and from no others, and names only vertices that are there.
use Rattle.std.proofs.Common.{◌≡◌, ℕ, zero, suc, ◌+◌, ◌-◌, ◌*◌, ◌/◌, ◌%◌, ◌^◌, ◌<◌, ◌≤◌, true, false, cond, T, ltb, List, length, get_or, take, drop, Ok, Err, sym, ap, ◌∙◌, subst, inl, inr, arith, ltb→lt, Bool, add-zero, lt→ltb, pow_mono}
use Rattle.std.proofs.lemmas.Bool.Decides.{nat_tests}
use Rattle.std.proofs.lemmas.List.{get_or-take, get_or-drop, length-take, length-take-le, length-drop}
use Rattle.std.proofs.lemmas.Bool.{cases_lt, cases_eq, cond-true, lt-ltb}
use Rattle.model.specs.Bit.{bit}
use Rattle.model.proofs.Tests.{parts, same, both, is_false}
use Rattle.bits.specs.Sets.{in_bytes, bits_value, byte_of, set_bytes}
use Rattle.bits.proofs.Bit.{bit_past}
use Rattle.codec.specs.declared.fault.Fault.TheVariants.{Missing, OutOfRange}
use Rattle.codec.specs.Reading.{Read, ◌then◌}
use Rattle.codec.specs.Books.{set_byte_at, end_of_set, subjects_at}
use Rattle.codec.proofs.Inverted.{onward_ok, cond_ok, ok_same, then_ok, onward_on, byte_read}
use mathlib.Core.Path.{fun_ext}
use Rattle.bits.proofs.Bytes.{bits_lt, length_set_bytes, in_set_bytes, set_in_bytes}
use Rattle.codec.proofs.Stands.{Stands, stands_part, part_stands}

-- One byte of a set.
pub record SetByte (bs : List ℕ) (n w at next : ℕ) : Type 0 where
  pub there : at < length bs
  pub after : next ≡ at + 1
  pub fits : get_or bs at 0 < 2 ^ (n - 8 * w)

pub set_byte : (bs : List ℕ) (n w at next : ℕ) → set_byte_at bs n w at ≡ Ok next → SetByte bs n w at next
set_byte bs n w at next e = record { there = grind (arith, nat_tests); after = grind (arith, nat_tests); fits = grind (arith, nat_tests) }

pub record SetRead (bs : List ℕ) (n w at next : ℕ) : Type 0 where
  pub after : next ≡ at + w
  pub within : 0 < w → next ≤ length bs
  pub fits : (j : ℕ) → j < w → get_or bs (at + (w - 1 - j)) 0 < 2 ^ (n - 8 * j)

pub set_read-law : (bs : List ℕ) (n w at next : ℕ) → end_of_set bs n w at ≡ Ok next → SetRead bs n w at next
unfolding end_of_set
set_read-law bs n zero at next e =
    let h : at ≡ next = (cond_ok true at next (Missing 0) e).1 in
    record { after = omega arith; within = λ l. absurd (omega arith); fits = λ j l. absurd (omega arith) }
set_read-law bs n (suc w) at next e =
    let p = onward_ok (set_byte_at bs n w at) (end_of_set bs n w) next e in
    let b = set_byte bs n w at p.0 p.1 in
    joined p.0 b (set_read-law bs n w p.0 next p.2)
  where
    joined : (m : ℕ) → SetByte bs n w at m → SetRead bs n w m next → SetRead bs n (suc w) at next
    joined m b r =
        record {
          after = let a = b.after in let c = r.after in omega arith;
          within = λ l. (let a = b.after in let c = r.after in let t = b.there in let d = r.within in grind arith);
          fits = λ j l. elim (cases_eq j w) [
            | inl z ↦ subst (λ k. get_or bs (at + (suc w - 1 - k)) 0 < 2 ^ (n - 8 * k)) (sym z) (subst (λ k. get_or bs k 0 < 2 ^ (n - 8 * w)) (omega arith) b.fits)
            | inr d ↦ subst (λ k. get_or bs k 0 < 2 ^ (n - 8 * j)) (let a = b.after in omega arith) (r.fits j (omega arith))
          ];
        }

pub set_long : (bs : List ℕ) (n w at next : ℕ) → SetRead bs n w at next → 0 < w → length (take w (drop at bs)) ≡ w
set_long bs n w at next r some =
    let a = r.after in
    let b = r.within some in
    length-take-le w (drop at bs) (omega (arith, length-drop at bs))

-- A set that was read names only vertices below n.
pub named_below : (bs : List ℕ) (n w at next : ℕ) → SetRead bs n w at next → (k : ℕ) → T (in_bytes (take w (drop at bs)) k) → k < n
unfolding in_bytes
named_below bs n w at next r k t =
    let h = parts (ltb (k / 8) (length (take w (drop at bs)))) _ t in
    let l = ltb→lt _ _ h.0 in
    let some : 0 < w = omega (arith, l, length-take w (drop at bs)) in
    let long : length (take w (drop at bs)) ≡ w = set_long bs n w at next r some in
    elim (cases_lt k n) [
      | inl below ↦ below
      | inr above ↦ absurd (subst T (no_bit (length (take w (drop at bs))) long (k / 8) (k % 8) (omega arith) (omega arith)) h.1)
    ]
  where
    no_bit : (m : ℕ) → m ≡ w → (j i : ℕ) → j < w → n - 8 * j ≤ i → bit (get_or (take w (drop at bs)) (m - 1 - j) 0) i ≡ false
    no_bit m e j i l a =
        let g : get_or (take w (drop at bs)) (m - 1 - j) 0 ≡ get_or bs (at + (w - 1 - j)) 0 = ap (λ o. get_or (take w (drop at bs)) (o - 1 - j) 0) e ∙ (get_or-take w (drop at bs) (w - 1 - j) 0 (omega arith) ∙ get_or-drop at bs (w - 1 - j) 0) in
        ap (λ b. bit b i) g ∙ bit_past (n - 8 * j) (get_or bs (at + (w - 1 - j)) 0) i (r.fits j l) a

-- A set that was read to its end: what was read of it.
pub record SetIn (bs : List ℕ) (n w at next : ℕ) : Type 0 where
  pub value : Ok next ≡ end_of_set bs n w at
  pub long : length (take w (drop at bs)) ≡ w
  pub named : (k : ℕ) → T (in_bytes (take w (drop at bs)) k) → k < n

pub set_in : (bs : List ℕ) (n w m at next : ℕ) → 0 < w → m ≤ 0 → end_of_set bs n m next ≡ end_of_set bs n w at → SetIn bs n w at next
unfolding end_of_set
set_in bs n w m at next some none inv =
    let value : Ok next ≡ end_of_set bs n w at = ap (λ k. end_of_set bs n k next) (let z : 0 ≡ m = omega arith in z) ∙ inv in
    let read = set_read-law bs n w at next (sym value) in
    record {
      value = value;
      long = set_long bs n w at next read some;
      named = named_below bs n w at next read;
    }

-- A number with bits only below m is below 2 ^ m.
bits_within : (k m : ℕ) (g : ℕ → Bool) → ((i : ℕ) → T (g i) → i < m) → bits_value k g < 2 ^ m
unfolding bits_value
bits_within zero m g h = let p = pow_mono {i = 0} {j = m} (omega arith) in omega arith
bits_within (suc k) m g h =
    elim (cases_lt k m) [
      | inl l ↦ (let p = pow_mono {i = suc k} {j = m} l in let b = bits_lt (suc k) g in omega arith)
      | inr l ↦ subst (λ t. bits_value k g + cond t (2 ^ k) 0 < 2 ^ m) (sym (is_false (g k) (λ t. let i = h k t in omega arith))) (let r = bits_within k m g h in omega arith)
    ]

module _ (bs : List ℕ) (n : ℕ) where
  module _ (f : ℕ → Bool) (below : (k : ℕ) → T (f k) → k < n) where
    byte_within : (w : ℕ) → byte_of f w < 2 ^ (n - 8 * w)
    unfolding byte_of
    byte_within w = bits_within 8 (n - 8 * w) (λ i. f (8 * w + i)) (λ i t. let h = below (8 * w + i) t in omega arith)

    set_end-law : (w at : ℕ) → Stands bs at (set_bytes w f) → end_of_set bs n w at ≡ Ok (at + w)
    unfolding end_of_set set_bytes
    set_end-law zero at h = ap (λ m. Ok m) (sym (add-zero at))
    set_end-law (suc w) at h =
        onward_on (at + 1) (end_of_set bs n w)
        (onward_on (byte_of f w, at + 1) (λ b. cond (ltb b.0 (2 ^ (n - 8 * w))) (Ok b.1) (Err (OutOfRange at))) (byte_read bs at (byte_of f w) h.0) (cond-true _ _ _ (lt-ltb (byte_of f w) (2 ^ (n - 8 * w)) (byte_within w))))
        (set_end-law w (at + 1) h.1 ∙ ap (λ m. Ok m) (omega arith))

    -- Reading what was written.
    pub subjects_read : (w at : ℕ) → n ≤ 8 * w → Stands bs at (set_bytes w f) → subjects_at bs n w at ≡ Ok (f, at + w)
    subjects_read w at l h =
        onward_on (at + w) (λ next. Ok (in_bytes (take w (drop at bs)), next)) (set_end-law w at h) (ap (λ g. Ok (g, at + w)) (fun_ext named))
      where
        part : take w (drop at bs) ≡ set_bytes w f
        part = ap (λ m. take m (drop at bs)) (sym (length_set_bytes w f)) ∙ stands_part bs (set_bytes w f) at h

        named : (k : ℕ) → in_bytes (take w (drop at bs)) k ≡ f k
        named k =
            ap (λ x. in_bytes x k) part ∙
            (in_set_bytes w f k ∙ same _ _ (λ t. (parts (ltb k (8 * w)) (f k) t).1) (λ t. both (ltb k (8 * w)) (f k) (lt→ltb k (8 * w) (let b = below k t in omega arith)) t))

  -- What a set that was read says of the bytes.
  pub record SetStood {B : Type 0} (w at : ℕ) (f : (ℕ → Bool) → ℕ → Read B) (r : B × ℕ) : Type 0 where
    pub set : ℕ → Bool
    pub stands : Stands bs at (set_bytes w set)
    pub below : (k : ℕ) → T (set k) → k < n
    pub goes_on : f set (at + w) ≡ Ok r

  pub subjects_ok : {B : Type 0} (w at : ℕ) (f : (ℕ → Bool) → ℕ → Read B) (r : B × ℕ) → ((i : ℕ) → get_or bs i 0 < 256) → 0 < w → (subjects_at bs n w at then f) ≡ Ok r → SetStood w at f r
  subjects_ok w at f r bytes some e =
      let h = then_ok (subjects_at bs n w at) f r e in
      let k = onward_ok (end_of_set bs n w at) (λ next. Ok (in_bytes (take w (drop at bs)), next)) h.0 h.1 in
      let s = set_read-law bs n w at k.0 k.1 in
      let long = set_long bs n w at k.0 s some in
      let part : List ℕ = take w (drop at bs) in
      let back : set_bytes w (in_bytes part) ≡ part =
      set_in_bytes w part long (λ p l. subst (λ m. m < 256) (sym (get_or-take w (drop at bs) p 0 (omega arith) ∙ get_or-drop at bs p 0)) (bytes (at + p))) in
      record {
        set = in_bytes part;
        stands = part_stands bs (set_bytes w (in_bytes part)) at (ap (λ m. take m (drop at bs)) (length_set_bytes w (in_bytes part)) ∙ sym back);
        below = named_below bs n w at k.0 s;
        goes_on = subst (λ (x : (ℕ → Bool) × ℕ). f x.0 x.1 ≡ Ok r) (sym (ap (λ m. (in_bytes part, m)) (sym s.after) ∙ ok_same (in_bytes part, k.0) h.0 k.2)) h.2;
      }
