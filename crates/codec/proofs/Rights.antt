-- The rights of one vertex are read from the bytes of a rising list, and from no others.
use Rattle.std.proofs.Common.{◌≡◌, ℕ, zero, suc, ◌+◌, ◌*◌, ◌/◌, ◌%◌, ◌<◌, ◌≤◌, false, ◌&&◌, eqb, ltb, List, [], ◌∷◌, length, Ok, sym, refl, ap, ◌∙◌, subst, arith, get_or, ap₂}
use Rattle.std.proofs.lemmas.Bool.{cond-false}
use Rattle.std.proofs.lemmas.Bool.Decides.{nat_tests}
use Rattle.model.specs.State.{State}
use Rattle.model.specs.Rules.{given}
use Rattle.model.specs.declared.Held.{Held}
use Rattle.codec.specs.Reading.{Read, ◌then◌, count_at}
use Rattle.codec.specs.Books.{held_at, rights_at, past, first}
use Rattle.codec.proofs.Inverted.{refused_not, Byte, ok_same, then_ok, then_on, below_read, below_ok, byte_read, byte_ok}
use Rattle.codec.proofs.Stands.{Stands}
use Rattle.codec.proofs.Codes.{Listed, pairs, gave}

abbrev pub place : Held → ℕ
place h = 256 * h.right + h.to

abbrev pub held_of : ℕ → Held
held_of c = record { right = c / 256; to = c % 256 }

-- Lower than `least` is what has a lower number.
not_lower : (least : Held) (r q : ℕ) → q < 256 → place least ≤ 256 * r + q → (ltb r least.right ≡ false) × ((eqb r least.right && ltb q least.to) ≡ false)
not_lower least r q l h = (grind (arith, nat_tests), grind (arith, nat_tests))

not_lower_back : (least : Held) (r q : ℕ) → least.to ≤ 256 → ltb r least.right ≡ false → (eqb r least.right && ltb q least.to) ≡ false → place least ≤ 256 * r + q
not_lower_back least r q small a b = grind (arith, nat_tests)

module _ (bs : List ℕ) (n : ℕ) (few : n ≤ 256) where
  -- One right.
  held_read : (least : Held) (at c : ℕ) → place least ≤ c → c / 256 < 8 → c % 256 < n → Byte bs at (c / 256) → Byte bs (at + 1) (c % 256) → held_at bs n least at ≡ Ok (held_of c, at + 1 + 1)
  held_read least at c h r q b d =
      let e = not_lower least (c / 256) (c % 256) (omega arith) (omega arith) in
      then_on (c / 256) (at + 1) _ (below_read bs at (c / 256) 8 b r)
      (cond-false (ltb (c / 256) least.right) _ _ e.0 ∙
      then_on (c % 256) (at + 1 + 1) _ (below_read bs (at + 1) (c % 256) n d q) (cond-false (eqb (c / 256) least.right && ltb (c % 256) least.to) _ _ e.1))

  pub rights_read : (p : ℕ) (cs : List ℕ) (least : Held) (at : ℕ) (s : State) → Listed n (place least) cs → Stands bs at (pairs cs) → rights_at bs n p (length cs) least at s ≡ Ok (gave p cs s, at + length (pairs cs))
  unfolding rights_at gave pairs
  rights_read p [] least at s h k = ap (λ m. Ok (s, m)) (omega arith)
  rights_read p (c ∷ cs) least at s h k =
      then_on (held_of c) (at + 1 + 1) _ (held_read least at c h.0 h.1 h.2 k.0 k.1.0)
      (rights_read p cs (past (held_of c)) (at + 1 + 1) (given p (c / 256) (c % 256) s) (subst (λ m. Listed n m cs) (omega arith) h.3) k.1.1 ∙
      ap (λ m. Ok (gave p cs (given p (c / 256) (c % 256) s), m)) (omega arith))

  -- What a right that was read says of the bytes.
  record HeldStood {B : Type 0} (least : Held) (at : ℕ) (f : Held → ℕ → Read B) (r : B × ℕ) : Type 0 where
    code : ℕ
    rises : place least ≤ code
    right : code / 256 < 8
    to : code % 256 < n
    high : Byte bs at (code / 256)
    low : Byte bs (at + 1) (code % 256)
    goes_on : f (held_of code) (at + 1 + 1) ≡ Ok r

  held_ok : {B : Type 0} (least : Held) → least.to ≤ 256 → (at : ℕ) (f : Held → ℕ → Read B) (r : B × ℕ) → (held_at bs n least at then f) ≡ Ok r → HeldStood least at f r
  held_ok {B} least small at f r e =
      let h = then_ok (held_at bs n least at) f r e in
      let a = below_ok bs at 8 _ h.0 h.1 in
      let y = refused_not (ltb a.0 least.right) _ _ h.0 a.3 in
      let b = below_ok bs (at + 1) n _ h.0 y.1 in
      let z = refused_not (eqb a.0 least.right && ltb b.0 least.to) _ _ h.0 b.3 in
      let g = subst (λ (x : Held × ℕ). f x.0 x.1 ≡ Ok r) (sym (ok_same (record { right = a.0; to = b.0 }, at + 1 + 1) h.0 z.1)) h.2 in
      stood a.0 b.0 a.2 b.2 (not_lower_back least a.0 b.0 small y.0 z.0) a.1 b.1 g
    where
      stood : (x y : ℕ) → x < 8 → y < n → place least ≤ 256 * x + y → Byte bs at x → Byte bs (at + 1) y → f (record { right = x; to = y }) (at + 1 + 1) ≡ Ok r → HeldStood least at f r
      stood x y lx ly h bx by g =
          let c : ℕ = 256 * x + y in
          let hi : x ≡ c / 256 = omega arith in
          let lo : y ≡ c % 256 = omega arith in
          record {
            code = c;
            rises = h;
            right = omega arith;
            to = omega arith;
            high = subst (Byte bs at) hi bx;
            low = subst (Byte bs (at + 1)) lo by;
            goes_on = subst (λ (k : Held). f k (at + 1 + 1) ≡ Ok r) (λ i. record { right = hi i; to = lo i }) g;
          }

  pub record RightsStood (p : ℕ) (least : Held) (at : ℕ) (s : State) (count : ℕ) (t : State) (next : ℕ) : Type 0 where
    pub list : List ℕ
    pub listed : Listed n (place least) list
    pub stands : Stands bs at (pairs list)
    pub many : length list ≡ count
    pub result : t ≡ gave p list s
    pub ends : next ≡ at + length (pairs list)

  pub rights_ok : (p count : ℕ) (least : Held) (at : ℕ) (s : State) (r : State × ℕ) → least.to ≤ 256 → rights_at bs n p count least at s ≡ Ok r → RightsStood p least at s count r.0 r.1
  unfolding rights_at gave pairs
  rights_ok p zero least at s r small e =
      subst (λ (x : State × ℕ). RightsStood p least at s 0 x.0 x.1) (ok_same (s, at) r e)
      (record { list = []; listed = tt; stands = tt; many = refl; result = refl; ends = omega arith })
  rights_ok p (suc count) least at s r small e =
      let h = held_ok least small at (λ k next. rights_at bs n p count (past k) next (given p k.right k.to s)) r e in
      one h.code h.rises h.right h.to h.high h.low
      (rights_ok p count (past (held_of h.code)) (at + 1 + 1) (given p (h.code / 256) (h.code % 256) s) r (let l = h.to in omega arith) h.goes_on)
    where
      one : (c : ℕ) → place least ≤ c → c / 256 < 8 → c % 256 < n → Byte bs at (c / 256) → Byte bs (at + 1) (c % 256) → RightsStood p (past (held_of c)) (at + 1 + 1) (given p (c / 256) (c % 256) s) count r.0 r.1 → RightsStood p least at s (suc count) r.0 r.1
      one c a l m b d k =
          record {
            list = c ∷ k.list;
            listed = (a, l, m, subst (λ j. Listed n j k.list) (omega arith) k.listed);
            stands = (b, (d, k.stands));
            many = ap suc k.many;
            result = k.result;
            ends = let z = k.ends in omega arith;
          }

-- One vertex, with its count.
-- The bytes of a vertex with these rights.
abbrev pub vertex_of : List ℕ → List ℕ
vertex_of cs = length cs / 256 ∷ length cs % 256 ∷ pairs cs

module _ (bs : List ℕ) (n : ℕ) (few : n ≤ 256) where
  pub vertex_read : (p : ℕ) (cs : List ℕ) (at : ℕ) (u : State) (f : State → ℕ → Read State) → Listed n 0 cs → Stands bs at (vertex_of cs) → (count_at bs at then λ count next. rights_at bs n p count first next u then f) ≡ f (gave p cs u) (at + length (vertex_of cs))
  vertex_read p cs at u f l h =
      then_on (length cs) (at + 1 + 1) (λ count next. rights_at bs n p count first next u then f)
      (then_on (length cs / 256) (at + 1) _ (byte_read bs at (length cs / 256) h.0)
      (then_on (length cs % 256) (at + 1 + 1) _ (byte_read bs (at + 1) (length cs % 256) h.1.0) (ap (λ c. Ok (c, at + 1 + 1)) (let c : ℕ = length cs in omega arith))))
      (then_on (gave p cs u) (at + 1 + 1 + length (pairs cs)) f (rights_read bs n few p cs first (at + 1 + 1) u l h.1.1) (ap (f (gave p cs u)) (omega arith)))

  pub record VertexStood (p at : ℕ) (u : State) (f : State → ℕ → Read State) (r : State × ℕ) : Type 0 where
    pub list : List ℕ
    pub listed : Listed n 0 list
    pub stands : Stands bs at (vertex_of list)
    pub goes_on : f (gave p list u) (at + length (vertex_of list)) ≡ Ok r

  pub vertex_ok : (p at : ℕ) (u : State) (f : State → ℕ → Read State) (r : State × ℕ) → ((i : ℕ) → get_or bs i 0 < 256) → (count_at bs at then λ count next. rights_at bs n p count first next u then f) ≡ Ok r → VertexStood p at u f r
  vertex_ok p at u f r bytes e =
      let h = then_ok (count_at bs at) _ r e in
      let a = byte_ok bs at _ h.0 h.1 in
      let b = byte_ok bs (at + 1) _ h.0 a.2 in
      let g = subst (λ (x : ℕ × ℕ). (rights_at bs n p x.0 first x.1 u then f) ≡ Ok r) (sym (ok_same (256 * a.0 + b.0, at + 1 + 1) h.0 b.2)) h.2 in
      let k = then_ok (rights_at bs n p (256 * a.0 + b.0) first (at + 1 + 1) u) f r g in
      let s = rights_ok bs n few p (256 * a.0 + b.0) first (at + 1 + 1) u k.0 (omega arith) k.1 in
      let many = s.many in
      let ends = s.ends in
      let small : b.0 < 256 = let i = b.1.is in let l = bytes (at + 1) in omega arith in
      let hi : a.0 ≡ length s.list / 256 = omega arith in
      let lo : b.0 ≡ length s.list % 256 = omega arith in
      record {
        list = s.list;
        listed = s.listed;
        stands = (record { there = a.1.there; is = a.1.is ∙ hi }, (record { there = b.1.there; is = b.1.is ∙ lo }, s.stands));
        goes_on = ap₂ f (sym s.result) (let z : at + length (vertex_of s.list) ≡ k.0.1 = omega arith in z) ∙ k.2;
      }
