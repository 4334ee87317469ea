-- A book is read from its bytes, and from no others.
use Rattle.std.proofs.Common.{◌≡◌, ℕ, ◌+◌, ◌*◌, ◌<◌, ◌≤◌, Bool, cond, ◌&&◌, T, eqb, ltb, leb, List, ◌∷◌, ◌++◌, length, get_or, Ok, sym, refl, ap, ◌∙◌, subst, inl, inr, zero-add, arith, ltb→lt, zero, suc, [], take, IfOk, Err, Result}
use Rattle.std.proofs.lemmas.Bool.Decides.{nat_tests}
use Rattle.std.proofs.lemmas.List.{length-append}
use Rattle.std.proofs.lemmas.Bool.{eqb-true, leb-true, le-leb, lt-leb, and_from, and_parts, cond-true}
use Rattle.bits.specs.Sets.{set_bytes}
use Rattle.bits.proofs.Bytes.{length_set_bytes}
use Rattle.model.specs.State.{State}
use Rattle.model.proofs.Tests.{same, parts}
use Rattle.graph.specs.Graphs.{bare, state}
use Rattle.codec.specs.declared.book.Layout.{Layout}
use Rattle.codec.specs.declared.book.Layout.TheVariants.{Narrow, Wide}
use Rattle.codec.specs.declared.fault.Fault.TheVariants.{OutOfRange, Missing}
use Rattle.codec.specs.Bookable.{Bookable}
use Rattle.codec.specs.Reading.{Read, ◌then◌, byte_at}
use Rattle.codec.specs.Books.{layout_kind, least_size, most_size, set_width, layout_at, size_at, vertices_at, book_at}
use Rattle.codec.specs.Writing.{layout_of, book_bytes}
use Rattle.codec.proofs.Inverted.{passed, Byte, ok_same, then_ok, then_on, cond_ok, cond_ways, byte_read, byte_ok}
use Rattle.codec.proofs.Stands.{Stands, stands_append, stands_left, stands_right}
use Rattle.codec.proofs.SetBytes.{subjects_read, subjects_ok}
use Rattle.codec.proofs.Vertices.{state_same, vertices_from, vertices_front, until, vertices_read, Filled, VerticesStood, vertices_ok}
use Rattle.graph.specs.declared.graph.Graph.{Graph}
use Rattle.codec.specs.declared.reader.Reader.{Reader}
use Rattle.codec.specs.declared.fault.Fault.{Fault}

-- The number of vertices is one that the layout is for.
pub record Suits (l : Layout) (n : ℕ) : Type 0 where
  pub least : least_size l ≤ n
  pub most : n ≤ most_size l

layout_suits : (n : ℕ) → 0 < n → n < 256 → Suits (layout_of n) n
layout_suits n some few = record { least = grind (arith, nat_tests); most = grind (arith, nat_tests) }

suits_layout : (l : Layout) (n : ℕ) → Suits l n → layout_of n ≡ l
suits_layout Narrow n s = ap (λ b. cond b Narrow Wide) (le-leb n 128 s.most)
suits_layout Wide n s = ap (λ b. cond b Narrow Wide) (lt-leb n 128 s.least)

suits_bounds : (l : Layout) (n : ℕ) → Suits l n → (0 < n) × (n < 256) × (n ≤ 8 * set_width l) × (0 < set_width l)
suits_bounds Narrow n s = let a = s.least in let b = s.most in (omega arith, omega arith, omega arith, omega arith)
suits_bounds Wide n s = let a = s.least in let b = s.most in (omega arith, omega arith, omega arith, omega arith)

-- The kind and the size.
module _ (bs : List ℕ) where
  layout_read : (l : Layout) (at : ℕ) → Byte bs at (layout_kind l) → layout_at bs at ≡ Ok (l, at + 1)
  layout_read Narrow at h = then_on 1 (at + 1) _ (byte_read bs at 1 h) refl
  layout_read Wide at h = then_on 7 (at + 1) _ (byte_read bs at 7 h) refl

  size_read : (l : Layout) (at n : ℕ) → Suits l n → Byte bs at n → size_at bs l at ≡ Ok (n, at + 1)
  size_read l at n s h = then_on n (at + 1) _ (byte_read bs at n h) (cond-true (leb (least_size l) n && leb n (most_size l)) _ _ (and_from _ _ (le-leb (least_size l) n s.least) (le-leb n (most_size l) s.most)))

  layout_ok : {B : Type 0} (at : ℕ) (f : Layout → ℕ → Read B) (r : B × ℕ) → (layout_at bs at then f) ≡ Ok r → (l : Layout) × Byte bs at (layout_kind l) × (f l (at + 1) ≡ Ok r)
  layout_ok at f r e =
      let p = then_ok (layout_at bs at) f r e in
      let a = byte_ok bs at _ p.0 p.1 in
      elim (cond_ways (eqb a.0 1) _ _ _ a.2) [
        | inl z ↦ (Narrow, subst (Byte bs at) (eqb-true a.0 1 z.0) a.1, subst (λ (x : Layout × ℕ). f x.0 x.1 ≡ Ok r) (sym (ok_same (Narrow, at + 1) p.0 z.1)) p.2)
        | inr y ↦ (let z = passed (eqb a.0 7) _ _ p.0 y.1 in (Wide, subst (Byte bs at) (eqb-true a.0 7 z.0) a.1, subst (λ (x : Layout × ℕ). f x.0 x.1 ≡ Ok r) (sym (ok_same (Wide, at + 1) p.0 z.1)) p.2))
      ]

  size_ok : {B : Type 0} (l : Layout) (at : ℕ) (f : ℕ → ℕ → Read B) (r : B × ℕ) → (size_at bs l at then f) ≡ Ok r → (n : ℕ) × Byte bs at n × Suits l n × (f n (at + 1) ≡ Ok r)
  size_ok l at f r e =
      let p = then_ok (size_at bs l at) f r e in
      let a = byte_ok bs at _ p.0 p.1 in
      let c = cond_ok (leb (least_size l) a.0 && leb a.0 (most_size l)) (a.0, at + 1) p.0 (OutOfRange at) a.2 in
      let s = and_parts _ _ c.0 in
      (a.0, a.1, record { least = leb-true _ _ s.0; most = leb-true _ _ s.1 }, subst (λ (x : ℕ × ℕ). f x.0 x.1 ≡ Ok r) (sym c.1) p.2)

-- A book with its layout and the front form of its vertices.
abbrev book_of : Layout → ℕ → (ℕ → Bool) → List ℕ → List ℕ
book_of l n f vertices = layout_kind l ∷ n ∷ (set_bytes (set_width l) f ++ vertices)

book_form : (s : State) → book_bytes s ≡ book_of (layout_of s.size) s.size s.subject (vertices_from s 0 s.size)
unfolding book_bytes
book_form s = ap (λ v. book_of (layout_of s.size) s.size s.subject v) (vertices_front s s.size)

no_rights : (s : State) → bare s.size s.subject ≡ until s 0
unfolding until
no_rights s = state_same _ _ refl refl (λ x r q. same _ _ (λ t. absurd t) (λ t. absurd (let l = ltb→lt x 0 (parts (ltb x 0) (s.has x r q) t).0 in omega arith)))

pub book_read : (bs : List ℕ) (s : State) → Bookable s → Stands bs 0 (book_bytes s) → book_at bs ≡ Ok (s, length (book_bytes s))
unfolding book_at
book_read bs s b stands =
    let n = s.size in
    let l = layout_of n in
    let suits = layout_suits n b.some b.few in
    let v = vertices_from s 0 n in
    let h = subst (Stands bs 0) (book_form s) stands in
    let wide = length_set_bytes (set_width l) s.subject in
    then_on l 1 _ (layout_read bs l 0 h.0)
    (then_on n 2 _ (size_read bs l 1 n suits h.1.0)
    (then_on s.subject (2 + set_width l) _ (subjects_read bs n s.subject b.acting (set_width l) 2 (suits_bounds l n suits).2 (stands_left bs (set_bytes (set_width l) s.subject) v 2 h.1.1))
    (ap (λ t. vertices_at bs n 0 n (2 + set_width l) t) (no_rights s) ∙
    (vertices_read s b bs n 0 (2 + set_width l) (zero-add n) (subst (λ k. Stands bs (2 + k) v) wide (stands_right bs (set_bytes (set_width l) s.subject) v 2 h.1.1)) ∙
    ap (λ k. Ok (s, k)) (long l v wide ∙ ap length (sym (book_form s)))))))
  where
    long : (l : Layout) (v : List ℕ) → length (set_bytes (set_width l) s.subject) ≡ set_width l → 2 + set_width l + length v ≡ length (book_of l s.size s.subject v)
    long l v e = let a = length-append (set_bytes (set_width l) s.subject) v in omega arith

-- What a book that was read says of the bytes.
pub record BookStood (bs : List ℕ) (s : State) (next : ℕ) : Type 0 where
  pub bookable : Bookable s
  pub stands : Stands bs 0 (book_bytes s)
  pub ends : next ≡ length (book_bytes s)

pub book_ok : (bs : List ℕ) → ((i : ℕ) → get_or bs i 0 < 256) → (r : State × ℕ) → book_at bs ≡ Ok r → BookStood bs r.0 r.1
unfolding book_at
book_ok bs bytes r e =
    let a = layout_ok bs 0 _ r e in
    let l = a.0 in
    let b = size_ok bs l 1 _ r a.2 in
    let n = b.0 in
    let bounds = suits_bounds l n b.2 in
    let c = subjects_ok bs n (set_width l) 2 _ r bytes bounds.3 b.3 in
    let empty : Filled n 0 (bare n c.set) = record { size = refl; holder = λ x k q t. absurd t; right = λ x k q t. absurd t; target = λ x k q t. absurd t } in
    let few = bounds.1 in
    stood l n b.2 c.set c.below a.1 b.1 c.stands
    (vertices_ok bs bytes n (omega arith) n 0 (2 + set_width l) (bare n c.set) r empty c.goes_on)
  where
    stood : (l : Layout) (n : ℕ) → Suits l n → (f : ℕ → Bool) → ((k : ℕ) → T (f k) → k < n) → Byte bs 0 (layout_kind l) → Byte bs 1 n → Stands bs 2 (set_bytes (set_width l) f) → {few : n ≤ 256} → VerticesStood bs bytes n few n 0 (2 + set_width l) (bare n f) r.0 r.1 → BookStood bs r.0 r.1
    stood l n suits f below kind size set {few} v =
        let s = r.0 in
        let bounds = suits_bounds l n suits in
        let some = bounds.0 in
        let less = bounds.1 in
        let same_size = v.filled.size in
        let form : book_bytes s ≡ book_of l n f (vertices_from s 0 n) =
        book_form s ∙
        (ap (λ m. book_of (layout_of m) m s.subject (vertices_from s 0 m)) same_size ∙
        (ap (λ k. book_of k n s.subject (vertices_from s 0 n)) (suits_layout l n suits) ∙ ap (λ g. book_of l n g (vertices_from s 0 n)) v.subject)) in
        let wide = length_set_bytes (set_width l) f in
        record {
          bookable =
              record {
                some = omega arith;
                few = omega arith;
                formed = record { holder = λ x k q t. let h = v.filled.holder x k q t in omega arith; target = λ x k q t. let h = v.filled.target x k q t in omega arith };
                acting = λ k t. let h = below k (subst (λ g. T (g k)) v.subject t) in omega arith;
                rights = v.filled.right;
              };
          stands = subst (Stands bs 0) (sym form) (kind, (size, stands_append bs (set_bytes (set_width l) f) (vertices_from s 0 n) 2 set (subst (λ k. Stands bs (2 + k) (vertices_from s 0 n)) (sym wide) v.stands)));
          ends = let a = length-append (set_bytes (set_width l) f) (vertices_from s 0 n) in let b = ap length form in let c = v.ends in omega arith;
        }

-- A book that begins with 1 has at most 128 vertices.
begins : (s : State) (bs : List ℕ) (k : ℕ) → take k bs ≡ book_bytes s → get_or bs 0 0 ≡ layout_kind (layout_of s.size)
unfolding book_bytes
begins s bs zero e = absurd (let z : ◌≡◌ {A = ℕ} 0 1 = cc in omega arith)
begins s [] (suc k) e = absurd (let z : ◌≡◌ {A = ℕ} 0 1 = cc in omega arith)
begins s (b ∷ bs) (suc k) e = cc

pub first_byte : (bs : List ℕ) (b next : ℕ) → ◌≡◌ {A = Read ℕ} (byte_at bs 0) (Ok (b, next)) → get_or bs 0 0 ≡ b
first_byte bs b next e = ap (λ (p : ℕ × ℕ). p.0) (cond_ok (ltb 0 (length bs)) (get_or bs 0 0, 0 + 1) (b, next) (Missing (length bs)) e).1

pub few : (bs : List ℕ) → get_or bs 0 0 ≡ 1 → (r : Result (Graph × Reader) Fault) → IfOk r (λ p. take p.1.at bs ≡ book_bytes (state p.0)) → IfOk r (λ p. (state p.0).size ≤ 128)
few bs one (Ok p) says = let e = begins (state p.0) bs p.1.at says in grind (arith, nat_tests)
few bs one (Err f) says = tt
