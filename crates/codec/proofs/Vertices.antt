-- The rights of all vertices are read from their bytes, and from no others.
use Rattle.std.proofs.Common.{◌≡◌, ℕ, zero, suc, ◌+◌, ◌*◌, ◌/◌, ◌%◌, ◌<◌, ◌≤◌, ◌&&◌, T, ltb, List, [], ◌++◌, length, get_or, Ok, sym, refl, ap, ◌∙◌, subst, ap₂, inl, inr, append_assoc, append-nil, add-zero, zero-add, arith, ltb→lt, lt→ltb}
use mathlib.Core.Path.{fun_ext}
use Rattle.std.proofs.lemmas.List.{length-append}
use Rattle.std.proofs.lemmas.Bool.{cases_eq}
use Rattle.std.proofs.lemmas.Bool.Decides.{nat_tests}
use Rattle.model.specs.State.{State}
use Rattle.model.proofs.Tests.{same, both, parts}
use Rattle.codec.specs.Bookable.{Bookable}
use Rattle.codec.specs.Books.{vertices_at}
use Rattle.codec.specs.Writing.{vertex_bytes, vertices_bytes}
use Rattle.codec.proofs.Inverted.{ok_same}
use Rattle.codec.proofs.Stands.{Stands, stands_append, stands_left, stands_right}
use Rattle.codec.proofs.Codes.{Listed, member, members, member_passes, passing_member, members_listed, listed_members, listed_bounds, gave, gave_size, gave_subject, gave_keeps, gave_gives, gave_from, codes, holds_code, vertex_codes}
use Rattle.codec.proofs.Rights.{vertex_of, vertex_read, vertex_ok}

pub state_same : (s t : State) → s.size ≡ t.size → s.subject ≡ t.subject → ((x r q : ℕ) → s.has x r q ≡ t.has x r q) → s ≡ t
state_same s t a b c = λ i. record { size = a i; subject = b i; has = λ x r q. c x r q i }

-- The bytes of m vertices from p on, the first first.
unfoldable pub vertices_from : State → ℕ → ℕ → List ℕ
vertices_from s p zero = []
vertices_from s p (suc m) = vertex_bytes s p ++ vertices_from s (p + 1) m

one_more : (s : State) (m p : ℕ) → vertices_from s p m ++ vertex_bytes s (p + m) ≡ vertices_from s p (suc m)
unfolding vertices_from
one_more s zero p = ap (vertex_bytes s) (add-zero p) ∙ sym (append-nil (vertex_bytes s p))
one_more s (suc m) p =
    append_assoc (vertex_bytes s p) (vertices_from s (p + 1) m) (vertex_bytes s (p + suc m)) ∙
    ap (λ x. vertex_bytes s p ++ x) (ap (λ k. vertices_from s (p + 1) m ++ vertex_bytes s k) (omega arith) ∙ one_more s m (p + 1))

pub vertices_front : (s : State) (m : ℕ) → vertices_bytes s m ≡ vertices_from s 0 m
unfolding vertices_bytes vertices_from
vertices_front s zero = refl
vertices_front s (suc m) = ap₂ (λ a k. a ++ vertex_bytes s k) (vertices_front s m) (sym (zero-add m)) ∙ one_more s m 0

-- Reading what was written: the state so far has the rights of the vertices below p.
unfoldable pub until : State → ℕ → State
until s p = record { size = s.size; subject = s.subject; has = λ x r q. ltb x p && s.has x r q }

module _ (s : State) (b : Bookable s) where
  codes_listed : (p : ℕ) → Listed s.size 0 (codes s p)
  unfolding codes
  codes_listed p = members_listed s.size (holds_code s p) (λ c t. b.formed.target p (c / 256) (c % 256) t) 0 2048 (omega arith)

  -- What a vertex was given is what it has.
  has_codes : (p x r q : ℕ) → (gave p (codes s p) (until s p)).has x r q ≡ (until s (p + 1)).has x r q
  unfolding until codes
  has_codes p x r q = same _ _ there back
    where
      there : T ((gave p (members (holds_code s p) 0 2048) (until s p)).has x r q) → T (ltb x (p + 1) && s.has x r q)
      there t =
          elim (gave_from p (members (holds_code s p) 0 2048) (until s p) x r q t) [
            | inl h ↦ (let e = h.who in let a = h.what in let d = h.whom in let k = member_passes (holds_code s p) 0 2048 h.code h.listed in grind (arith, nat_tests))
            | inr h ↦ grind (arith, nat_tests)
          ]

      itself : x ≡ p → T (s.has x r q) → T ((gave p (members (holds_code s p) 0 2048) (until s p)).has x r q)
      itself e t =
          let h : T (s.has p r q) = subst (λ y. T (s.has y r q)) e t in
          let lr = b.rights p r q h in
          let lq = b.formed.target p r q h in
          let few = b.few in
          let c : ℕ = 256 * r + q in
          let hi : c / 256 ≡ r = omega arith in
          let lo : c % 256 ≡ q = omega arith in
          let k : T (holds_code s p c) = subst (λ y. T (s.has p y (c % 256))) (sym hi) (subst (λ y. T (s.has p r y)) (sym lo) h) in
          let m = gave_gives p (members (holds_code s p) 0 2048) (until s p) c (passing_member (holds_code s p) 0 2048 c (omega arith) (omega arith) k) in
          subst (λ y. T ((gave p (members (holds_code s p) 0 2048) (until s p)).has y r q)) (sym e) (subst (λ y. T ((gave p (members (holds_code s p) 0 2048) (until s p)).has p y q)) hi (subst (λ y. T ((gave p (members (holds_code s p) 0 2048) (until s p)).has p (c / 256) y)) lo m))

      back : T (ltb x (p + 1) && s.has x r q) → T ((gave p (members (holds_code s p) 0 2048) (until s p)).has x r q)
      back t =
          let k = parts (ltb x (p + 1)) (s.has x r q) t in
          let l = ltb→lt x (p + 1) k.0 in
          elim (cases_eq x p) [
            | inl e ↦ itself e k.1
            | inr d ↦ gave_keeps p (members (holds_code s p) 0 2048) (until s p) x r q (both (ltb x p) _ (lt→ltb x p (omega arith)) k.1)
          ]

  one_vertex : (p : ℕ) → gave p (codes s p) (until s p) ≡ until s (p + 1)
  unfolding until
  one_vertex p = state_same _ _ (gave_size p (codes s p) (until s p)) (gave_subject p (codes s p) (until s p)) (has_codes p)

  all_vertices : until s s.size ≡ s
  unfolding until
  all_vertices = state_same _ _ refl refl (λ x r q. same _ _ (λ t. (parts (ltb x s.size) _ t).1) (λ t. both _ _ (lt→ltb x s.size (b.formed.holder x r q t)) t))

  vertex_bytes-law : (p : ℕ) → vertex_bytes s p ≡ vertex_of (codes s p)
  vertex_bytes-law p = vertex_codes s p (let l = b.few in omega arith) (b.formed.target p)

  pub vertices_read : (bs : List ℕ) (m p at : ℕ) → p + m ≡ s.size → Stands bs at (vertices_from s p m) → vertices_at bs s.size p m at (until s p) ≡ Ok (s, at + length (vertices_from s p m))
  unfolding vertices_at vertices_from
  vertices_read bs zero p at e h = ap₂ (λ t k. Ok (t, k)) (ap (until s) (let z : p ≡ s.size = omega arith in z) ∙ all_vertices) (sym (add-zero at))
  vertices_read bs (suc m) p at e h =
      let v = vertex_bytes s p in
      let w = vertex_bytes-law p in
      let more = vertices_from s (p + 1) m in
      let behind = stands_right bs v more at h in
      vertex_read bs s.size (let l = b.few in omega arith) p (codes s p) at (until s p) (λ t after. vertices_at bs s.size (p + 1) m after t) (codes_listed p) (subst (Stands bs at) w (stands_left bs v more at h)) ∙
      (ap₂ (λ t k. vertices_at bs s.size (p + 1) m k t) (one_vertex p) (ap (λ x. at + length x) (sym w)) ∙
      (vertices_read bs m (p + 1) (at + length v) (omega arith) behind ∙
      ap (λ k. Ok (s, k)) (let l = length-append v more in omega arith)))

-- A state that has rights only of vertices below p, and only to what is there.
pub record Filled (n p : ℕ) (u : State) : Type 0 where
  pub size : u.size ≡ n
  pub holder : (x r q : ℕ) → T (u.has x r q) → x < p
  pub right : (x r q : ℕ) → T (u.has x r q) → r < 8
  pub target : (x r q : ℕ) → T (u.has x r q) → q < n

module _ (bs : List ℕ) (bytes : (i : ℕ) → get_or bs i 0 < 256) (n : ℕ) (few : n ≤ 256) where
  module _ (p : ℕ) (u : State) (filled : Filled n p u) (cs : List ℕ) (listed : Listed n 0 cs) where
    filled_more : Filled n (p + 1) (gave p cs u)
    filled_more =
        record {
          size = gave_size p cs u ∙ filled.size;
          holder = λ x r q t. elim (gave_from p cs u x r q t) [ inl h ↦ (let e = h.who in omega arith) | inr h ↦ (let l = filled.holder x r q h in omega arith) ];
          right = λ x r q t. elim (gave_from p cs u x r q t) [ inl h ↦ (let e = h.what in let l = listed_bounds n 0 cs h.code listed h.listed in omega arith) | inr h ↦ filled.right x r q h ];
          target = λ x r q t. elim (gave_from p cs u x r q t) [ inl h ↦ (let e = h.whom in let l = listed_bounds n 0 cs h.code listed h.listed in omega arith) | inr h ↦ filled.target x r q h ];
        }

    before_same : (x r q : ℕ) → x < p → (gave p cs u).has x r q ≡ u.has x r q
    before_same x r q l = same _ _ (λ t. elim (gave_from p cs u x r q t) [ inl h ↦ absurd (let e = h.who in omega arith) | inr h ↦ h ]) (gave_keeps p cs u x r q)

    -- The rights of p are those of the list.
    listed_codes : (t : State) → ((r q : ℕ) → t.has p r q ≡ (gave p cs u).has p r q) → codes t p ≡ cs
    unfolding codes
    listed_codes t e = ap (λ f. members f 0 2048) (fun_ext held) ∙ listed_members n 0 2048 cs refl listed
      where
        found : (c : ℕ) → T ((gave p cs u).has p (c / 256) (c % 256)) → T (member cs c)
        found c t =
            elim (gave_from p cs u p (c / 256) (c % 256) t) [
              | inl h ↦ (let d = h.code in let a = h.what in let b = h.whom in subst (λ k. T (member cs k)) (omega arith) h.listed)
              | inr h ↦ absurd (let l = filled.holder p (c / 256) (c % 256) h in omega arith)
            ]

        held : (c : ℕ) → holds_code t p c ≡ member cs c
        held c = e (c / 256) (c % 256) ∙ same _ _ (found c) (gave_gives p cs u c)

  pub record VerticesStood (m p at : ℕ) (u t : State) (next : ℕ) : Type 0 where
    pub filled : Filled n (p + m) t
    pub subject : t.subject ≡ u.subject
    pub before : (x r q : ℕ) → x < p → t.has x r q ≡ u.has x r q
    pub stands : Stands bs at (vertices_from t p m)
    pub ends : next ≡ at + length (vertices_from t p m)

  pub vertices_ok : (m p at : ℕ) (u : State) (r : State × ℕ) → Filled n p u → vertices_at bs n p m at u ≡ Ok r → VerticesStood m p at u r.0 r.1
  unfolding vertices_at vertices_from
  vertices_ok zero p at u r filled e =
      subst (λ (x : State × ℕ). VerticesStood zero p at u x.0 x.1) (ok_same (u, at) r e)
      (record { filled = subst (λ k. Filled n k u) (sym (add-zero p)) filled; subject = refl; before = λ x k q l. refl; stands = tt; ends = sym (add-zero at) })
  vertices_ok (suc m) p at u r filled e =
      let v = vertex_ok bs n few p at u (λ t after. vertices_at bs n (p + 1) m after t) r bytes e in
      let more = filled_more p u filled v.list v.listed in
      one v.list v.listed v.stands (vertices_ok m (p + 1) (at + length (vertex_of v.list)) (gave p v.list u) r more v.goes_on)
    where
      one : (cs : List ℕ) → Listed n 0 cs → Stands bs at (vertex_of cs) → VerticesStood m (p + 1) (at + length (vertex_of cs)) (gave p cs u) r.0 r.1 → VerticesStood (suc m) p at u r.0 r.1
      one cs listed stands k =
          let t = r.0 in
          let size = k.filled.size in
          let w : vertex_bytes t p ≡ vertex_of cs =
          vertex_codes t p (omega arith) (λ x q h. let l = k.filled.target p x q h in omega arith) ∙ ap vertex_of (listed_codes p u filled cs listed t (λ x q. k.before p x q (omega arith))) in
          let more = vertices_from t (p + 1) m in
          record {
            filled = subst (λ j. Filled n j t) (omega arith) k.filled;
            subject = k.subject ∙ gave_subject p cs u;
            before = λ x y q l. k.before x y q (omega arith) ∙ before_same p u filled cs listed x y q l;
            stands = stands_append bs (vertex_bytes t p) more at (subst (Stands bs at) (sym w) stands) (subst (λ x. Stands bs (at + length x) more) (sym w) k.stands);
            ends = k.ends ∙ (ap (λ x. at + length x + length more) (sym w) ∙ (let l = length-append (vertex_bytes t p) more in omega arith));
          }
