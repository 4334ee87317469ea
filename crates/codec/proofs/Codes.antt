-- A right to a vertex as one number, 256 for each right and one for each vertex, and rising lists of such numbers.
use Rattle.std.proofs.Common.{◌≡◌, ℕ, zero, suc, ◌+◌, ◌*◌, ◌/◌, ◌%◌, ◌<◌, ◌≤◌, Bool, true, false, cond, ◌||◌, T, eqb, List, [], ◌∷◌, ◌++◌, length, sym, refl, ap, ◌∙◌, subst, inl, inr, add-zero, suc-add, zero-add, append_assoc, append-nil, arith, eqb→eq, ◌⊎◌, ap₂, add-one}
use Rattle.std.proofs.lemmas.Bool.{cases_eq, ne_eqb, or_from}
use Rattle.std.proofs.lemmas.Bool.Decides.{nat_tests}
use Rattle.model.proofs.Tests.{cases, left, right, from_true, is_false}
use lib.Dec.{eqb_refl}
use Rattle.model.specs.State.{State}
use Rattle.model.specs.Rules.{this_right, given}
use Rattle.std.proofs.lemmas.List.{length-append}
use Rattle.model.specs.Bounded.{count_below}
use Rattle.codec.specs.Writing.{row_bytes, held_bytes, count_held, vertex_bytes}

-- The numbers from k on, m of them, that pass the test.
unfoldable pub members : (ℕ → Bool) → ℕ → ℕ → List ℕ
members f k zero = []
members f k (suc m) = cond (f k) (k ∷ []) [] ++ members f (k + 1) m

unfoldable pub member : List ℕ → ℕ → Bool
member [] c = false
member (d ∷ cs) c = eqb c d || member cs c

-- Strictly rising from k on, each of a right below 8 and a vertex below n.
abbrev pub Listed : ℕ → ℕ → List ℕ → Type 0
Listed n k [] = Unit {0}
Listed n k (c ∷ cs) = (k ≤ c) × (c / 256 < 8) × (c % 256 < n) × Listed n (c + 1) cs

-- The bytes of such numbers.
unfoldable pub pairs : List ℕ → List ℕ
pairs [] = []
pairs (c ∷ cs) = c / 256 ∷ c % 256 ∷ pairs cs

pub length_pairs : (cs : List ℕ) → length (pairs cs) ≡ 2 * length cs
unfolding pairs
length_pairs [] = refl
length_pairs (c ∷ cs) = let h = length_pairs cs in omega arith

pub pairs_append : (cs ds : List ℕ) → pairs (cs ++ ds) ≡ pairs cs ++ pairs ds
unfolding pairs
pairs_append [] ds = refl
pairs_append (c ∷ cs) ds = ap (λ x. c / 256 ∷ c % 256 ∷ x) (pairs_append cs ds)

-- Members of one stretch and of the next.
pub members_append : (f : ℕ → Bool) (a b k : ℕ) → members f k (a + b) ≡ members f k a ++ members f (k + a) b
unfolding members
members_append f zero b k = ap (members f k) (zero-add b) ∙ ap (λ m. members f m b) (sym (add-zero k))
members_append f (suc a) b k =
    ap (members f k) (suc-add a b) ∙
    (ap (λ l. cond (f k) (k ∷ []) [] ++ l) (members_append f a b (k + 1) ∙ ap (λ m. members f (k + 1) a ++ members f m b) (omega arith)) ∙ sym (append_assoc (cond (f k) (k ∷ []) []) (members f (k + 1) a) (members f (k + suc a) b)))

pub members_one : (f : ℕ → Bool) (k : ℕ) → members f k 1 ≡ cond (f k) (k ∷ []) []
unfolding members
members_one f k = append-nil (cond (f k) (k ∷ []) [])

-- Tests that agree from k on have the same members from there on.
members_same : (f g : ℕ → Bool) (k m : ℕ) → ((c : ℕ) → k ≤ c → f c ≡ g c) → members f k m ≡ members g k m
unfolding members
members_same f g k zero e = refl
members_same f g k (suc m) e =
    ap (λ t. cond t (k ∷ []) [] ++ members f (k + 1) m) (e k (omega arith)) ∙ ap (λ l. cond (g k) (k ∷ []) [] ++ l) (members_same f g (k + 1) m (λ c l. e c (omega arith)))

-- A member is one that passes, in the stretch.
pub member_passes : (f : ℕ → Bool) (k m c : ℕ) → T (member (members f k m) c) → T (f c)
unfolding members member
member_passes f k zero c t = absurd t
member_passes f k (suc m) c t = let later = member_passes f (k + 1) m c in grind (arith, nat_tests)

pub passing_member : (f : ℕ → Bool) (k m c : ℕ) → k ≤ c → c < k + m → T (f c) → T (member (members f k m) c)
unfolding members member
passing_member f k zero c l h t = absurd (omega arith)
passing_member f k (suc m) c l h t = let later = passing_member f (k + 1) m c in grind (arith, nat_tests)

-- Members are listed.
pub listed_from : (n j k : ℕ) (cs : List ℕ) → k ≤ j → Listed n j cs → Listed n k cs
listed_from n j k [] l h = tt
listed_from n j k (c ∷ cs) l h = (let a = h.0 in omega arith, h.1, h.2, h.3)

pub members_listed : (n : ℕ) (f : ℕ → Bool) → ((c : ℕ) → T (f c) → c % 256 < n) → (k m : ℕ) → k + m ≤ 2048 → Listed n k (members f k m)
unfolding members
members_listed n f below k zero h = tt
members_listed n f below k (suc m) h = first (f k) refl (members_listed n f below (k + 1) m (omega arith))
  where
    first : (b : Bool) → f k ≡ b → Listed n (k + 1) (members f (k + 1) m) → Listed n k (cond b (k ∷ []) [] ++ members f (k + 1) m)
    first true e r = (omega arith, omega arith, below k (from_true (f k) e), r)
    first false e r = listed_from n (k + 1) k (members f (k + 1) m) (omega arith) r

-- What is listed are its own members.
not_yet : (n j c : ℕ) (cs : List ℕ) → Listed n j cs → c < j → member cs c ≡ false
unfolding member
not_yet n j c [] h l = refl
not_yet n j c (d ∷ cs) h l = or_from _ _ (ne_eqb c d (λ e. let a = h.0 in omega arith)) (not_yet n (d + 1) c cs h.3 (let a = h.0 in omega arith))

pub listed_members : (n k m : ℕ) (cs : List ℕ) → k + m ≡ 2048 → Listed n k cs → members (member cs) k m ≡ cs
unfolding members member
listed_members n k zero [] e h = refl
listed_members n k zero (c ∷ cs) e h = absurd (let a = h.0 in let b = h.1 in omega arith)
listed_members n k (suc m) [] e h = listed_members n (k + 1) m [] (omega arith) tt
listed_members n k (suc m) (c ∷ cs) e h =
    let l = h.0 in
    elim (cases_eq k c) [
      | inl z ↦ (let a = members_same (member (c ∷ cs)) (member cs) (k + 1) m (λ d u. grind (arith, nat_tests)) in let b = listed_members n (k + 1) m cs (omega arith) (subst (λ j. Listed n (j + 1) cs) (sym z) h.3) in grind (arith, nat_tests))
      | inr d ↦ (let a = not_yet n (c + 1) k cs h.3 (omega arith) in let b = listed_members n (k + 1) m (c ∷ cs) (omega arith) (omega arith, h.1, h.2, h.3) in grind (arith, nat_tests))
    ]

pub listed_bounds : (n k : ℕ) (cs : List ℕ) (c : ℕ) → Listed n k cs → T (member cs c) → (c / 256 < 8) × (c % 256 < n)
unfolding member
listed_bounds n k [] c h t = absurd t
listed_bounds n k (d ∷ cs) c h t =
    elim (cases (eqb c d) (member cs c) t) [
      | inl e ↦ subst (λ m. (m / 256 < 8) × (m % 256 < n)) (sym (eqb→eq c d e)) (h.1, h.2)
      | inr m ↦ listed_bounds n (d + 1) cs c h.3 m
    ]

-- A state after a vertex was given a list of rights.
unfoldable pub gave : ℕ → List ℕ → State → State
gave p [] s = s
gave p (c ∷ cs) s = gave p cs (given p (c / 256) (c % 256) s)

pub gave_size : (p : ℕ) (cs : List ℕ) (s : State) → (gave p cs s).size ≡ s.size
unfolding gave
gave_size p [] s = refl
gave_size p (c ∷ cs) s = gave_size p cs (given p (c / 256) (c % 256) s)

pub gave_subject : (p : ℕ) (cs : List ℕ) (s : State) → (gave p cs s).subject ≡ s.subject
unfolding gave
gave_subject p [] s = refl
gave_subject p (c ∷ cs) s = gave_subject p cs (given p (c / 256) (c % 256) s)

-- What was there before stays, and what is in the list is there.
pub gave_keeps : (p : ℕ) (cs : List ℕ) (s : State) (x r q : ℕ) → T (s.has x r q) → T ((gave p cs s).has x r q)
unfolding gave
gave_keeps p [] s x r q t = t
gave_keeps p (c ∷ cs) s x r q t = gave_keeps p cs (given p (c / 256) (c % 256) s) x r q (right (this_right p (c / 256) (c % 256) x r q) _ t)

pub gave_gives : (p : ℕ) (cs : List ℕ) (s : State) (c : ℕ) → T (member cs c) → T ((gave p cs s).has p (c / 256) (c % 256))
unfolding gave member
gave_gives p [] s c t = absurd t
gave_gives p (d ∷ cs) s c t =
    let s' = given p (d / 256) (d % 256) s in
    let kept = gave_keeps p cs s' p (c / 256) (c % 256) in
    let later = gave_gives p cs s' c in
    grind (arith, nat_tests)

-- And nothing else is.
pub record ListedIn (p : ℕ) (cs : List ℕ) (x r q : ℕ) : Type 0 where
  pub code : ℕ
  pub listed : T (member cs code)
  pub who : x ≡ p
  pub what : r ≡ code / 256
  pub whom : q ≡ code % 256

pub gave_from : (p : ℕ) (cs : List ℕ) (s : State) (x r q : ℕ) → T ((gave p cs s).has x r q) → ListedIn p cs x r q ⊎ T (s.has x r q)
unfolding gave member
gave_from p [] s x r q t = inr t
gave_from p (c ∷ cs) s x r q t =
    elim (gave_from p cs (given p (c / 256) (c % 256) s) x r q t) [
      | inl h ↦ inl (record { code = h.code; listed = right (eqb h.code c) _ h.listed; who = h.who; what = h.what; whom = h.whom })
      | inr h ↦ elim (cases (this_right p (c / 256) (c % 256) x r q) (s.has x r q) h) [
        | inl k ↦ inl (record { code = c; listed = left (eqb c c) _ (eqb_refl c); who = grind (arith, nat_tests); what = grind (arith, nat_tests); whom = grind (arith, nat_tests) })
        | inr k ↦ inr k
      ]
    ]

-- The bytes of a vertex's rights, from their numbers in rising order.
-- Has vertex p the right with this number?
abbrev pub holds_code : State → ℕ → ℕ → Bool
holds_code s p c = s.has p (c / 256) (c % 256)

unfoldable pub codes : State → ℕ → List ℕ
codes s p = members (holds_code s p) 0 2048

-- A row has nothing from n on.
pub row_past : (r : ℕ) (f : ℕ → Bool) (n m : ℕ) → ((k : ℕ) → n ≤ k → f k ≡ false) → n ≤ m → row_bytes r f m ≡ row_bytes r f n
unfolding row_bytes
row_past r f n zero e h = ap (row_bytes r f) (let z : 0 ≡ n = omega arith in z)
row_past r f n (suc m) e h =
    elim (cases_eq n (suc m)) [
      | inl z ↦ ap (row_bytes r f) (sym z)
      | inr d ↦ ap (λ t. row_bytes r f m ++ cond t (r ∷ m ∷ []) []) (e m (omega arith)) ∙ (append-nil (row_bytes r f m) ∙ row_past r f n m e (omega arith))
    ]

row_length : (r : ℕ) (f : ℕ → Bool) (n : ℕ) → length (row_bytes r f n) ≡ 2 * count_below n f
unfolding row_bytes count_below
row_length r f zero = refl
row_length r f (suc n) = let e = row_length r f n in let g = length-append (row_bytes r f n) (cond (f n) (r ∷ n ∷ []) []) in grind (arith, nat_tests)

held_length : (s : State) (p k : ℕ) → length (held_bytes s p k) ≡ 2 * count_held s p k
unfolding held_bytes count_held
held_length s p zero = refl
held_length s p (suc k) =
    let a = held_length s p k in
    let b = row_length k (s.has p k) s.size in
    length-append (held_bytes s p k) (row_bytes k (s.has p k) s.size) ∙ omega arith

module _ (s : State) (p : ℕ) where
  row_codes : (r m : ℕ) → m ≤ 256 → row_bytes r (s.has p r) m ≡ pairs (members (holds_code s p) (256 * r) m)
  unfolding row_bytes members pairs
  row_codes r zero h = refl
  row_codes r (suc m) h =
      let c : ℕ = 256 * r + m in
      let hi : c / 256 ≡ r = omega arith in
      let lo : c % 256 ≡ m = omega arith in
      ap₂ (λ a b. a ++ b) (row_codes r m (omega arith)) (one c hi lo) ∙
      (sym (pairs_append (members (holds_code s p) (256 * r) m) (members (holds_code s p) c 1)) ∙
      ap pairs (sym (members_append (holds_code s p) m 1 (256 * r)) ∙ ap (members (holds_code s p) (256 * r)) (add-one m)))
    where
      pair : (t : Bool) (c : ℕ) → pairs (cond t (c ∷ []) []) ≡ cond t (c / 256 ∷ c % 256 ∷ []) []
      pair true c = refl
      pair false c = refl

      one : (c : ℕ) → c / 256 ≡ r → c % 256 ≡ m → cond (s.has p r m) (r ∷ m ∷ []) [] ≡ pairs (members (holds_code s p) c 1)
      one c hi lo = ap₂ (λ a b. cond (s.has p a b) (a ∷ b ∷ []) []) (sym hi) (sym lo) ∙ (sym (pair (holds_code s p c) c) ∙ ap pairs (sym (members_one (holds_code s p) c)))

  module _ (few : s.size ≤ 256) (target : (r q : ℕ) → T (s.has p r q) → q < s.size) where
    held_members : (k : ℕ) → held_bytes s p k ≡ pairs (members (holds_code s p) 0 (256 * k))
    unfolding held_bytes members pairs
    held_members zero = refl
    held_members (suc k) =
        ap₂ (λ a b. a ++ b) (held_members k)
        (sym (row_past k (s.has p k) s.size 256 (λ q l. is_false (s.has p k q) (λ t. let h = target k q t in omega arith)) few) ∙
        (row_codes k 256 (omega arith) ∙ ap (λ m. pairs (members (holds_code s p) m 256)) (sym (zero-add (256 * k))))) ∙
        (sym (pairs_append (members (holds_code s p) 0 (256 * k)) (members (holds_code s p) (0 + 256 * k) 256)) ∙
        ap pairs (sym (members_append (holds_code s p) (256 * k) 256 0) ∙ ap (members (holds_code s p) 0) (omega arith)))

    pub held_codes : held_bytes s p 8 ≡ pairs (codes s p)
    unfolding codes
    held_codes = held_members 8

    pub count_codes : count_held s p 8 ≡ length (codes s p)
    count_codes = let a = held_length s p 8 in let b = length_pairs (codes s p) in let c = ap length held_codes in omega arith

    pub vertex_codes : vertex_bytes s p ≡ length (codes s p) / 256 ∷ length (codes s p) % 256 ∷ pairs (codes s p)
    vertex_codes = ap₂ (λ c x. c / 256 ∷ c % 256 ∷ x) count_codes held_codes
