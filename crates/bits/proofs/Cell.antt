-- The laws of tables of bits.
use Rattle.std.proofs.Common.{◌≡◌, ℕ, ◌+◌, ◌-◌, ◌*◌, ◌/◌, ◌%◌, ◌<◌, ◌≤◌, false, cond, ◌&&◌, ◌||◌, eqb, ltb, leb, ◌⊎◌, List, length, get_or, take, drop, set, replicate, sym, ap, ◌∙◌, ap₂, inl, inr, mul-le-mul_right, suc-mul, arith}
use lib.Bits.{bit_or}
use Rattle.std.proofs.lemmas.List.{get_or-take, get_or-drop, length-take-le, length-drop}
use Rattle.std.proofs.lemmas.Bool.{cases_eq, cases_lt, cases_order, lt-ltb, le-ltb}
use Rattle.std.proofs.lemmas.Bool.Decides.{nat_tests}
use Rattle.model.specs.Bit.{bit}
use Rattle.bits.specs.Sets.{member}
use Rattle.bits.specs.Rows.{cell}
use Rattle.bits.proofs.Bit.{bit_or-law}
use Rattle.bits.proofs.Member.{member_past, member_set, member_at, member_word, member_zeros}

pub cell_past : (t : List ℕ) (w x k : ℕ) → 64 * w ≤ k → cell t w x k ≡ false
unfolding cell
cell_past t w x k h = ap (λ b. b && member t (64 * (x * w) + k)) (le-ltb k (64 * w) h)

-- A table of zeroes.
pub cell_zeros : (n w x k : ℕ) → cell (replicate n 0) w x k ≡ false
unfolding cell
cell_zeros n w x k = let zero = member_zeros n (64 * (x * w) + k) in grind (arith, nat_tests)

-- A row has nothing past its words.
pub cell_room : (t : List ℕ) (w x k v : ℕ) → w ≤ v → (ltb k (64 * v) && cell t w x k) ≡ cell t w x k
cell_room t w x k v h =
    elim (cases_lt k (64 * w)) [
      | inl l ↦ ap (λ b. b && cell t w x k) (lt-ltb k (64 * v) (omega arith))
      | inr l ↦ let past = cell_past t w x k l in grind (arith, nat_tests)
    ]

-- A row ends before a later one begins.
pub rows_apart : (a b w : ℕ) → a < b → a * w + w ≤ b * w
rows_apart a b w h = omega (arith, suc-mul a w, mul-le-mul_right w h)

-- Each row lies before, at or after row x.
pub rows_order : (x y w : ℕ) → (x ≡ y) ⊎ (((x ≡ y → ⊥) × (x * w + w ≤ y * w)) ⊎ ((x ≡ y → ⊥) × (y * w + w ≤ x * w)))
rows_order x y w =
    elim (cases_order x y) [
      | inl e ↦ inl e
      | inr o ↦
          elim o [
            | inl h ↦ inr (inl (λ e. omega arith, rows_apart x y w h))
            | inr h ↦ inr (inr (λ e. omega arith, rows_apart y x w h))
          ]
    ]

-- The words of a row, as a slice.
pub length_row : (t : List ℕ) (a w : ℕ) → a + w ≤ length t → length (take w (drop a t)) ≡ w
length_row t a w h = length-take-le w (drop a t) (omega (arith, length-drop a t))

pub member_row : (t : List ℕ) (w x k : ℕ) → x * w + w ≤ length t → member (take w (drop (x * w) t)) k ≡ cell t w x k
unfolding cell member
member_row t w x k h =
    elim (cases_lt k (64 * w)) [
      | inl l ↦
          let q : x * w + k / 64 ≡ (64 * (x * w) + k) / 64 = omega arith in
          let r : k % 64 ≡ (64 * (x * w) + k) % 64 = omega arith in
          ap (λ v. bit v (k % 64)) (get_or-take w (drop (x * w) t) (k / 64) 0 (omega arith) ∙ get_or-drop (x * w) t (k / 64) 0)
          ∙ ap₂ (λ a b. bit (get_or t a 0) b) q r
          ∙ ap (λ b. b && member t (64 * (x * w) + k)) (sym (lt-ltb k (64 * w) l))
      | inr l ↦
          member_past (take w (drop (x * w) t)) k (omega (arith, length_row t (x * w) w h))
          ∙ ap (λ b. b && member t (64 * (x * w) + k)) (sym (le-ltb k (64 * w) l))
    ]

-- A number of a row, by its word and its bit.
pub cell_at : (t : List ℕ) (w x k : ℕ) → k < 64 * w → member t (64 * (x * w + k / 64) + k % 64) ≡ cell t w x k
unfolding cell
cell_at t w x k h = ap (member t) (omega arith) ∙ sym (ap (λ b. b && member t (64 * (x * w) + k)) (lt-ltb k (64 * w) h))

-- Word i of row x, read and written.
pub cell_word : (t : List ℕ) (w x i j : ℕ) → i < w → j < 64 → bit (get_or t (x * w + i) 0) j ≡ cell t w x (64 * i + j)
unfolding cell
cell_word t w x i j h l =
    sym (member_word t (x * w + i) j l) ∙ ap (member t) (omega arith)
    ∙ ap (λ b. b && member t (64 * (x * w) + (64 * i + j))) (sym (lt-ltb (64 * i + j) (64 * w) (omega arith)))

pub cell_put : (t : List ℕ) (w x i v y k : ℕ) → x * w + w ≤ length t → i < w → cell (set t (x * w + i) v) w y k ≡ cond (eqb y x && eqb (k / 64) i) (bit v (k % 64)) (cell t w y k)
unfolding cell
cell_put t w x i v y k h l =
    let written = member_set t (x * w + i) v (64 * (y * w) + k) (omega arith) in
    let bit_is : bit v ((64 * (y * w) + k) % 64) ≡ bit v (k % 64) = ap (bit v) (omega arith) in
    elim (rows_order y x w) [
      | inl e ↦ let same : y * w ≡ x * w = ap (λ z. z * w) e in grind (arith, nat_tests)
      | inr o ↦
          elim o [
            | inl f ↦ grind (arith, nat_tests)
            | inr f ↦ grind (arith, nat_tests)
          ]
    ]

pub cell_insert : (t u : List ℕ) (w x k : ℕ) → k < 64 * w → ((p : ℕ) → member u p ≡ (eqb p (64 * (x * w + k / 64) + k % 64) || member t p)) → (y j : ℕ) → cell u w y j ≡ ((eqb y x && eqb j k) || cell t w y j)
unfolding cell
cell_insert t u w x k h step y j =
    let one = step (64 * (y * w) + j) in
    elim (rows_order y x w) [
      | inl e ↦ let same : y * w ≡ x * w = ap (λ z. z * w) e in grind (arith, nat_tests)
      | inr o ↦
          elim o [
            | inl f ↦ grind (arith, nat_tests)
            | inr f ↦ grind (arith, nat_tests)
          ]
    ]

-- Of row `into`, the words below i have what row `from` had too.
abbrev pub Added : List ℕ → ℕ → ℕ → ℕ → List ℕ → ℕ → Type 0
Added was w into from t i = (p : ℕ) → member t p ≡ (member was p || ((leb (64 * (into * w)) p && ltb p (64 * (into * w + i))) && member was (p - 64 * (into * w) + 64 * (from * w))))

pub added_none : (was : List ℕ) (w into from : ℕ) → Added was w into from was 0
added_none was w into from p = grind (arith, nat_tests)

-- The word that is read next was not written before.
unwritten : (w into from i : ℕ) → i < w → (from * w + i < into * w) ⊎ (into * w + i ≤ from * w + i)
unwritten w into from i h =
    elim (cases_lt from into) [
      | inl f ↦ inl (omega (arith, rows_apart from into w f))
      | inr f ↦ inr (omega (arith, mul-le-mul_right w f))
    ]

pub added_source : (was : List ℕ) (w into from : ℕ) (t : List ℕ) (i r : ℕ) → i < w → r < 64 → Added was w into from t i → member t (64 * (from * w + i) + r) ≡ member was (64 * (from * w + i) + r)
added_source was w into from t i r h l inv =
    let source = inv (64 * (from * w + i) + r) in
    elim (unwritten w into from i h) [
      | inl f ↦ grind (arith, nat_tests)
      | inr f ↦ grind (arith, nat_tests)
    ]

pub added_more : (was : List ℕ) (w into from : ℕ) (t : List ℕ) (i : ℕ) → i < w → into * w + w ≤ length t → Added was w into from t i → Added was w into from (set t (into * w + i) (bit_or (get_or t (into * w + i) 0) (get_or t (from * w + i) 0))) (i + 1)
added_more was w into from t i h l inv p =
    let a : ℕ = into * w + i in
    let b : ℕ = from * w + i in
    let written = member_set t a (bit_or (get_or t a 0) (get_or t b 0)) p (omega arith) in
    let before = inv p in
    elim (cases_eq (p / 64) a) [
      | inl e ↦
          let left = member_at t a p e in
          let right = sym (member_word t b (p % 64) (omega arith)) ∙ added_source was w into from t i (p % 64) h (omega arith) inv in
          let either = bit_or-law (get_or t a 0) (get_or t b 0) (p % 64) in
          let same : member was (p - 64 * (into * w) + 64 * (from * w)) ≡ member was (64 * b + p % 64) = ap (member was) (omega arith) in
          grind (arith, nat_tests)
      | inr d ↦ grind (arith, nat_tests)
    ]

pub added_all : (was : List ℕ) (w into from : ℕ) (t : List ℕ) (i : ℕ) → i ≡ w → Added was w into from t i → (x k : ℕ) → cell t w x k ≡ (cell was w x k || (eqb x into && cell was w from k))
unfolding cell
added_all was w into from t i e inv x k =
    let all = inv (64 * (x * w) + k) in
    elim (rows_order x into w) [
      | inl f ↦
          let same : x * w ≡ into * w = ap (λ z. z * w) f in
          let source : member was (64 * (x * w) + k - 64 * (into * w) + 64 * (from * w)) ≡ member was (64 * (from * w) + k) = ap (member was) (omega arith) in
          grind (arith, nat_tests)
      | inr o ↦
          elim o [
            | inl f ↦ grind (arith, nat_tests)
            | inr f ↦ grind (arith, nat_tests)
          ]
    ]

-- The words below i have what the words of a set have too.
abbrev pub Gained : List ℕ → List ℕ → List ℕ → ℕ → Type 0
Gained was ws t i = (p : ℕ) → member t p ≡ (member was p || (ltb p (64 * i) && member ws p))

pub gained_more : (was ws t : List ℕ) (i : ℕ) → i < length t → Gained was ws t i → Gained was ws (set t i (bit_or (get_or t i 0) (get_or ws i 0))) (i + 1)
gained_more was ws t i h inv p =
    let written = member_set t i (bit_or (get_or t i 0) (get_or ws i 0)) p h in
    let before = inv p in
    elim (cases_eq (p / 64) i) [
      | inl e ↦
          let left = member_at t i p e in
          let right = member_at ws i p e in
          let either = bit_or-law (get_or t i 0) (get_or ws i 0) (p % 64) in
          grind (arith, nat_tests)
      | inr d ↦ grind (arith, nat_tests)
    ]
