-- What one more right, row or vertex adds to the bytes of a book.
use Rattle.std.proofs.Common.{◌≡◌, ℕ, zero, suc, ◌+◌, ◌*◌, ◌<◌, ◌≤◌, Bool, true, false, cond, List, [], ◌∷◌, ◌++◌, take, drop, Ok, Err, Result, sym, refl, ap, ◌∙◌, ap₂, append_assoc, append-nil, inl, inr, arith}
use mathlib.Core.Path.{fun_ext}
use Rattle.std.proofs.lemmas.List.{take_all}
use Rattle.std.proofs.lemmas.Bool.{cases_eq, cond-false, le-leb}
use Rattle.std.specs.List.{flat_map}
use Rattle.std.proofs.lemmas.List.Concat.{flat_map-append}
use Rattle.bits.specs.Sets.{VertexSet, holds, set_bytes}
use Rattle.bits.proofs.Below.{count_le}
use Rattle.bits.proofs.Chain.{members_below}
use Rattle.bits.proofs.Bytes.{lower_half, length_set_bytes}
use Rattle.codec.specs.declared.book.Layout.TheVariants.{Narrow, Wide}
use Rattle.codec.specs.Books.{layout_kind, set_width}
use Rattle.model.specs.Bounded.{count_below}
use Rattle.model.specs.State.{State}
use Rattle.model.proofs.Tests.{is_false}
use Rattle.graph.specs.declared.graph.Graph.{Graph}
use Rattle.graph.specs.Graphs.{state}
use Rattle.graph.proofs.Sound.{target_below, few_vertices}
use Rattle.codec.specs.Writing.{row_bytes, count_held, head_bytes, Appended}

-- Nothing is counted where nothing passes.
pub count_past : (n m : ℕ) (f : ℕ → Bool) → ((k : ℕ) → n ≤ k → f k ≡ false) → n ≤ m → count_below m f ≡ count_below n f
unfolding count_below
count_past n zero f e h = let z : 0 ≡ n = omega arith in ap (λ k. count_below k f) z
count_past n (suc m) f e h =
    elim (cases_eq n (suc m)) [
      | inl z ↦ ap (λ k. count_below k f) (sym z)
      | inr d ↦ cond-false (f m) _ _ (e m (omega arith)) ∙ count_past n m f e (omega arith)
    ]

-- What is counted of a row of a graph.
pub count_row : (g : Graph) (p r m : ℕ) (t : VertexSet) → ((k : ℕ) → holds t k ≡ (state g).has p r k) → m ≡ count_below 256 (holds t) → m ≡ count_below (state g).size ((state g).has p r)
count_row g p r m t same e =
    e ∙ ap (count_below 256) (fun_ext same)
    ∙ count_past (state g).size 256 ((state g).has p r)
    (λ k h. is_false ((state g).has p r k) (λ held. let l = target_below g p r k held in omega arith))
    (let l = few_vertices g in omega arith)

pub few_held : (s : State) (p k : ℕ) → count_held s p k ≤ k * s.size
unfolding count_held
few_held s p zero = omega arith
few_held s p (suc k) = omega (arith, few_held s p k, count_le s.size (s.has p k))

-- A row, word by word: the rights to those of the n vertices from 64 * c on that are in f, which counts them from there.
abbrev pub word_bytes : ℕ → ℕ → ℕ → (ℕ → Bool) → List ℕ
word_bytes r c n f = flat_map (λ j. r ∷ (64 * c + j) ∷ []) (members_below n f)

pub row_word : (r c n : ℕ) (f g : ℕ → Bool) → ((j : ℕ) → j < n → g j ≡ f (64 * c + j)) → row_bytes r f (64 * c) ++ word_bytes r c n g ≡ row_bytes r f (64 * c + n)
unfolding members_below row_bytes
row_word r c zero f g e = append-nil (row_bytes r f (64 * c)) ∙ ap (row_bytes r f) (let same : 64 * c ≡ 64 * c + 0 = omega arith in same)
row_word r c (suc n) f g e =
    let row = row_bytes r f (64 * c) in
    let pair = λ (j : ℕ). r ∷ (64 * c + j) ∷ [] in
    ap (λ t. row ++ t) (flat_map-append pair (members_below n g) (cond (g n) (n ∷ []) []))
    ∙ sym (append_assoc row (word_bytes r c n g) (flat_map pair (cond (g n) (n ∷ []) [])))
    ∙ ap₂ (λ a b. a ++ b) (row_word r c n f g (λ j h. e j (omega arith))) (one (g n) ∙ ap (λ b. cond b (pair n) []) (e n (omega arith)))
    ∙ ap (row_bytes r f) (let next : suc (64 * c + n) ≡ 64 * c + suc n = omega arith in next)
  where
    one : (b : Bool) → flat_map (λ j. r ∷ (64 * c + j) ∷ []) (cond b (n ∷ []) []) ≡ cond b (r ∷ (64 * c + n) ∷ []) []
    one true = refl
    one false = refl

-- The two layouts of the head, from the 32 bytes of a set.
module _ (s : State) (n : ℕ) (e : n ≡ s.size) where
  pub head_narrow : n ≤ 128 → (f : ℕ → Bool) → ((k : ℕ) → f k ≡ s.subject k) → (bs : List ℕ) → bs ≡ set_bytes 32 f → (1 ∷ n ∷ []) ++ take 16 (drop 16 bs) ≡ head_bytes s
  head_narrow h f g bs i =
      ap₂ (λ m b. 1 ∷ m ∷ b) e
      (ap (λ b. take 16 (drop 16 b)) i ∙ (ap (take 16) (lower_half f) ∙ (take_all 16 (set_bytes 16 f) (let l = length_set_bytes 16 f in omega arith) ∙ ap (set_bytes 16) (fun_ext g)))) ∙
      ap (λ t. layout_kind (cond t Narrow Wide) ∷ s.size ∷ set_bytes (set_width (cond t Narrow Wide)) s.subject) (sym (le-leb s.size 128 (omega arith)))

pub wrote_same : {E : Type 0} (r : Result (Unit {0}) E) (a b x y : List ℕ) → x ≡ y → Appended r a b x → Appended r a b y
wrote_same (Ok u) a b x y e w = w ∙ ap (λ t. a ++ t) e
wrote_same (Err d) a b x y e w = tt
