-- Bytes that stand at an offset of the input.
use Rattle.std.proofs.Common.{◌≡◌, ℕ, suc, ◌+◌, ◌<◌, ◌≤◌, List, [], ◌∷◌, ◌++◌, length, take, drop, sym, refl, ap, ◌∙◌, subst, ap₂, inl, inr, arith}
use Rattle.std.proofs.lemmas.List.{drop_more, drop_all, drop_at, take_at, take_all, take-append-drop}
use Rattle.std.proofs.lemmas.Bool.{cases_lt}
use Rattle.codec.proofs.Inverted.{Byte}

abbrev pub Stands : List ℕ → ℕ → List ℕ → Type 0
Stands bs at [] = Unit {0}
Stands bs at (b ∷ xs) = Byte bs at b × Stands bs (at + 1) xs

-- The same, said of the part of the input.
pub stands_part : (bs xs : List ℕ) (at : ℕ) → Stands bs at xs → take (length xs) (drop at bs) ≡ xs
stands_part bs [] at h = refl
stands_part bs (b ∷ xs) at h =
    ap (take (suc (length xs))) (drop_more bs at 0 h.0.there) ∙ ap₂ (λ c cs. c ∷ cs) h.0.is (stands_part bs xs (at + 1) h.1)

pub part_stands : (bs xs : List ℕ) (at : ℕ) → take (length xs) (drop at bs) ≡ xs → Stands bs at xs
part_stands bs [] at e = tt
part_stands bs (b ∷ xs) at e =
    elim (cases_lt at (length bs)) [
      | inl l ↦ let g = sym (ap (take (suc (length xs))) (drop_more bs at 0 l)) ∙ e in (record { there = l; is = cc }, part_stands bs xs (at + 1) (cc))
      | inr l ↦ let g = sym (ap (take (suc (length xs))) (drop_all at bs l)) ∙ e in absurd (let z : ◌≡◌ {A = ℕ} 0 1 = cc in omega arith)
    ]

pub stands_in : (pre xs rest : List ℕ) → Stands (pre ++ (xs ++ rest)) (length pre) xs
stands_in pre xs rest = part_stands (pre ++ (xs ++ rest)) xs (length pre) (ap (take (length xs)) (drop_at pre (xs ++ rest) (length pre) refl) ∙ take_at xs rest (length xs) refl)

-- One part behind another.
pub stands_append : (bs xs ys : List ℕ) (at : ℕ) → Stands bs at xs → Stands bs (at + length xs) ys → Stands bs at (xs ++ ys)
stands_append bs [] ys at h k = subst (λ m. Stands bs m ys) (omega arith) k
stands_append bs (b ∷ xs) ys at h k = (h.0, stands_append bs xs ys (at + 1) h.1 (subst (λ m. Stands bs m ys) (omega arith) k))

pub stands_left : (bs xs ys : List ℕ) (at : ℕ) → Stands bs at (xs ++ ys) → Stands bs at xs
stands_left bs [] ys at h = tt
stands_left bs (b ∷ xs) ys at h = (h.0, stands_left bs xs ys (at + 1) h.1)

pub stands_right : (bs xs ys : List ℕ) (at : ℕ) → Stands bs at (xs ++ ys) → Stands bs (at + length xs) ys
stands_right bs [] ys at h = subst (λ m. Stands bs m ys) (omega arith) h
stands_right bs (b ∷ xs) ys at h = subst (λ m. Stands bs m ys) (omega arith) (stands_right bs xs ys (at + 1) h.1)

pub stands_within : (bs xs : List ℕ) (at : ℕ) → Stands bs at xs → at ≤ length bs → at + length xs ≤ length bs
stands_within bs [] at h l = omega arith
stands_within bs (b ∷ xs) at h l = let k = stands_within bs xs (at + 1) h.1 (let t = h.0.there in omega arith) in omega arith

pub stands_there : (bs xs : List ℕ) (at : ℕ) → Stands bs at xs → 0 < length xs → at ≤ length bs
stands_there bs [] at h l = absurd (omega arith)
stands_there bs (b ∷ xs) at h l = let t = h.0.there in omega arith

-- What fills the input is the input.
pub stands_whole : (bs xs : List ℕ) → Stands bs 0 xs → length bs ≡ length xs → bs ≡ xs
stands_whole bs xs h e = sym (take_all (length xs) bs (omega arith)) ∙ stands_part bs xs 0 h

-- What stands at the front, and what follows it.
pub stands_at_front : (bs xs : List ℕ) → Stands bs 0 xs → bs ≡ xs ++ drop (length xs) bs
stands_at_front bs xs h = sym (take-append-drop (length xs) bs) ∙ ap (λ x. x ++ drop (length xs) bs) (stands_part bs xs 0 h)
