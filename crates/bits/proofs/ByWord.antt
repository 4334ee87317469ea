-- What is asked of all numbers, asked word by word.
use Rattle.std.proofs.Common.{◌≡◌, ℕ, suc, ◌+◌, ◌*◌, ◌/◌, ◌^◌, ◌<◌, Bool, not, ◌&&◌, eqb, List, [], ◌∷◌, length, get_or, sym, refl, ap, add-zero, zero-add, ◌∙◌, ap₂, T_not, arith}
use lib.Count.{ones}
use Rattle.std.specs.List.{fold, list_all, sum_by, zip}
use Rattle.std.proofs.lemmas.Bool.{eqb-true, eq-eqb}
use Rattle.model.specs.Bit.{bit}
use Rattle.model.specs.Bounded.{all_below, count_below, implies}
use Rattle.model.proofs.Tests.{same, is_true, is_false, from_true, all_from, all_at}
use Rattle.bits.specs.Sets.{member}
use Rattle.bits.proofs.Bit.{bit_zero, zero_from_bits}
use Rattle.bits.proofs.Member.{member_at}
use Rattle.bits.proofs.Below.{all_add, all_same, count_add, count_same, ones_count}

-- The numbers of the first word, and those of the others.
first_word : (w : ℕ) (ws : List ℕ) (k : ℕ) → k < 64 → member (w ∷ ws) k ≡ bit w k
first_word w ws k h = member_at (w ∷ ws) 0 k (omega arith) ∙ ap (bit w) (omega arith)

other_words : (w : ℕ) (ws : List ℕ) (k : ℕ) → member (w ∷ ws) (64 + k) ≡ member ws k
other_words w ws k =
    member_at (w ∷ ws) (suc (k / 64)) (64 + k) (omega arith) ∙ ap (bit (get_or ws (k / 64) 0)) (omega arith)
    ∙ sym (member_at ws (k / 64) k refl)

all_words : (n : ℕ) (f : ℕ → Bool) → all_below (64 * suc n) f ≡ (all_below 64 f && all_below (64 * n) (λ k. f (64 + k)))
all_words n f = ap (λ m. all_below m f) (omega arith) ∙ all_add 64 (64 * n) f

empty_word : (w : ℕ) → w < 2 ^ 64 → eqb w 0 ≡ all_below 64 (λ j. not (bit w j))
empty_word w h =
    let f : ℕ → Bool = λ j. not (bit w j) in
    same (eqb w 0) (all_below 64 f)
    (λ t.
    let e : w ≡ 0 = eqb-true w 0 (is_true (eqb w 0) t) in
    all_from 64 f (λ j l. from_true (f j) (ap not (ap (λ m. bit m j) e ∙ bit_zero j))))
    (λ t. from_true (eqb w 0) (eq-eqb w 0 (zero_from_bits 64 w h (λ j l. is_false (bit w j) (T_not (bit w j) (all_at 64 f t j l))))))

pub empty_words : (ws : List ℕ) → ((i : ℕ) → get_or ws i 0 < 2 ^ 64) → list_all (λ w. eqb w 0) ws ≡ all_below (64 * length ws) (λ k. not (member ws k))
unfolding all_below
empty_words [] fits = refl
empty_words (w ∷ ws) fits =
    ap₂ (λ a b. a && b)
    (empty_word w (fits 0) ∙ all_same 64 (λ j. not (bit w j)) (λ k. not (member (w ∷ ws) k)) (λ k h. ap not (sym (first_word w ws k h))))
    (empty_words ws (λ i. fits (suc i)) ∙ all_same (64 * length ws) (λ k. not (member ws k)) (λ k. not (member (w ∷ ws) (64 + k))) (λ k h. ap not (sym (other_words w ws k))))
    ∙ sym (all_words (length ws) (λ k. not (member (w ∷ ws) k)))

pub within_words :
    (ws vs : List ℕ) → length ws ≡ length vs →
    list_all (λ p. all_below 64 (λ j. implies (bit p.0 j) (bit p.1 j))) (zip ws vs) ≡ all_below (64 * length ws) (λ k. implies (member ws k) (member vs k))
unfolding all_below
within_words [] vs e = refl
within_words (w ∷ ws) [] e = absurd (omega arith)
within_words (w ∷ ws) (v ∷ vs) e =
    let f : ℕ → Bool = λ k. implies (member (w ∷ ws) k) (member (v ∷ vs) k) in
    ap₂ (λ a b. a && b)
    (all_same 64 (λ j. implies (bit w j) (bit v j)) f (λ k h. sym (ap₂ implies (first_word w ws k h) (first_word v vs k h))))
    (within_words ws vs (omega arith) ∙ all_same (64 * length ws) (λ k. implies (member ws k) (member vs k)) (λ k. f (64 + k)) (λ k h. sym (ap₂ implies (other_words w ws k) (other_words v vs k))))
    ∙ sym (all_words (length ws) f)

count_from : (ws : List ℕ) (n : ℕ) → ((i : ℕ) → get_or ws i 0 < 2 ^ 64) → fold (λ a x. a + ones x) n ws ≡ n + count_below (64 * length ws) (member ws)
unfolding count_below
count_from [] n fits = sym (add-zero n)
count_from (w ∷ ws) n fits =
    let word = ones_count 64 w (fits 0) ∙ count_same 64 (bit w) (member (w ∷ ws)) (λ k h. sym (first_word w ws k h)) in
    let others = count_same (64 * length ws) (member ws) (λ k. member (w ∷ ws) (64 + k)) (λ k h. sym (other_words w ws k)) in
    let all : count_below (64 * suc (length ws)) (member (w ∷ ws)) ≡ count_below 64 (member (w ∷ ws)) + count_below (64 * length ws) (λ k. member (w ∷ ws) (64 + k)) =
    ap (λ m. count_below m (member (w ∷ ws))) (omega arith) ∙ count_add 64 (64 * length ws) (member (w ∷ ws)) in
    let rest = count_from ws (n + ones w) (λ i. fits (suc i)) in
    omega (arith, rest, word, others, all)

pub count_words : (ws : List ℕ) → ((i : ℕ) → get_or ws i 0 < 2 ^ 64) → sum_by ones ws ≡ count_below (64 * length ws) (member ws)
count_words ws fits = count_from ws 0 fits ∙ zero-add _
