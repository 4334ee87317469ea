-- Six swaps, of halves down to single bits, turn a block round.
use Rattle.std.proofs.Common.{◌≡◌, ℕ, ◌+◌, ◌-◌, ◌*◌, ◌/◌, ◌%◌, ◌<◌, ◌≤◌, Bool, true, false, cond, not, T, eqb, sym, refl, ap, ◌∙◌, ap₂, inl, inr, arith}
use Rattle.std.proofs.lemmas.Bool.{cases_eq, eq-eqb, ne_eqb}
use Rattle.model.specs.Bit.{bit}
use Rattle.model.specs.Bounded.{all_below}
use Rattle.model.proofs.Tests.{all_at}
use Rattle.bits.specs.Blocks.{Mask, strip, swapped}

-- The strip of j that a is in, and the place of b in its own.
abbrev mix : ℕ → ℕ → ℕ → ℕ
mix j a b = a / j * j + b % j

-- What a swap of strips of j does to what a swap of twice as many leaves.
record Level (j : ℕ) : Type 0 where
  still : (r c : ℕ) → r < 64 → c < 64 → r / j % 2 ≡ c / j % 2 → mix (2 * j) c r ≡ mix j c r
  over : (r c : ℕ) → r < 64 → c < 64 → r / j % 2 ≡ 0 → c / j % 2 ≡ 1 →
      (r + j < 64) × ((j ≤ c) × ((mix (2 * j) (c - j) (r + j) ≡ mix j c r) × (mix (2 * j) (r + j) (c - j) ≡ mix j r c)))

-- The cells of a block whose strips of j have been turned round, and of all that are wider.
abbrev Turned : ℕ → ℕ → (ℕ → ℕ → Bool) → (ℕ → ℕ → Bool) → Type 0
Turned w j e f = (r k : ℕ) → r < 64 → k < 64 * w → f r k ≡ e (mix j (k % 64) r) (64 * (k / 64) + mix j r (k % 64))

turned_more : (w j : ℕ) (e f g : ℕ → ℕ → Bool) → Level j → ((r k : ℕ) → r < 64 → k < 64 * w → g r k ≡ swapped j f r k) → Turned w (2 * j) e f → Turned w j e g
unfolding swapped strip
turned_more w j e f g v step inv r k h l =
    step r k h l ∙ elim (cases_eq (r / j % 2) (k % 64 / j % 2)) [
      | inl s ↦
          let t : eqb (r / j % 2) (k % 64 / j % 2) ≡ true = eq-eqb _ _ s in
          ap (λ b. cond b (f r k) (cond (eqb (r / j % 2) 0) (f (r + j) (k - j)) (f (r - j) (k + j)))) t ∙ inv r k h l ∙ ap₂ (λ a b. e a (64 * (k / 64) + b)) (v.still r (k % 64) h (omega arith) s) (v.still (k % 64) r (omega arith) h (sym s))
      | inr s ↦
          let t : eqb (r / j % 2) (k % 64 / j % 2) ≡ false = ne_eqb _ _ s in
          ap (λ b. cond b (f r k) (cond (eqb (r / j % 2) 0) (f (r + j) (k - j)) (f (r - j) (k + j)))) t ∙ elim (cases_eq (r / j % 2) 0) [
            | inl z ↦
                let o = v.over r (k % 64) h (omega arith) z (omega arith) in
                let y : eqb (r / j % 2) 0 ≡ true = eq-eqb _ _ z in
                let low = o.1.0 in
                let col : (k - j) % 64 ≡ k % 64 - j = omega arith in
                let word : (k - j) / 64 ≡ k / 64 = omega arith in
                ap (λ b. cond b (f (r + j) (k - j)) (f (r - j) (k + j))) y ∙ inv (r + j) (k - j) o.0 (omega arith)
                ∙ ap₂ (λ c q. e (mix (2 * j) c (r + j)) (64 * q + mix (2 * j) (r + j) c)) col word
                ∙ ap₂ (λ a b. e a (64 * (k / 64) + b)) o.1.1.0 o.1.1.1
            | inr z ↦
                let o = v.over (k % 64) r (omega arith) h (omega arith) (omega arith) in
                let y : eqb (r / j % 2) 0 ≡ false = ne_eqb _ _ z in
                let fits = o.0 in
                let col : (k + j) % 64 ≡ k % 64 + j = omega arith in
                let word : (k + j) / 64 ≡ k / 64 = omega arith in
                ap (λ b. cond b (f (r + j) (k - j)) (f (r - j) (k + j))) y ∙ inv (r - j) (k + j) (omega arith) (omega arith)
                ∙ ap₂ (λ c q. e (mix (2 * j) c (r - j)) (64 * q + mix (2 * j) (r - j) c)) col word
                ∙ ap₂ (λ a b. e a (64 * (k / 64) + b)) o.1.1.1 o.1.1.0
          ]
    ]

level_32 : Level 32
level_32 = record { still = λ r c h l e. omega arith; over = λ r c h l e d. (omega arith, (omega arith, (omega arith, omega arith))) }

level_16 : Level 16
level_16 = record { still = λ r c h l e. omega arith; over = λ r c h l e d. (omega arith, (omega arith, (omega arith, omega arith))) }

level_8 : Level 8
level_8 = record { still = λ r c h l e. omega arith; over = λ r c h l e d. (omega arith, (omega arith, (omega arith, omega arith))) }

level_4 : Level 4
level_4 = record { still = λ r c h l e. omega arith; over = λ r c h l e d. (omega arith, (omega arith, (omega arith, omega arith))) }

level_2 : Level 2
level_2 = record { still = λ r c h l e. omega arith; over = λ r c h l e d. (omega arith, (omega arith, (omega arith, omega arith))) }

level_1 : Level 1
level_1 = record { still = λ r c h l e. omega arith; over = λ r c h l e d. (omega arith, (omega arith, (omega arith, omega arith))) }

pub transposed : (w : ℕ) (e a b c d f g : ℕ → ℕ → Bool) →
    ((r k : ℕ) → r < 64 → k < 64 * w → a r k ≡ swapped 32 e r k) → ((r k : ℕ) → r < 64 → k < 64 * w → b r k ≡ swapped 16 a r k) →
    ((r k : ℕ) → r < 64 → k < 64 * w → c r k ≡ swapped 8 b r k) → ((r k : ℕ) → r < 64 → k < 64 * w → d r k ≡ swapped 4 c r k) →
    ((r k : ℕ) → r < 64 → k < 64 * w → f r k ≡ swapped 2 d r k) → ((r k : ℕ) → r < 64 → k < 64 * w → g r k ≡ swapped 1 f r k) →
    (r k : ℕ) → r < 64 → k < 64 * w → g r k ≡ e (k % 64) (64 * (k / 64) + r)
transposed w e a b c d f g p q s t u v r k h l =
    let start : Turned w 64 e e = λ r k h l. ap₂ e (omega arith) (omega arith) in
    let halves = turned_more w 32 e e a level_32 p start in
    let quarters = turned_more w 16 e a b level_16 q halves in
    let eighths = turned_more w 8 e b c level_8 s quarters in
    let fours = turned_more w 4 e c d level_4 t eighths in
    let twos = turned_more w 2 e d f level_2 u fours in
    turned_more w 1 e f g level_1 v twos r k h l ∙ ap₂ e (omega arith) (omega arith)

mask_bit : ℕ → ℕ → ℕ → Bool
mask_bit j mask k = cond (bit mask k) (eqb (k / j % 2) 0) (not (eqb (k / j % 2) 0))

mask_law : (j mask : ℕ) → T (all_below 64 (mask_bit j mask)) → (k : ℕ) → k < 64 → bit mask k ≡ eqb (k / j % 2) 0
unfolding mask_bit
mask_law j mask t k h = law (bit mask k) (eqb (k / j % 2) 0) (all_at 64 (mask_bit j mask) t k h)
  where
    law : (a b : Bool) → T (cond a b (not b)) → a ≡ b
    law true true s = refl
    law true false s = absurd s
    law false true s = absurd s
    law false false s = refl

pub mask_32 : Mask 32 0x0000_0000_ffff_ffff
unfolding mask_bit all_below bit
mask_32 = record { some = omega arith; few = omega arith; bits = mask_law 32 0x0000_0000_ffff_ffff tt; whole = λ k h e. omega arith }

pub mask_16 : Mask 16 0x0000_ffff_0000_ffff
unfolding mask_bit all_below bit
mask_16 = record { some = omega arith; few = omega arith; bits = mask_law 16 0x0000_ffff_0000_ffff tt; whole = λ k h e. omega arith }

pub mask_8 : Mask 8 0x00ff_00ff_00ff_00ff
unfolding mask_bit all_below bit
mask_8 = record { some = omega arith; few = omega arith; bits = mask_law 8 0x00ff_00ff_00ff_00ff tt; whole = λ k h e. omega arith }

pub mask_4 : Mask 4 0x0f0f_0f0f_0f0f_0f0f
unfolding mask_bit all_below bit
mask_4 = record { some = omega arith; few = omega arith; bits = mask_law 4 0x0f0f_0f0f_0f0f_0f0f tt; whole = λ k h e. omega arith }

pub mask_2 : Mask 2 0x3333_3333_3333_3333
unfolding mask_bit all_below bit
mask_2 = record { some = omega arith; few = omega arith; bits = mask_law 2 0x3333_3333_3333_3333 tt; whole = λ k h e. omega arith }

pub mask_1 : Mask 1 0x5555_5555_5555_5555
unfolding mask_bit all_below bit
mask_1 = record { some = omega arith; few = omega arith; bits = mask_law 1 0x5555_5555_5555_5555 tt; whole = λ k h e. omega arith }

pub ruleset masks = (mask_32, mask_16, mask_8, mask_4, mask_2, mask_1)
