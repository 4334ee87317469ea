-- When one word has each bit that another has.
use Rattle.std.proofs.Common.{◌≡◌, ℕ, ◌-◌, ◌^◌, ◌<◌, Bool, true, false, not, ◌&&◌, T, eqb, sym, ap, ◌∙◌, arith}
use lib.Bits.{bit_and, and_lt}
use Rattle.std.proofs.lemmas.Bool.{eqb-true, eq-eqb}
use Rattle.model.specs.Bit.{bit}
use Rattle.model.specs.Bounded.{all_below, implies}
use Rattle.model.proofs.Tests.{same, is_true, from_true, all_from, all_at}
use Rattle.bits.proofs.Bit.{bit_zero, bit_without, zero_from_bits}

without_nil : (x a b : Bool) → x ≡ (a && not b) → x ≡ false → T (implies a b)
without_nil x true true e f = tt
without_nil x true false e f = from_true false (sym f ∙ e)
without_nil x false b e f = tt

nil_without : (x a b : Bool) → x ≡ (a && not b) → T (implies a b) → x ≡ false
nil_without x true true e t = e
nil_without x true false e t = absurd t
nil_without x false b e t = e

pub within_word : (a b : ℕ) → a < 2 ^ 64 → b < 2 ^ 64 → eqb (bit_and a (2 ^ 64 - 1 - b)) 0 ≡ all_below 64 (λ i. implies (bit a i) (bit b i))
within_word a b h l =
    let x : ℕ = bit_and a (2 ^ 64 - 1 - b) in
    let f : ℕ → Bool = λ i. implies (bit a i) (bit b i) in
    same (eqb x 0) (all_below 64 f)
    (λ t.
    let e : x ≡ 0 = eqb-true x 0 (is_true (eqb x 0) t) in
    all_from 64 f (λ i s. without_nil (bit x i) (bit a i) (bit b i) (bit_without a b i l s) (ap (λ m. bit m i) e ∙ bit_zero i)))
    (λ t.
    let e : x ≡ 0 = zero_from_bits 64 x (and_lt 64 a (2 ^ 64 - 1 - b) h (omega arith)) (λ i s. nil_without (bit x i) (bit a i) (bit b i) (bit_without a b i l s) (all_at 64 f t i s)) in
    from_true (eqb x 0) (eq-eqb x 0 e))
