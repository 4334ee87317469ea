use Rattle.std.proofs.Common.{◌≡◌, ℕ, ◌/◌, ◌^◌, ◌≤◌, eqb, ltb, sym, ◌∙◌, inl, inr, le-div_iff_mul-le, arith, pow_pos, pow_mono, eq-eqb, ne_eqb}
use native.Mathlib.Nat.{div-eq_of_lt}
use Rattle.std.proofs.lemmas.Bool.{cases_lt, lt-ltb, le-ltb, le-leb}
use Rattle.codec.proofs.book.fits.Goals as goal

pub returns-then-room-ge8 : goal.returns-then-room-ge8
returns-then-room-ge8 c =
    let big : 256 ≤ 2 ^ c.args.room = pow_mono c.if-room-ge8.true in
    le-leb 8 c.args.room c.if-room-ge8.true ∙ sym (lt-ltb c.args.b (2 ^ c.args.room) (omega arith))

pub returns-else-room-ge8 : goal.returns-else-room-ge8
returns-else-room-ge8 c = shifted c.args.b c.args.room
  where
    shifted : (b r : ℕ) → eqb (b / 2 ^ r) 0 ≡ ltb b (2 ^ r)
    shifted b r =
        elim (cases_lt b (2 ^ r)) [
          | inl h ↦ eq-eqb (b / 2 ^ r) 0 (div-eq_of_lt h) ∙ sym (lt-ltb b (2 ^ r) h)
          | inr h ↦ ne_eqb (b / 2 ^ r) 0 (λ e. let l : 1 ≤ b / 2 ^ r = (le-div_iff_mul-le {k = 2 ^ r} {x = 1} {y = b} (pow_pos r)).1 (omega (arith, h)) in omega arith) ∙ sym (le-ltb b (2 ^ r) h)
        ]
