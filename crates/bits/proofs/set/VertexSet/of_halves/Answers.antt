use Rattle.std.proofs.Common.{◌≡◌, ℕ, ◌+◌, ◌-◌, ◌%◌, ◌<◌, ltb, List, [], ◌∷◌, get_or, sym, ap, ◌∙◌, inl, inr, arith}
use Rattle.std.proofs.lemmas.Bool.{cases_lt, cond-true, cond-false, lt-ltb, le-ltb}
use Rattle.model.specs.Bit.{bit}
use Rattle.bits.specs.Sets.{member}
use Rattle.bits.proofs.Holds.{among_past}
use Rattle.bits.proofs.Member.{member_at, member_past}
use Rattle.bits.proofs.set.VertexSet.of_halves.Goals as goal

-- Two words and two more, one after the other.
module _ (u v : List ℕ) where
  abbrev joined : List ℕ
  joined = get_or u 0 0 ∷ get_or u 1 0 ∷ get_or v 0 0 ∷ get_or v 1 0 ∷ []

  low : (k : ℕ) → k < 128 → member joined k ≡ member u k
  low k h =
      elim (cases_lt k 64) [
        | inl l ↦ member_at joined 0 k (omega arith) ∙ sym (member_at u 0 k (omega arith))
        | inr l ↦ member_at joined 1 k (omega arith) ∙ sym (member_at u 1 k (omega arith))
      ]

  high : (k j : ℕ) → k ≡ 128 + j → j < 128 → member joined k ≡ member v j
  high k j e h =
      let same : k % 64 ≡ j % 64 = omega arith in
      elim (cases_lt j 64) [
        | inl l ↦ member_at joined 2 k (omega arith) ∙ ap (bit (get_or v 0 0)) same ∙ sym (member_at v 0 j (omega arith))
        | inr l ↦ member_at joined 3 k (omega arith) ∙ ap (bit (get_or v 1 0)) same ∙ sym (member_at v 1 j (omega arith))
      ]

pub returns : goal.returns
returns c k =
    let u = c.words.result in
    let v = c.words-2.result in
    let all = c.of.ensures k in
    elim (cases_lt k 128) [
      | inl h ↦ all ∙ low u v k h ∙ c.words.ensures k ∙ sym (cond-true (ltb k 128) _ _ (lt-ltb k 128 h))
      | inr h ↦
          all ∙ elim (cases_lt k 256) [
            | inl l ↦ high u v k (k - 128) (omega arith) (omega arith) ∙ c.words-2.ensures (k - 128)
            | inr l ↦ member_past (joined u v) k (omega arith) ∙ sym (among_past 2 c.args.high (k - 128) (omega arith))
          ] ∙ sym (cond-false (ltb k 128) _ _ (le-ltb k 128 h))
    ]
