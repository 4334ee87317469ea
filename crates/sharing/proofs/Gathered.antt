-- What a set of vertices has, gathered vertex by vertex; and rows that get a set, target by target.
use Rattle.std.proofs.Common.{◌≡◌, ℕ, ◌+◌, ◌*◌, ◌/◌, ◌%◌, ◌<◌, Bool, true, false, not, ◌&&◌, ◌||◌, T, eqb, ltb, sym, ap, ◌∙◌, subst, inl, inr, arith}
use Rattle.std.proofs.lemmas.Bool.{cases_eq}
use Rattle.std.proofs.lemmas.Bool.Decides.{nat_tests}
use Rattle.model.specs.Bit.{bit}
use Rattle.model.specs.Bounded.{some_below}
use Rattle.model.specs.State.{State, WellFormed}
use Rattle.model.proofs.Tests.{both_from, cases, left, parts, right, same, some_both}
use Rattle.bits.proofs.Walk.{Without}
use Rattle.spans.proofs.Walking.{some_without, some_nobody}
use Rattle.sharing.specs.Filling.{in_word}
use Rattle.sharing.specs.Table.{held_by}
use Rattle.sharing.proofs.Holding.{row_is}

-- `all`, with whom those in `rest` have right r to, is `whole`.
abbrev pub Gathered : State → ℕ → (ℕ → Bool) → (ℕ → Bool) → (ℕ → Bool) → Type 0
Gathered s r whole all rest = (y : ℕ) → (all y || held_by s rest r y) ≡ whole y

pub held_below : (s : State) → WellFormed s → (r : ℕ) (out : ℕ → Bool) (y : ℕ) → T (held_by s out r y) → y < s.size
unfolding held_by
held_below s wf r out y t = let k = some_both s.size out _ t in wf.target k.at r y k.other

-- Whom the members of two sets have the right to.
pub held_either : (s : State) (r : ℕ) (out a b : ℕ → Bool) → ((t : ℕ) → out t ≡ (a t || b t)) → (y : ℕ) → held_by s out r y ≡ (held_by s a r y || held_by s b r y)
unfolding held_by
held_either s r out a b e y = same _ _ to from
  where
    f : ℕ → Bool
    f t = s.has t r y

    to : T (some_below s.size (λ t. out t && f t)) → T (some_below s.size (λ t. a t && f t) || some_below s.size (λ t. b t && f t))
    to h =
        let k = some_both s.size out f h in
        elim (cases (a k.at) _ (subst T (e k.at) k.one)) [
          | inl u ↦ left (some_below s.size (λ t. a t && f t)) _ (both_from s.size a f k.at k.below u k.other)
          | inr u ↦ right (some_below s.size (λ t. a t && f t)) _ (both_from s.size b f k.at k.below u k.other)
        ]

    from : T (some_below s.size (λ t. a t && f t) || some_below s.size (λ t. b t && f t)) → T (some_below s.size (λ t. out t && f t))
    from h =
        elim (cases (some_below s.size (λ t. a t && f t)) _ h) [
          | inl u ↦ let k = some_both s.size a f u in both_from s.size out f k.at k.below (subst T (sym (e k.at)) (left (a k.at) _ k.one)) k.other
          | inr u ↦ let k = some_both s.size b f u in both_from s.size out f k.at k.below (subst T (sym (e k.at)) (right (a k.at) _ k.one)) k.other
        ]

pub gathered_none : (s : State) (r : ℕ) (out all : ℕ → Bool) → ((y : ℕ) → all y ≡ false) → Gathered s r (held_by s out r) all out
gathered_none s r out all none y = ap (λ b. b || held_by s out r y) (none y)

pub gathered_more :
    (s : State) → WellFormed s → (r : ℕ) (whole all rest all' rest' : ℕ → Bool) (v : ℕ) → rest v ≡ true → Without v rest rest' →
    ((y : ℕ) → all' y ≡ (all y || s.has v r y)) → Gathered s r whole all rest → Gathered s r whole all' rest'
unfolding held_by
gathered_more s wf r whole all rest all' rest' v t w f inv y =
    let a = f y in
    let b = inv y in
    let c = some_without s.size v (λ u. s.has u r y) rest rest' (wf.holder v r y) t w in
    grind (arith, nat_tests)

-- A part of those that were left was gathered.
pub gathered_part :
    (s : State) (r : ℕ) (whole all rest part all' rest' : ℕ → Bool) → ((t : ℕ) → rest t ≡ (part t || rest' t)) →
    ((y : ℕ) → all' y ≡ (all y || held_by s part r y)) → Gathered s r whole all rest → Gathered s r whole all' rest'
gathered_part s r whole all rest part all' rest' e f inv y =
    law (all y) (all' y) (held_by s rest r y) (held_by s part r y) (held_by s rest' r y) (whole y) (f y) (held_either s r rest part rest' e y) (inv y)
  where
    law : (a n h p k v : Bool) → n ≡ (a || p) → h ≡ (p || k) → (a || h) ≡ v → (n || k) ≡ v
    law a n h p k v e f g = grind (arith, nat_tests)

pub gathered_all : (s : State) (r : ℕ) (whole all rest : ℕ → Bool) → ((t : ℕ) → rest t ≡ false) → Gathered s r whole all rest → (y : ℕ) → all y ≡ whole y
unfolding held_by
gathered_all s r whole all rest none inv y = let a = inv y in let b = some_nobody s.size (λ u. s.has u r y) rest none in grind (arith, nat_tests)

-- Those of a set that are in words from c on.
abbrev pub from_word : ℕ → (ℕ → Bool) → ℕ → Bool
from_word c set t = not (ltb (t / 64) c) && set t

pub word_split : (c w : ℕ) (set : ℕ → Bool) → ((j : ℕ) → j < 64 → bit w j ≡ set (64 * c + j)) → (t : ℕ) → from_word c set t ≡ (in_word c w t || from_word (c + 1) set t)
word_split c w set e t =
    let b = e (t % 64) (omega arith) in
    elim (cases_eq (t / 64) c) [
      | inl d ↦ let f : set (64 * c + t % 64) ≡ set t = ap set (omega arith) in grind (arith, nat_tests)
      | inr d ↦ grind (arith, nat_tests)
    ]

-- The rows of right r to those targets that are not in `rest` have got `who`.
abbrev pub Shared : ℕ → (ℕ → Bool) → (ℕ → Bool) → (ℕ → ℕ → Bool) → (ℕ → ℕ → Bool) → (ℕ → Bool) → Type 0
Shared r targets who was cells rest =
    ((y : ℕ) → T (rest y) → T (targets y)) ×
    ((i x : ℕ) → (cells i x || ((eqb (i % 8) r && rest (i / 8)) && who x)) ≡ (was i x || ((eqb (i % 8) r && targets (i / 8)) && who x)))

module _ (r : ℕ) (targets who : ℕ → Bool) (was : ℕ → ℕ → Bool) where
  one_row : (y v : ℕ) (a c n p t e e' : Bool) →
      (c || ((p && e) && a)) ≡ t → n ≡ (c || ((p && eqb y v) && a)) → e' ≡ (not (eqb y v) && e) → (y ≡ v → e ≡ true) → (n || ((p && e') && a)) ≡ t
  one_row y v a c n p t e e' q s u h =
      elim (cases_eq y v) [ inl d ↦ let f = h d in grind (arith, nat_tests) | inr d ↦ grind (arith, nat_tests) ]

  pub shared_more :
      (cells next : ℕ → ℕ → Bool) (rest rest' : ℕ → Bool) (v : ℕ) → r < 8 → rest v ≡ true → Without v rest rest' →
      ((i x : ℕ) → next i x ≡ (cells i x || (eqb i (8 * v + r) && who x))) → Shared r targets who was cells rest → Shared r targets who was next rest'
  shared_more cells next rest rest' v h t w step inv = (
    λ y k. inv.0 y (parts (not (eqb y v)) _ (subst T (w y) k)).1,
    λ i x.
        one_row (i / 8) v (who x) (cells i x) (next i x) (eqb (i % 8) r) _ (rest (i / 8)) (rest' (i / 8)) (inv.1 i x)
        (step i x ∙ ap (λ b. cells i x || (b && who x)) (row_is i v r h)) (w (i / 8)) (λ d. ap rest d ∙ t),
  )

pub word_without : (c w w' b : ℕ) → b < 64 → ((k : ℕ) → bit w' k ≡ (not (eqb k b) && bit w k)) → Without (64 * c + b) (in_word c w) (in_word c w')
word_without c w w' b h e k = let f = e (k % 64) in grind (arith, nat_tests)

pub word_there : (c w b : ℕ) → b < 64 → bit w b ≡ true → in_word c w (64 * c + b) ≡ true
word_there c w b h e =
    let at : bit w ((64 * c + b) % 64) ≡ true = ap (bit w) (omega arith) ∙ e in
    let word : (64 * c + b) / 64 ≡ c = omega arith in
    grind (arith, nat_tests)

-- The targets in words below c were passed.
abbrev pub Words : ℕ → (ℕ → Bool) → (ℕ → Bool) → (ℕ → ℕ → Bool) → (ℕ → ℕ → Bool) → ℕ → Type 0
Words r targets who was cells c = (i x : ℕ) → cells i x ≡ (was i x || ((eqb (i % 8) r && (ltb (i / 8 / 64) c && targets (i / 8))) && who x))
