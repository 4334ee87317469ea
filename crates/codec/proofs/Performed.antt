-- An act that was read: when it is done, and why it is not.
use Rattle.std.proofs.Common.{◌≡◌, ℕ, ◌<◌, ◌≤◌, false, ◌&&◌, T, eqb, ◌⊎◌, List, [], ◌∷◌, Ok, Err, refl, ap, ◌∙◌, inl, inr, arith}
use Rattle.std.proofs.lemmas.Bool.{cases_Bool, cond-true, cond-false, ne_eqb, eq-eqb, eqb-false, and_from}
use Rattle.model.specs.State.{State}
use Rattle.model.specs.Rules.{applicable, applied, after, all_applicable}
use Rattle.model.specs.declared.Rule.{Rule}
use Rattle.model.specs.declared.Rule.TheVariants.{Take, Grant, Create, Remove}
use Rattle.model.proofs.Tests.{parts, is_true, is_false, from_true, from_false}
use Rattle.model.proofs.Grown.{applied_size}
use Rattle.std.proofs.lemmas.Bool.Decides.{nat_tests}
use Rattle.graph.specs.Graphs.{creates}
use Rattle.codec.specs.declared.fault.Fault.{Fault}
use Rattle.codec.specs.declared.fault.Fault.TheVariants.{NotApplicable, Full}
use Rattle.codec.specs.Replay.{told, performed}
use Rattle.codec.specs.Told.{MayNot, NoRoom}

-- The state after acts that may be done.
pub after_on : (s : State) (a : Rule) (more : List Rule) → T (applicable s a) → after s (a ∷ more) ≡ after (applied s a) more
unfolding after
after_on s a more t = ap (λ u. after u more) (cond-true (applicable s a) _ _ (is_true _ t))

pub after_grows : (s : State) (acts : List Rule) → T (all_applicable s acts) → s.size ≤ (after s acts).size
unfolding all_applicable after
after_grows s [] t = omega arith
after_grows s (a ∷ more) t =
    let h = parts (applicable s a) (all_applicable (applied s a) more) t in
    let g = after_grows (applied s a) more h.1 in
    let l = applied_size s a in
    let e = ap (λ u. u.size) (after_on s a more h.0) in
    omega arith

-- An act that may be done is done, unless it makes a 256th vertex.
no_room_needed : (s : State) (a : Rule) → (applied s a).size < 256 → (creates a && eqb s.size 255) ≡ false
no_room_needed s (Take t) l = refl
no_room_needed s (Grant g) l = refl
no_room_needed s (Create c) l = ne_eqb s.size 255 (λ e. omega arith)
no_room_needed s (Remove d) l = refl

room_enough : (s : State) (a : Rule) → s.size < 256 → (creates a && eqb s.size 255) ≡ false → (applied s a).size < 256
room_enough s (Take t) l e = l
room_enough s (Grant g) l e = l
room_enough s (Create c) l e = let d : s.size ≡ 255 → ⊥ = eqb-false s.size 255 e in omega arith
room_enough s (Remove d) l e = l

pub performed_done : (s : State) (a : Rule) (i : ℕ) → T (applicable s a) → (applied s a).size < 256 → performed s a i ≡ Ok (applied s a)
performed_done s a i t l =
    ap (λ o. told o i (applied s a)) (cond-true (applicable s a) _ _ (is_true _ t) ∙ cond-false (creates a && eqb s.size 255) _ _ (no_room_needed s a l))

pub record DoneWell (s : State) (a : Rule) (t : State) : Type 0 where
  pub may : T (applicable s a)
  pub room : s.size < 256 → (applied s a).size < 256
  pub result : t ≡ applied s a

pub performed_ok : (s : State) (a : Rule) (i : ℕ) (t : State) → performed s a i ≡ Ok t → DoneWell s a t
performed_ok s a i t e = record { may = grind (arith, nat_tests); room = λ l. room_enough s a l (grind (arith, nat_tests)); result = grind (arith, nat_tests) }

-- The two reasons.
pub performed_not : (s : State) (a : Rule) (i : ℕ) → MayNot s a → performed s a i ≡ Err (NotApplicable i)
performed_not s a i h = ap (λ o. told o i (applied s a)) (cond-false (applicable s a) _ _ (is_false _ h))

pub performed_full : (s : State) (a : Rule) (i : ℕ) → NoRoom s a → performed s a i ≡ Err (Full i)
performed_full s a i h =
    ap (λ o. told o i (applied s a)) (cond-true (applicable s a) _ _ (is_true _ h.0) ∙ cond-true (creates a && eqb s.size 255) _ _ (and_from _ _ (is_true _ h.1) (eq-eqb s.size 255 h.2)))

pub performed_err : (s : State) (a : Rule) (i : ℕ) (f : Fault) → performed s a i ≡ Err f → ((NotApplicable i ≡ f) × MayNot s a) ⊎ ((Full i ≡ f) × NoRoom s a)
performed_err s a i f e =
    elim (cases_Bool (applicable s a)) [
      | inl y ↦ inr (grind (arith, nat_tests), (from_true _ y, grind (arith, nat_tests), grind (arith, nat_tests)))
      | inr n ↦ inl (grind (arith, nat_tests), from_false _ n)
    ]
