-- A state that a book can be written for stays one, whatever acts in range are done.
use Rattle.std.proofs.Common.{ℕ, suc, ◌<◌, Bool, not, ◌&&◌, ◌||◌, T, List, [], ◌∷◌, length, Ok, sym, ap, ◌∙◌, subst, inl, inr, arith}
use Rattle.std.proofs.lemmas.Bool.{cases_lt}
use Rattle.std.proofs.lemmas.Bool.Decides.{nat_tests}
use Rattle.bits.proofs.Bit.{bit_past}
use Rattle.model.specs.Bit.{bit}
use Rattle.model.specs.State.{State}
use Rattle.model.specs.Rules.{this_right, given, removed, created, applicable, applied, after, all_applicable}
use Rattle.model.specs.declared.Rule.{Rule}
use Rattle.model.specs.declared.Rule.TheVariants.{Take, Grant, Create, Remove}
use Rattle.model.proofs.Tests.{parts}
use Rattle.codec.specs.Bookable.{Bookable}
use Rattle.codec.specs.Books.{book_at}
use Rattle.codec.specs.Played.{InRange, Readable}
use Rattle.codec.specs.RoundTrips.{OutputsReadBack}
use Rattle.codec.proofs.Performed.{after_on, after_grows}
use Rattle.codec.proofs.RoundTrips.{book_reads_back}

module _ (s : State) (b : Bookable s) where
  given_bookable : (x r y : ℕ) → x < s.size → r < 8 → y < s.size → Bookable (given x r y s)
  given_bookable x r y lx lr ly =
      record {
        some = b.some;
        few = b.few;
        formed = record { holder = λ p k q t. (within p k q t).0; target = λ p k q t. (within p k q t).2 };
        acting = b.acting;
        rights = λ p k q t. (within p k q t).1;
      }
    where
      within : (p k q : ℕ) → T (this_right x r y p k q || s.has p k q) → (p < s.size) × (k < 8) × (q < s.size)
      within p k q t =
          let h = b.formed.holder p k q in
          let r = b.rights p k q in
          let g = b.formed.target p k q in
          (grind (arith, nat_tests), grind (arith, nat_tests), grind (arith, nat_tests))

  removed_bookable : (x r y : ℕ) → Bookable (removed x r y s)
  removed_bookable x r y =
      record {
        some = b.some;
        few = b.few;
        formed = record { holder = λ p k q t. b.formed.holder p k q (kept p k q t); target = λ p k q t. b.formed.target p k q (kept p k q t) };
        acting = b.acting;
        rights = λ p k q t. b.rights p k q (kept p k q t);
      }
    where
      kept : (p k q : ℕ) → T (not (this_right x r y p k q) && s.has p k q) → T (s.has p k q)
      kept p k q t = (parts (not (this_right x r y p k q)) (s.has p k q) t).1

  created_bookable : (x : ℕ) (acting : Bool) (rights : ℕ) → x < s.size → rights < 256 → suc s.size < 256 → Bookable (created x acting rights s)
  created_bookable x acting rights lx lr few =
      record {
        some = omega arith;
        few = few;
        formed = record { holder = λ p k q t. (within p k q t).0; target = λ p k q t. (within p k q t).2 };
        acting = λ p t. let l = b.acting p in grind (arith, nat_tests);
        rights = λ p k q t. (within p k q t).1;
      }
    where
      right_below : (k : ℕ) → T (bit rights k) → k < 8
      right_below k t = elim (cases_lt k 8) [ inl l ↦ l | inr l ↦ absurd (subst T (bit_past 8 rights k lr l) t) ]

      within : (p k q : ℕ) → T ((created x acting rights s).has p k q) → (p < suc s.size) × (k < 8) × (q < suc s.size)
      within p k q t =
          let h = b.formed.holder p k q in
          let r = b.rights p k q in
          let g = b.formed.target p k q in
          let low = right_below k in
          (grind (arith, nat_tests), grind (arith, nat_tests), grind (arith, nat_tests))

pub applied_bookable : (s : State) (a : Rule) → Bookable s → InRange s.size a → (applied s a).size < 256 → Bookable (applied s a)
applied_bookable s (Take t) b r l = given_bookable s b t.who t.right t.to r.0 r.2 r.3
applied_bookable s (Grant g) b r l = given_bookable s b g.into g.right g.to r.1 r.2 r.3
applied_bookable s (Create c) b r l = created_bookable s b c.who c.subject c.rights r.0 r.1 l
applied_bookable s (Remove d) b r l = removed_bookable s b d.who d.right d.to

pub after_bookable : (acts : List Rule) (s : State) → Bookable s → Readable s acts → T (all_applicable s acts) → (after s acts).size < 256 → Bookable (after s acts)
unfolding Readable all_applicable after
after_bookable [] s b r t l = b
after_bookable (a ∷ more) s b r t l =
    let h = parts (applicable s a) (all_applicable (applied s a) more) t in
    let e = after_on s a more h.0 in
    let size = ap (λ u. u.size) e in
    let grows = after_grows (applied s a) more h.1 in
    subst Bookable (sym e) (after_bookable more (applied s a) (applied_bookable s a b r.0 (omega arith)) r.1 h.1 (omega arith))

pub outputs_read_back : OutputsReadBack
outputs_read_back input output p =
    let s = after p.start p.acts in
    ap book_at p.writes ∙ (book_reads_back s (after_bookable p.acts p.start p.bookable p.readable p.applicable p.room) ∙ ap (λ x. Ok (s, length x)) (sym p.writes))
