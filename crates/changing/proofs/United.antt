-- One row gets what each row of a set has, row by row.
use Rattle.std.proofs.Common.{◌≡◌, ℕ, ◌<◌, Bool, false, cond, not, ◌&&◌, ◌||◌, T, eqb, sym, ap, ◌∙◌, subst, ap₂, inl, inr, eqb→eq, T_not, arith}
use lib.Dec.{eqb_refl, not_T}
use Rattle.std.proofs.lemmas.Bool.{cases_eq, ne_eqb}
use Rattle.std.proofs.lemmas.Bool.Decides.{nat_tests}
use Rattle.model.specs.State.{State}
use Rattle.model.specs.Spans.{can_take}
use Rattle.model.proofs.Tests.{both, parts, cases, left, right, same, is_true, is_false, from_false}
use Rattle.spans.specs.Paths.{step_from}
use Rattle.bits.proofs.Walk.{Without}
use Rattle.changing.specs.Reached.{of_some}
use Rattle.changing.specs.Rounds.{begun_row}
use Rattle.changing.proofs.Tested.{some_to, some_from}

-- Row `into` has what the rows of those have that are not in `rest`; all other rows are as they were.
pub record United (into : ℕ) (set : ℕ → Bool) (was rows : ℕ → ℕ → Bool) (rest : ℕ → Bool) : Type 0 where
  pub others : (x y : ℕ) → (x ≡ into → ⊥) → rows x y ≡ was x y
  pub sound : (y : ℕ) → T (rows into y) → T (was into y || of_some set was y)
  pub kept : (y : ℕ) → T (was into y) → T (rows into y)
  pub whole : (w y : ℕ) → T (set w) → (T (rest w) → ⊥) → T (was w y) → T (rows into y)
  pub part : (w : ℕ) → T (rest w) → T (set w)

module _ (into : ℕ) (set : ℕ → Bool) (was : ℕ → ℕ → Bool) where
  pub united_more :
      (rows next : ℕ → ℕ → Bool) (rest rest' : ℕ → Bool) (v : ℕ) → v < 256 → set into ≡ false → T (rest v) → Without v rest rest' →
      ((x y : ℕ) → next x y ≡ (rows x y || (eqb x into && rows v y))) → United into set was rows rest → United into set was next rest'
  united_more rows next rest rest' v l out h w step inv =
      record {
        others = λ x y d. let other = ne_eqb x into d in let next = step x y in let was = inv.others x y d in grind (arith, nat_tests);
        sound = λ y t.
            elim (cases (rows into y) _ (subst T (step into y) t)) [
              | inl u ↦ inv.sound y u
              | inr u ↦ right (was into y) _ (some_from set was y v l (inv.part v h) (subst T (source y) (parts (eqb into into) _ u).1))
            ];
        kept = λ y t. old y (inv.kept y t);
        whole = λ x y a n t.
            elim (cases_eq x v) [
              | inl d ↦ subst T (sym (step into y)) (right (rows into y) _ (both (eqb into into) _ (eqb_refl into) (subst T (sym (source y)) (subst (λ z. T (was z y)) d t))))
              | inr d ↦ old y (inv.whole x y a (λ u. n (still x d u)) t)
            ];
        part = λ x u. inv.part x (parts (not (eqb x v)) _ (subst T (w x) u)).1;
      }
    where
      other : v ≡ into → ⊥
      other d = from_false (set into) out (subst (λ z. T (set z)) d (inv.part v h))

      source : (y : ℕ) → rows v y ≡ was v y
      source y = inv.others v y other

      old : (y : ℕ) → T (rows into y) → T (next into y)
      old y t = subst T (sym (step into y)) (left (rows into y) _ t)

      still : (x : ℕ) → (x ≡ v → ⊥) → T (rest x) → T (rest' x)
      still x d u = subst T (sym (w x)) (both (not (eqb x v)) _ (not_T (eqb x v) (λ q. d (eqb→eq x v q))) u)

  pub united_all :
      (rows : ℕ → ℕ → Bool) (rest : ℕ → Bool) → ((w : ℕ) → rest w ≡ false) → United into set was rows rest →
      (x y : ℕ) → rows x y ≡ (was x y || (eqb x into && of_some set was y))
  united_all rows rest none inv x y =
      elim (cases_eq x into) [
        | inl e ↦
            ap (λ z. rows z y) e ∙ same _ _ (inv.sound y) back
            ∙ ap₂ (λ z b. was z y || (b && of_some set was y)) (sym e) (sym (is_true _ (subst (λ z. T (eqb x z)) e (eqb_refl x))))
        | inr d ↦ let other = ne_eqb x into d in let same = inv.others x y d in grind (arith, nat_tests)
      ]
    where
      back : T (was into y || of_some set was y) → T (rows into y)
      back t =
          elim (cases (was into y) _ t) [
            | inl u ↦ inv.kept y u
            | inr u ↦ let k = some_to set was y u in inv.whole k.at y k.one (from_false (rest k.at) (none k.at)) k.other
          ]

-- What belongs to one of a set depends on the rows of the set alone.
pub some_same : (set : ℕ → Bool) (f g : ℕ → ℕ → Bool) (y : ℕ) → ((w : ℕ) → T (set w) → f w y ≡ g w y) → of_some set f y ≡ of_some set g y
some_same set f g y e = same _ _ to from
  where
    to : T (of_some set f y) → T (of_some set g y)
    to t = let k = some_to set f y t in some_from set g y k.at k.below k.one (subst T (e k.at k.one) k.other)

    from : T (of_some set g y) → T (of_some set f y)
    from t = let k = some_to set g y t in some_from set f y k.at k.below k.one (subst T (sym (e k.at k.one)) k.other)

pub begun_same :
    (s : State) (A : ℕ → Bool) (rows was : ℕ → ℕ → Bool) (x y : ℕ) → ((w : ℕ) → A w ≡ false → rows w y ≡ was w y) → begun_row s A rows x y ≡ begun_row s A was x y
unfolding begun_row
begun_same s A rows was x y e =
    ap (λ b. step_from s x y || b)
    (some_same (λ w. can_take s x w && not (A w)) rows was y (λ w t. e w (is_false (A w) (T_not (A w) (parts (can_take s x w) _ t).1))))

-- One row of A more begins again, by rows outside A that are as they were.
pub begun_more :
    (s : State) (A : ℕ → Bool) (was rows next : ℕ → ℕ → Bool) (v : ℕ) → ((w y : ℕ) → A w ≡ false → rows w y ≡ was w y) →
    ((x y : ℕ) → next x y ≡ cond (eqb x v) (begun_row s A rows v y) (rows x y)) → (x y : ℕ) → next x y ≡ cond (eqb x v) (begun_row s A was x y) (rows x y)
begun_more s A was rows next v e step x y =
    elim (cases_eq x v) [
      | inl d ↦
          step x y
          ∙ ap (λ b. cond (eqb x v) b (rows x y)) (begun_same s A rows was v y (λ w. e w y) ∙ ap (λ z. begun_row s A was z y) (sym d))
      | inr d ↦ let other = ne_eqb x v d in let next = step x y in grind (arith, nat_tests)
    ]
