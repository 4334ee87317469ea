-- What an island brings, right by right.
use Rattle.std.proofs.Common.{◌≡◌, ℕ, ◌+◌, ◌/◌, ◌%◌, Bool, true, false, ◌&&◌, ◌||◌, eqb, ltb, sym, refl, ap, ◌∙◌, inl, inr, arith}
use Rattle.std.proofs.lemmas.Bool.{cases_eq}
use Rattle.std.proofs.lemmas.Bool.Decides.{nat_tests}
use Rattle.model.specs.State.{State, grant_right}
use Rattle.sharing.specs.Table.{gets, held_by, spreads}

module _ (s : State) (inner out : ℕ → Bool) (was : ℕ → ℕ → Bool) where
  abbrev pub Brought : (ℕ → ℕ → Bool) → ℕ → Type 0
  Brought cells r = (i x : ℕ) → cells i x ≡ (was i x || (ltb (i % 8) r && spreads s inner out i x))

  -- Who gets the right, put together.
  turned : (a b d : Bool) → ((a && b) && d) ≡ (a && (d && b))
  turned true true true = refl
  turned true true false = refl
  turned true false true = refl
  turned true false false = refl
  turned false b d = refl

  pub brought_more :
      (cells next : ℕ → ℕ → Bool) (who targets : ℕ → Bool) (r : ℕ) → ((x : ℕ) → who x ≡ (inner x || held_by s out grant_right x)) →
      ((y : ℕ) → targets y ≡ held_by s out r y) →
      ((i x : ℕ) → next i x ≡ (cells i x || ((eqb (i % 8) r && targets (i / 8)) && who x))) → Brought cells r → Brought next (r + 1)
  unfolding spreads gets
  brought_more cells next who targets r e f step inv i x =
      law (i % 8) (was i x) (cells i x) (next i x) ((inner x || held_by s out grant_right x) && held_by s out (i % 8) (i / 8)) (inv i x) (step i x ∙ ap (λ b. cells i x || b) here)
    where
      here : ((eqb (i % 8) r && targets (i / 8)) && who x) ≡ (eqb (i % 8) r && ((inner x || held_by s out grant_right x) && held_by s out (i % 8) (i / 8)))
      here =
          elim (cases_eq (i % 8) r) [
            | inl d ↦
                turned (eqb (i % 8) r) (targets (i / 8)) (who x)
                ∙ ap (λ b. eqb (i % 8) r && (b && targets (i / 8))) (e x)
                ∙ ap (λ b. eqb (i % 8) r && ((inner x || held_by s out grant_right x) && b)) (f (i / 8) ∙ ap (λ k. held_by s out k (i / 8)) (sym d))
            | inr d ↦ let n : eqb (i % 8) r ≡ false = grind (arith, nat_tests) in simp n
          ]

      law : (k : ℕ) (a c n b : Bool) → c ≡ (a || (ltb k r && b)) → n ≡ (c || (eqb k r && b)) → n ≡ (a || (ltb k (r + 1) && b))
      law k a c n b p q = elim (cases_eq k r) [ inl d ↦ grind (arith, nat_tests) | inr d ↦ grind (arith, nat_tests) ]
