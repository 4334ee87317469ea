-- The rows after a rule, from what the code did to them, are those of the state after it.
use Rattle.std.proofs.Common.{◌≡◌, ℕ, ◌<◌, Bool, false, cond, ◌&&◌, ◌||◌, T, eqb, Ok, Err, Result, sym, ap, ◌∙◌, subst, ap₂, inl, inr, arith}
use mathlib.Core.Path.{fun_ext}
use Rattle.std.proofs.lemmas.Bool.{cases_Bool}
use Rattle.std.proofs.lemmas.Bool.Decides.{nat_tests}
use Rattle.model.specs.State.{State, WellFormed, take_right}
use Rattle.model.specs.Bit.{bit}
use Rattle.model.specs.Rules.{applicable, applied, given}
use Rattle.model.specs.declared.Rule.{Rule}
use Rattle.model.specs.declared.Rule.TheVariants.{Take, Grant, Create, Remove}
use Rattle.model.specs.declared.Take.{Take as TakeRule}
use Rattle.model.specs.declared.Grant.{Grant as GrantRule}
use Rattle.model.specs.declared.Create.{Create as CreateRule}
use Rattle.model.specs.declared.Remove.{Remove as RemoveRule}
use Rattle.model.proofs.Tests.{parts, from_true}
use Rattle.model.proofs.Readings.{subject_vertex}
use Rattle.model.proofs.Steps.{take_holds, grant_holds}
use Rattle.graph.specs.Graphs.{answer, creates}
use Rattle.graph.specs.declared.refusal.Refusal.{Refusal}
use Rattle.graph.specs.declared.refusal.Refusal.TheVariants.{NotApplicable, Full}
use Rattle.spans.specs.Paths.{path_from}
use Rattle.changing.specs.Renewed.{renews}
use Rattle.changing.specs.Rounds.{rounds_of, begun_row, Shut}
use Rattle.changing.proofs.Rounds.{path_to, rounds_kept}
use Rattle.changing.proofs.Paths.{given_paths, removed_paths, removed_shut}
use Rattle.changing.proofs.Created.{created_paths}

-- A rule that was done was applicable.
pub done_applicable : (s : State) (a : Rule) → Ok tt ≡ answer s a → T (applicable s a)
done_applicable s a e = elim (cases_Bool (applicable s a)) [ inl h ↦ from_true _ h | inr h ↦ absurd (never h) ]
  where
    never : applicable s a ≡ false → ⊥
    never h =
        let f : ◌≡◌ {A = Result (Unit {0}) Refusal} (Ok tt) (Err NotApplicable) = e ∙ ap (λ b. cond b (cond (creates a && eqb s.size 255) (Err Full) (Ok tt)) (Err NotApplicable)) h in cc

-- A rule was applied, which led from s to t, and the rows of A are worked out anew: those that the rule renews. All rows were `old`.
pub record Renewing (s t : State) (a : Rule) (A : ℕ → Bool) (old : ℕ → ℕ → Bool) : Type 0 where
  pub formed : WellFormed s
  pub few : s.size < 256
  pub led : (x y : ℕ) → old x y ≡ path_from s x y
  pub is : (x : ℕ) → A x ≡ renews s a x
  pub done : Ok tt ≡ answer s a
  pub after : t ≡ applied s a

module _ {s t : State} {a : Rule} {A : ℕ → Bool} {old : ℕ → ℕ → Bool} (on : Renewing s t a A old) where
  -- All this of the rule as it is known to be.
  may : (b : Rule) → a ≡ b → T (applicable s b)
  may b e = subst (λ k. T (applicable s k)) e (done_applicable s a on.done)

  is_so : (b : Rule) → a ≡ b → (x : ℕ) → A x ≡ renews s b x
  is_so b e x = on.is x ∙ ap (λ k. renews s k x) e

  after_so : (b : Rule) → a ≡ b → applied s b ≡ t
  after_so b e = ap (applied s) (sym e) ∙ sym on.after

  -- Each row of A gets that of z.
  given_led :
      (c r z : ℕ) → c < s.size → z < s.size → (rows : ℕ → ℕ → Bool) → ((x y : ℕ) → rows x y ≡ (old x y || (A x && old z y))) →
      (x y : ℕ) → A x ≡ renews s (Take (record { who = c; from = 0; right = r; to = z })) x → rows x y ≡ path_from (given c r z s) x y
  unfolding renews
  given_led c r z lc lz rows step x y e =
      step x y ∙ ap₂ (λ p q. p || q) (on.led x y) (ap₂ (λ p q. p && q) e (on.led z y)) ∙ sym (given_paths s on.formed c r z lc lz x y)

  pub take_led :
      (u : TakeRule) → a ≡ Take u → (rows : ℕ → ℕ → Bool) → ((x y : ℕ) → rows x y ≡ (old x y || (A x && old u.to y))) →
      (x y : ℕ) → rows x y ≡ path_from t x y
  unfolding renews
  take_led u e rows step x y =
      let h = take_holds s u.who u.from u.right u.to (may (Take u) e) in
      given_led u.who u.right u.to (subject_vertex s u.who h.acts) h.there rows step x y (is_so (Take u) e x)
      ∙ ap (λ k. path_from k x y) (after_so (Take u) e)

  pub grant_led :
      (g : GrantRule) → a ≡ Grant g → (rows : ℕ → ℕ → Bool) → ((x y : ℕ) → rows x y ≡ (old x y || (A x && old g.to y))) →
      (x y : ℕ) → rows x y ≡ path_from t x y
  unfolding renews
  grant_led g e rows step x y =
      let h = grant_holds s g.who g.into g.right g.to (may (Grant g) e) in
      given_led g.into g.right g.to h.receiver h.there rows step x y (is_so (Grant g) e x)
      ∙ ap (λ k. path_from k x y) (after_so (Grant g) e)

  -- The new vertex has a row of its own, which each row of A gets.
  module _ (c : CreateRule) (e : a ≡ Create c) (n : ℕ) (size : n ≡ s.size) {begun rows : ℕ → ℕ → Bool}
      (first : (x y : ℕ) → begun x y ≡ ((eqb x n && eqb y n) || old x y)) (step : (x y : ℕ) → rows x y ≡ (begun x y || (A x && begun n y))) where
    begun_is : (x y : ℕ) → begun x y ≡ ((eqb x s.size && eqb y s.size) || path_from s x y)
    begun_is x y = first x y ∙ ap₂ (λ m p. (eqb x m && eqb y m) || p) size (on.led x y)

    renewed_is : (x : ℕ) → A x ≡ (eqb x s.size || (bit c.rights take_right && path_from s x c.who))
    unfolding renews
    renewed_is x = is_so (Create c) e x

    pub create_led : (x y : ℕ) → rows x y ≡ path_from t x y
    create_led x y =
        step x y
        ∙ ap₂ (λ p q. p || q) (begun_is x y) (ap₂ (λ p q. p && q) (renewed_is x) (ap (λ m. begun m y) size ∙ begun_is s.size y))
        ∙ sym (created_paths s on.formed c.who c.subject c.rights (subject_vertex s c.who (may (Create c) e)) x y)
        ∙ ap (λ k. path_from k x y) (after_so (Create c) e)

    pub create_kept : (x y : ℕ) → A x ≡ false → rows x y ≡ old x y
    create_kept x y h =
        step x y ∙ ap₂ (λ p q. p || (q && begun n y)) (first x y ∙ ap (λ m. (eqb x m && eqb y m) || old x y) size) h
        ∙ (let is = renewed_is x in grind (arith, nat_tests))

  module _ (d : RemoveRule) (e : a ≡ Remove d) where
    -- What is worked out anew is there.
    pub removed_there : (v : ℕ) → T (A v) → v < t.size
    unfolding renews
    removed_there v h =
        subst (λ k. v < k.size) (after_so (Remove d) e)
        (path_to s v d.who (parts (eqb d.right take_right && s.has d.who take_right d.to) _ (subst T (is_so (Remove d) e v) h)).1).0

    -- The rows of A begin again, and are closed.
    module _ {begun : ℕ → ℕ → Bool} (first : (x y : ℕ) → begun x y ≡ cond (A x) (begun_row t A old x y) (old x y)) where
      removed_is : (x : ℕ) → A x ≡ ((eqb d.right take_right && s.has d.who take_right d.to) && path_from s x d.who)
      unfolding renews
      removed_is x = is_so (Remove d) e x

      rows_begun : (x y : ℕ) → begun x y ≡ cond (A x) (begun_row (applied s (Remove d)) A (path_from s) x y) (path_from s x y)
      rows_begun x y =
          first x y ∙ ap₂ (λ k o. cond (A x) (begun_row k A o x y) (o x y)) (sym (after_so (Remove d) e)) (fun_ext λ p. fun_ext λ q. on.led p q)

      pub remove_shut : Shut A begun
      remove_shut = removed_shut s on.formed d.who d.right d.to on.few A begun removed_is rows_begun

      module _ (n : ℕ) {rows : ℕ → ℕ → Bool} (step : (x y : ℕ) → rows x y ≡ rounds_of A begun n x y) where
        pub remove_led : n ≡ s.size → (x y : ℕ) → rows x y ≡ path_from t x y
        remove_led size x y =
            step x y ∙ ap (λ m. rounds_of A begun m x y) size
            ∙ removed_paths s on.formed d.who d.right d.to on.few A begun removed_is rows_begun x y
            ∙ ap (λ k. path_from k x y) (after_so (Remove d) e)

        pub remove_kept : (x y : ℕ) → A x ≡ false → rows x y ≡ old x y
        remove_kept x y h = step x y ∙ rounds_kept A begun x y h n ∙ first x y ∙ ap (λ b. cond b (begun_row t A old x y) (old x y)) h
