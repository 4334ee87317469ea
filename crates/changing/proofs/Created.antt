-- What the rows of take paths are after a creation, by what they were before it.
use Rattle.std.proofs.Common.{◌≡◌, ℕ, ◌<◌, Bool, true, false, ◌&&◌, ◌||◌, T, eqb, sym, refl, ap, ◌∙◌, subst, ap₂, inl, inr, arith, eqb→eq}
use Rattle.std.proofs.lemmas.Bool.{cases_eq, ne_eqb}
use Rattle.std.proofs.lemmas.Bool.Decides.{nat_tests}
use Rattle.model.specs.State.{State, WellFormed, take_right}
use Rattle.model.specs.Bit.{bit}
use Rattle.model.specs.Closure.{here, next}
use Rattle.model.specs.Spans.{TakePath, can_take}
use Rattle.model.specs.Rules.{created}
use Rattle.model.proofs.Tests.{both, parts, cases, left, right, decide, same, is_false, from_true, is_true, eq_test}
use Rattle.model.proofs.Steps.{created_has, created_had, created_new, created_well, cond_cases}
use Rattle.graph.specs.Graphs.{grown}
use Rattle.spans.specs.Paths.{path_from}
use Rattle.changing.proofs.Rounds.{path_to, path_from-law}
use Rattle.changing.proofs.Paths.{same_takes, added_paths}

-- A vertex more, from and to which there is no right.
module _ (s : State) (wf : WellFormed s) (acting : Bool) where
  grown_well : WellFormed (grown acting s)
  grown_well =
      record {
        holder = λ p k q t. let l = wf.holder p k q t in omega arith;
        target = λ p k q t. let l = wf.target p k q t in omega arith;
      }

  alone : (y : ℕ) → TakePath s s.size y → s.size ≡ y
  alone y v = from_end s.size y refl v
    where
      from_end : (x y : ℕ) → x ≡ s.size → TakePath s x y → x ≡ y
      from_end x y e here = refl
      from_end x y e (next {z = w} h v) = absurd (let l = wf.holder x take_right w h in omega arith)

  pub grown_paths : (x y : ℕ) → path_from (grown acting s) x y ≡ ((eqb x s.size && eqb y s.size) || path_from s x y)
  grown_paths x y = same _ _ to from
    where
      to : T (path_from (grown acting s) x y) → T ((eqb x s.size && eqb y s.size) || path_from s x y)
      to h =
          let u = path_to (grown acting s) x y h in
          elim (cases_eq x s.size) [
            | inl e ↦
                left (eqb x s.size && eqb y s.size) _
                (both (eqb x s.size) _ (eq_test x s.size e)
                (eq_test y s.size (sym (alone y (subst (λ k. TakePath s k y) e u.1)))))
            | inr d ↦ right (eqb x s.size && eqb y s.size) _ (path_from-law s wf x y (omega (arith, u.0)) u.1)
          ]

      from : T ((eqb x s.size && eqb y s.size) || path_from s x y) → T (path_from (grown acting s) x y)
      from h =
          elim (cases (eqb x s.size && eqb y s.size) _ h) [
            | inl u ↦
                let v = parts (eqb x s.size) _ u in
                let a = eqb→eq x s.size v.0 in
                let b = eqb→eq y s.size v.1 in
                path_from-law (grown acting s) grown_well x y (omega (arith, a)) (subst (λ k. TakePath s x k) (a ∙ sym b) here)
            | inr u ↦ let p = path_to s x y u in path_from-law (grown acting s) grown_well x y (omega (arith, p.0)) p.1
          ]

-- A creation: the new vertex, and its creator's take right to it, if there is one.
module _ (s : State) (wf : WellFormed s) (who : ℕ) (acting : Bool) (rights : ℕ) (there : who < s.size) where
  abbrev begun : ℕ → ℕ → Bool
  begun x y = (eqb x s.size && eqb y s.size) || path_from s x y

  taken : T (bit rights take_right) → (x y : ℕ) → path_from (created who acting rights s) x y ≡ (begun x y || (path_from s x who && begun s.size y))
  taken h x y =
      added_paths (grown acting s) (created who acting rights s) (grown_well s wf acting) (created_well who acting rights s there wf) refl who s.size
      (omega arith) (created_new who acting rights s take_right h) (λ p q. created_had who acting rights s wf p take_right q)
      (λ p q t. created_has who acting rights s p take_right q t) x y
      ∙ ap₂ (λ a b. a || b) (grown_paths s wf acting x y) (ap₂ (λ a b. a && b) (grown_paths s wf acting x who ∙ old) (grown_paths s wf acting s.size y))
    where
      old : ((eqb x s.size && eqb who s.size) || path_from s x who) ≡ path_from s x who
      old = let other = ne_eqb who s.size (λ e. omega arith) in grind (arith, nat_tests)

  untaken : (T (bit rights take_right) → ⊥) → (x y : ℕ) → path_from (created who acting rights s) x y ≡ begun x y
  untaken f x y =
      same_takes (created who acting rights s) (grown acting s) refl (λ p q. same _ _ (old p q) (created_had who acting rights s wf p take_right q)) x y
      ∙ grown_paths s wf acting x y
    where
      old : (p q : ℕ) → T (can_take (created who acting rights s) p q) → T (can_take s p q)
      old p q t =
          elim (cond_cases (eqb q s.size) (eqb p who && bit rights take_right) _ t) [
            | inl u ↦ absurd (f (parts (eqb p who) _ u.1).1)
            | inr u ↦ elim (cond_cases (eqb p s.size) false (s.has p take_right q) u) [ inl v ↦ absurd v.1 | inr h ↦ h ]
          ]

  pub created_paths :
      (x y : ℕ) →
      path_from (created who acting rights s) x y ≡
      (begun x y || ((eqb x s.size || (bit rights take_right && path_from s x who)) && begun s.size y))
  created_paths x y =
      elim (decide (bit rights take_right)) [
        | inl h ↦ let paths = taken h x y in let takes = is_true _ h in let same = self in grind (arith, nat_tests)
        | inr f ↦ let paths = untaken f x y in let takes = is_false _ f in let same = self in grind (arith, nat_tests)
      ]
    where
      self : eqb x s.size ≡ true → begun s.size y ≡ begun x y
      self e = ap (λ k. begun k y) (sym (eqb→eq x s.size (from_true _ e)))
