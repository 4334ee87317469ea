-- Take paths to vertices start at vertices; and a take path leads from anything to itself.
use Rattle.std.proofs.Common.{◌≡◌, ℕ, ◌<◌, ◌||◌, T, eqb, ◌⊎◌, refl, subst, inl, inr, arith, eqb→eq}
use Rattle.model.specs.State.{State, WellFormed, take_right}
use Rattle.model.specs.Closure.{here, next}
use Rattle.model.specs.Spans.{take_path, TakePath}
use Rattle.model.proofs.Tests.{cases, left, right, eq_test, same}
use Rattle.model.proofs.Readings.{take_path-to, take_path-from}
use Rattle.spans.specs.Paths.{path_from}
use Rattle.witness.proofs.Bridging.{path_to, path_from-law}

module _ (s : State) (wf : WellFormed s) where
  -- A take path leads from a vertex, or it stays where it is.
  starts : {x y : ℕ} → TakePath s x y → (x ≡ y) ⊎ (x < s.size)
  starts here = inl refl
  starts {x} (next {z = z} t v) = inr (wf.holder x take_right z t)

  pub path_below : (x y : ℕ) → y < s.size → path_from s x y ≡ take_path s x y
  path_below x y l = same _ _ (path_to s x y) back
    where
      back : T (take_path s x y) → T (path_from s x y)
      back t = elim (starts (take_path-to s x y t)) [ inl e ↦ path_from-law s x y (omega arith) t | inr h ↦ path_from-law s x y h t ]

  stays : (x y : ℕ) → x ≡ y → T (take_path s x y)
  stays x y e = take_path-from s wf x y (subst (TakePath s x) e here)

  pub path_leads : (x y : ℕ) → (eqb x y || path_from s x y) ≡ take_path s x y
  path_leads x y = same _ _ to from
    where
      to : T (eqb x y || path_from s x y) → T (take_path s x y)
      to t = elim (cases (eqb x y) _ t) [ inl e ↦ stays x y (eqb→eq x y e) | inr u ↦ path_to s x y u ]

      from : T (take_path s x y) → T (eqb x y || path_from s x y)
      from t =
          elim (starts (take_path-to s x y t)) [
            | inl e ↦ left (eqb x y) _ (eq_test x y e)
            | inr h ↦ right (eqb x y) _ (path_from-law s x y h t)
          ]
