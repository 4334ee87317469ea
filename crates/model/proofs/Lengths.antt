-- The number of steps of a row, and rows read off the test that bounds them.
use Rattle.std.proofs.Common.{◌≡◌, ℕ, zero, suc, ◌≤◌, Bool, T, subst, inl, inr, arith, eqb→eq}
use Rattle.model.specs.Closure.{within, Star, here, next}
use Rattle.model.proofs.Rounds.{first_step-law}

unfoldable pub steps : {R : ℕ → ℕ → Type 0} {x y : ℕ} → Star R x y → ℕ
steps here = 0
steps (next e w) = suc (steps w)

-- A row of at most k steps of the test e.
pub record Row (e : ℕ → ℕ → Bool) (k x y : ℕ) : Type 0 where
  pub way : Star (λ u v. T (e u v)) x y
  pub short : steps way ≤ k

row_here : (e : ℕ → ℕ → Bool) (k x y : ℕ) → x ≡ y → Row e k x y
unfolding steps
row_here e k x y p = subst (λ z. Row e k x z) p (record { way = here; short = omega arith })

row_next : (e : ℕ → ℕ → Bool) (k x z y : ℕ) → T (e x z) → Row e k z y → Row e (suc k) x y
unfolding steps
row_next e k x z y t w = record { way = next t w.way; short = omega arith }

pub row : (k n : ℕ) (e : ℕ → ℕ → Bool) (x y : ℕ) → T (within k n e x y) → Row e k x y
unfolding within
row zero n e x y t = row_here e zero x y (eqb→eq x y t)
row (suc k) n e x y t =
    elim (first_step-law n e k x y t) [
      | inl d ↦ row_here e (suc k) x y d
      | inr s ↦ row_next e k x s.to y s.edge (row k n e s.to y s.rest)
    ]
