-- Nothing can be shared by, or to, what is not there; so a count may stop at the last vertex.
use Rattle.std.proofs.Common.{◌≡◌, ℕ, zero, suc, ◌+◌, ◌-◌, ◌<◌, ◌≤◌, Bool, false, cond, T, refl, ap, ◌∙◌, subst, ap₂, inl, inr, add-zero, arith}
use Rattle.bits.proofs.Below.{count_same, count_add}
use Rattle.graph.specs.Graphs.{state}
use Rattle.graph.specs.declared.graph.Graph.{Graph}
use Rattle.graph.proofs.Sound.{holder_below, target_below, right_below}
use Rattle.model.specs.Bounded.{count_below}
use Rattle.model.specs.Spans.{Grants, itself, through}
use Rattle.model.specs.State.{is_subject}
use Rattle.model.specs.Sharing.{can_share, CanShare}
use Rattle.model.proofs.Tests.{is_false}
use Rattle.model.proofs.Readings.{subject_vertex, can_share-to}

module _ (g : Graph) where
  granted : (p x : ℕ) → T (is_subject (state g) p) → Grants (state g) p x → x < (state g).size
  granted p x a (itself e) = subst (λ z. z < (state g).size) e (subject_vertex (state g) p a)
  granted p x a (through u w t) = target_below g u 1 x t

  pub share_there : (x r y : ℕ) → CanShare (state g) x r y → (x < (state g).size) × ((r < 8) × (y < (state g).size))
  share_there x r y (inl t) = (holder_below g x r y t, (right_below g x r y t, target_below g x r y t))
  share_there x r y (inr c) =
      (granted c.first x c.initial.acts c.initial.grants, (right_below g c.holder r y c.holds, target_below g c.holder r y c.holds))

  pub not_there : (x r y : ℕ) → ((x < (state g).size) × ((r < 8) × (y < (state g).size)) → ⊥) → can_share (state g) x r y ≡ false
  not_there x r y n = is_false _ (λ t. n (share_there x r y (can_share-to (state g) x r y t)))

pub count_none : (n : ℕ) (f : ℕ → Bool) → ((k : ℕ) → f k ≡ false) → count_below n f ≡ 0
unfolding count_below
count_none zero f h = refl
count_none (suc n) f h = ap₂ (λ b m. cond b (suc m) m) (h n) (count_none n f h)

-- What is false from n on counts the same below n as below any m above it.
pub count_stops : (m n : ℕ) (f h : ℕ → Bool) → n ≤ m → ((k : ℕ) → f k ≡ h k) → ((k : ℕ) → n ≤ k → h k ≡ false) → count_below m f ≡ count_below n h
count_stops m n f h l e past =
    count_same m f h (λ k _. e k)
    ∙ ap (λ j. count_below j h) (omega arith)
    ∙ count_add n (m - n) h
    ∙ ap (λ c. count_below n h + c) (count_none (m - n) (λ k. h (n + k)) (λ k. past (n + k) (omega arith)))
    ∙ add-zero (count_below n h)
