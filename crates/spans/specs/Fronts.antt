-- One side of a search, and how it moves on.
use Rattle.std.specs.Prelude.{◌≡◌, ℕ, Bool, true, not, ◌&&◌, ◌||◌, ◌==◌}
use Rattle.bits.specs.Sets.{among}
use Rattle.model.specs.Bounded.{count_below}
use Rattle.spans.specs.declared.front.Front.{Front}

-- The set f was found too.
pub record Grown {w : ℕ} (a b : Front w) (f : ℕ → Bool) : Type 0 where
  pub found : (k : ℕ) → among w b.found k ≡ (among w a.found k || f k)
  pub left : (k : ℕ) → among w b.left k ≡ (among w a.left k || (f k && not (among w a.found k)))

-- v was left, and is not any more.
pub record Taken {w : ℕ} (a b : Front w) (v : ℕ) : Type 0 where
  pub there : among w a.left v ≡ true
  pub left : (k : ℕ) → among w b.left k ≡ (not (k == v) && among w a.left k)
  pub found : b.found ≡ a.found

-- Was k looked at? It was found, and is not left.
abbrev pub looked_at : {w : ℕ} → Front w → ℕ → Bool
looked_at {w} a k = among w a.found k && not (among w a.left k)

-- How many of the numbers of vertices were not looked at.
abbrev pub unseen : {w : ℕ} → Front w → ℕ
unseen a = count_below 256 (λ k. not (looked_at a k))
