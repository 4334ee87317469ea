-- Certificates: three sets of vertices that show that none of the holders X ever comes to have r to any of the targets Y.
-- The everyday case has one holder x and one target y, X = only x and Y = only y.
use Rattle.std.specs.Prelude.{ℕ, Bool, not, ◌&&◌, ◌||◌}
use Rattle.model.specs.State.{State, is_subject, take_right, grant_right}
use Rattle.model.specs.Bounded.{some_below, all_below, implies}
use Rattle.model.specs.Spans.{take_path, connected, initial_span, can_grant}

-- inner (J): subjects; out (O): what they span terminally to; into (I): what has a take path to where something could come to X, or to these.
pub record Certificate : Type 0 where
  pub inner : ℕ → Bool
  pub out : ℕ → Bool
  pub into : ℕ → Bool

-- 1. Neither one of X nor one of O has r to one of Y.
unfoldable pub lacks : State → (ℕ → Bool) → ℕ → (ℕ → Bool) → Certificate → ℕ → Bool
lacks s X r Y c p = implies (X p || c.out p) (all_below s.size (λ y. implies (Y y) (not (s.has p r y))))

-- Of a vertex alone: every J is a subject and in O and in I; every subject in O or I is in J; one of X that is a subject is in I.
unfoldable pub vertex_fits : State → (ℕ → Bool) → Certificate → ℕ → Bool
vertex_fits s X c p =
    implies (c.inner p) (is_subject s p && (c.out p && c.into p)) &&
    (implies (is_subject s p && (c.out p || c.into p)) (c.inner p) && implies (X p && is_subject s p) (c.into p))

-- Of a right of p to q. Take: what one of O has take to is in O, and what has take to one of I is in I.
-- Grant: whatever has grant to one of O, or one of O has grant to, is in I; and so is what has grant to one of X.
unfoldable pub take_fits : Certificate → ℕ → ℕ → Bool
take_fits c p q = implies (c.out p) (c.out q) && implies (c.into q) (c.into p)

unfoldable pub grant_fits : (ℕ → Bool) → Certificate → ℕ → ℕ → Bool
grant_fits X c p q = implies (c.out p) (c.into q) && (implies (c.out q) (c.into p) && implies (X q) (c.into p))

unfoldable pub right_fits : State → (ℕ → Bool) → Certificate → ℕ → ℕ → Bool
right_fits s X c p q = implies (s.has p take_right q) (take_fits c p q) && implies (s.has p grant_right q) (grant_fits X c p q)

unfoldable pub is_right : State → (ℕ → Bool) → ℕ → (ℕ → Bool) → Certificate → Bool
is_right s X r Y c =
    all_below s.size (lacks s X r Y c) &&
    (all_below s.size (vertex_fits s X c) && all_below s.size (λ p. all_below s.size (right_fits s X c p)))

-- The certificate of a no. J: all who are connected with some subject that spans initially to one of X.
unfoldable pub inner_of : State → (ℕ → Bool) → ℕ → Bool
inner_of s X q = is_subject s q && some_below s.size (λ x. X x && some_below s.size (λ p. initial_span s p x && connected s p q))

-- O: all to which a take path leads from one of J.
unfoldable pub out_of : State → (ℕ → Bool) → ℕ → Bool
out_of s X t = some_below s.size (λ q. inner_of s X q && take_path s q t)

-- Where something could come to one of X or of J: one of X that is a subject, what has grant to one of X, one of J,
-- and what has grant to, or is granted to by, one of O.
unfoldable pub entry : State → (ℕ → Bool) → ℕ → Bool
entry s X e =
    (X e && is_subject s e) ||
    (some_below s.size (λ x. X x && can_grant s e x) ||
    (inner_of s X e || some_below s.size (λ o. out_of s X o && (can_grant s e o || can_grant s o e))))

-- I: all from which a take path leads to such a place.
unfoldable pub into_of : State → (ℕ → Bool) → ℕ → Bool
into_of s X p = some_below s.size (λ e. entry s X e && take_path s p e)

abbrev pub certificate_of : State → (ℕ → Bool) → Certificate
certificate_of s X = record { inner = inner_of s X; out = out_of s X; into = into_of s X }
