-- Worked examples over four vertices, as rows of one table: p and q are subjects, c and d are objects.
-- Each test that comes near can share and is wrong has an example that refutes it.
use Rattle.std.specs.Prelude.{◌≡◌, ℕ, ◌<◌, Bool, true, false, not, ◌&&◌, ◌||◌, T, List, [], ◌∷◌, length, ◌==◌, nat_lt}
use mathlib.Core.List.{Memᴰ}
use Rattle.model.specs.State.{State, WellFormed, is_subject, take_right, grant_right}
use Rattle.model.specs.Rules.{after, all_applicable}
use Rattle.model.specs.Bounded.{only}
use Rattle.model.specs.Spans.{bridge}
use Rattle.model.specs.Sharing.{can_share, CanGet}
use Rattle.model.specs.Certificates.{Certificate, is_right, certificate_of}
use Rattle.model.specs.Restricted.{all_by}
use Rattle.model.specs.Certified.{Check}
use Rattle.model.specs.Near.{by_taking_alone, objects_acting, given_by_holder, right_by_takes}
use Rattle.model.specs.declared.Rule.{Rule}
use Rattle.model.specs.declared.Rule.TheVariants.{Take, Grant, Create}

abbrev pub p : ℕ
p = 0

abbrev pub q : ℕ
q = 1

abbrev pub c : ℕ
c = 2

abbrev pub d : ℕ
d = 3

-- The vertex that is created first.
abbrev pub new : ℕ
new = 4

abbrev pub t : ℕ
t = take_right

abbrev pub g : ℕ
g = grant_right

-- A right of one vertex to another.
pub data Edge : Type 0 where
  edge : (holder right target : ℕ) → Edge

unfoldable pub listed : List Edge → ℕ → ℕ → ℕ → Bool
listed [] x r y = false
listed (edge h k e ∷ more) x r y = (x == h && (r == k && y == e)) || listed more x r y

unfoldable pub inside : List Edge → Bool
inside [] = true
inside (edge h k e ∷ more) = (nat_lt h 4 && nat_lt e 4) && inside more

abbrev pub graph : List Edge → State
graph edges = record { size = 4; subject = λ v. nat_lt v 2; has = listed edges }

abbrev pub takes : ℕ → ℕ → ℕ → ℕ → Rule
takes x y r z = Take (record { who = x; from = y; right = r; to = z })

abbrev pub grants : ℕ → ℕ → ℕ → ℕ → Rule
grants x y r z = Grant (record { who = x; into = y; right = r; to = z })

-- x creates an object that it can take from and grant to.
abbrev pub creates : ℕ → Rule
creates x = Create (record { who = x; subject = false; rights = 3 })

unfoldable pub among : List ℕ → ℕ → Bool
among [] v = false
among (u ∷ more) v = v == u || among more v

abbrev pub sets : List ℕ → List ℕ → List ℕ → Certificate
sets J O I = record { inner = among J; out = among O; into = among I }

-- What a row of the table claims of its state. `overlooks`: a test that comes near says no where the answer is yes; `overstates`: the other way round.
-- `fools`: a check passes a certificate where the answer is yes.
pub data Claim : Type 0 where
  shared : (x r y : ℕ) → (rules : List Rule) → (count : ℕ) → Claim
  without : (h x r y : ℕ) → (rules : List Rule) → Claim
  never : (x r y : ℕ) → Claim
  bridged : (v w : ℕ) → Claim
  certified : (x r y : ℕ) → Certificate → Claim
  overlooks : (near : State → ℕ → ℕ → ℕ → Bool) → (x r y : ℕ) → Claim
  overstates : (near : State → ℕ → ℕ → ℕ → Bool) → (x r y : ℕ) → Claim
  fools : (check : Check) → (x r y : ℕ) → Certificate → Claim

-- x can share r to y, and these rules, so many, bring it about.
pub record Shared (s : State) (x r y : ℕ) (rules : List Rule) (count : ℕ) : Type 0 where
  pub answer : can_share s x r y ≡ true
  pub counted : length rules ≡ count
  pub applicable : T (all_applicable s rules)
  pub brings : T ((after s rules).has x r y)

-- The same by rules of which h, who has the right, applies none.
pub record Without (s : State) (h x r y : ℕ) (rules : List Rule) : Type 0 where
  pub holds : T (s.has h r y)
  pub shares : Shared s x r y rules (length rules)
  pub others : T (all_by (λ v. not (v == h)) rules)

-- x cannot share r to y, and the certificate of this no is right and has these sets.
pub record Certified (s : State) (x r y : ℕ) (k : Certificate) : Type 0 where
  pub answer : can_share s x r y ≡ false
  pub fits : T (is_right s (only x) r (only y) (certificate_of s (only x)))
  pub inner : (v : ℕ) → v < s.size → (certificate_of s (only x)).inner v ≡ k.inner v
  pub out : (v : ℕ) → v < s.size → (certificate_of s (only x)).out v ≡ k.out v
  pub into : (v : ℕ) → v < s.size → (certificate_of s (only x)).into v ≡ k.into v

abbrev pub Meaning : State → Claim → Type 0
Meaning s (shared x r y rules count) = Shared s x r y rules count
Meaning s (without h x r y rules) = Without s h x r y rules
Meaning s (never x r y) = can_share s x r y ≡ false
Meaning s (bridged v w) = bridge s v w ≡ true
Meaning s (certified x r y k) = Certified s x r y k
Meaning s (overlooks near x r y) = (near s x r y ≡ false) × (can_share s x r y ≡ true)
Meaning s (overstates near x r y) = (near s x r y ≡ true) × (can_share s x r y ≡ false)
Meaning s (fools check x r y k) = (check s (only x) r (only y) k ≡ true) × (can_share s x r y ≡ true)

pub record Example : Type 0 where
  pub edges : List Edge
  pub claim : Claim

abbrev pub example : List Edge → Claim → Example
example edges claim = record { edges = edges; claim = claim }

abbrev pub examples : List Example
examples =
    -- Taken along a path.
    example (edge p t c ∷ edge c 2 d ∷ []) (shared p 2 d (takes p c 2 d ∷ []) 1) ∷
    -- p creates, q takes the right to grant to it from p, and grants, p takes.
    example (edge q t p ∷ edge q 2 d ∷ [])
    (shared p 2 d (creates p ∷ takes q p g new ∷ grants q new 2 d ∷ takes p new 2 d ∷ []) 4) ∷
    -- Granted into an object, and taken from it.
    example (edge p t c ∷ edge q g c ∷ edge q 2 d ∷ []) (shared p 2 d (grants q c 2 d ∷ takes p c 2 d ∷ []) 2) ∷
    -- p can only grant to the object: it grants the right to grant to what it creates.
    example (edge p g c ∷ edge q t c ∷ edge q 2 d ∷ [])
    (shared p 2 d (creates p ∷ grants p c g new ∷ takes q c g new ∷ grants q new 2 d ∷ takes p new 2 d ∷ []) 5) ∷
    -- Take paths that meet at a grant are a bridge.
    example (edge p t c ∷ edge c g d ∷ edge q t d ∷ []) (bridged p q) ∷
    -- Nobody has a right to c, which alone has 2 to d: nobody else can. J has all who are connected with p, and O is without c.
    example (edge q t p ∷ edge c 2 d ∷ []) (shared c 2 d [] 0) ∷
    example (edge q t p ∷ edge c 2 d ∷ []) (never q 2 d) ∷
    example (edge q t p ∷ edge c 2 d ∷ []) (never d 2 d) ∷
    example (edge q t p ∷ edge c 2 d ∷ []) (bridged p q) ∷
    example (edge q t p ∷ edge c 2 d ∷ []) (certified p 2 d (sets (p ∷ q ∷ []) (p ∷ q ∷ []) (p ∷ q ∷ []))) ∷
    -- An object comes to have a right if a subject that spans initially to it is connected with one that spans terminally to a holder,
    example (edge q g c ∷ edge q t p ∷ edge p 2 d ∷ []) (shared c 2 d (takes q p 2 d ∷ grants q c 2 d ∷ []) 2) ∷
    -- and not if none is connected with such a one, nor if none spans initially to it.
    example (edge q g c ∷ edge p 2 d ∷ []) (never c 2 d) ∷
    example (edge p t c ∷ edge q t p ∷ edge q 2 d ∷ []) (never c 2 d) ∷
    -- Taking alone misses what is granted into an object for another.
    example (edge p t c ∷ edge q g c ∷ edge q 2 d ∷ []) (overlooks by_taking_alone p 2 d) ∷
    -- Were c a subject, it would grant: that says yes too often.
    example (edge c g p ∷ edge c 2 d ∷ []) (overstates objects_acting p 2 d) ∷
    -- The right is taken from an object, or from a subject that applies no rule.
    example (edge p t c ∷ edge c 2 d ∷ []) (overlooks given_by_holder p 2 d) ∷
    example (edge p t q ∷ edge q 2 d ∷ []) (without q p 2 d (takes p q 2 d ∷ [])) ∷
    -- This certificate breaks the conditions on grants alone, and what it says is false.
    example (edge p t c ∷ edge q g c ∷ edge q 2 d ∷ []) (fools right_by_takes p 2 d (sets (p ∷ []) (p ∷ c ∷ []) (p ∷ []))) ∷
    []

-- Each row of the table is of a well-formed state, and its claim holds.
abbrev pub WorkedExamples : Type 0
WorkedExamples = (e : Example) → Memᴰ e examples → WellFormed (graph e.edges) × Meaning (graph e.edges) e.claim

-- What an object that lacks a right needs: another subject that spans initially to it, connected with one that spans terminally to a holder.
pub record Granted (s : State) (x r y : ℕ) : Type 0 where
  pub way : CanGet s x r y
  pub another : way.first ≡ x → ⊥

-- An object has a right that it lacked after some row of rules only so.
abbrev pub ObjectsAreGranted : Type 0
ObjectsAreGranted =
    (s : State) → WellFormed s → (x r y : ℕ) → x < s.size → y < s.size → is_subject s x ≡ false → s.has x r y ≡ false →
    (rules : List Rule) → T ((after s rules).has x r y) → Granted s x r y
