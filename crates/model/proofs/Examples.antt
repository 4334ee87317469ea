-- The worked examples: each claim as a test, what the test says, and the tests of the whole table computed.
use Rattle.std.proofs.Common.{◌≡◌, ℕ, ◌<◌, Bool, true, false, not, ◌&&◌, T, eqb, ltb, List, [], ◌∷◌, length, sym, refl, subst, inl, inr, eqb→eq, ltb→lt}
use mathlib.Core.List.{Memᴰ}
use Rattle.model.specs.Bit.{bit}
use Rattle.model.specs.State.{State, WellFormed}
use Rattle.model.specs.Rules.{after, all_applicable}
use Rattle.model.specs.Bounded.{some_below, all_below, only}
use Rattle.model.specs.Closure.{within}
use Rattle.model.specs.Spans.{take_path, meet, bridge, connected, initial_span, terminal_span}
use Rattle.model.specs.Sharing.{can_get, can_share}
use Rattle.model.specs.Certificates.{Certificate, lacks, vertex_fits, take_fits, grant_fits, right_fits, is_right, inner_of, out_of, entry, into_of, certificate_of}
use Rattle.model.specs.Restricted.{all_by}
use Rattle.model.specs.declared.Rule.{Rule}
use Rattle.model.specs.Near.{by_taking_alone, objects_acting, given_by_holder, right_by_takes, Refuted, Fooled}
use Rattle.model.specs.Examples.{p, q, c, d, t, g, Edge, edge, listed, inside, graph, among, sets, Claim, shared, without, never, bridged, certified}
use Rattle.model.specs.Examples.{overlooks, overstates, fools, Shared, Certified, Meaning, Example, examples, WorkedExamples}
use Rattle.model.proofs.Tests.{parts, cases, all_at}

-- Two answers are the same.
unfoldable agree : Bool → Bool → Bool
agree true b = b
agree false b = not b

agree_same : (a b : Bool) → T (agree a b) → a ≡ b
unfolding agree
agree_same true true t = refl
agree_same true false t = absurd t
agree_same false true t = absurd t
agree_same false false t = refl

agree_both : (a b c d : Bool) → T (agree a b && agree c d) → (a ≡ b) × (c ≡ d)
agree_both a b c d t = let h = parts (agree a b) (agree c d) t in (agree_same a b h.0, agree_same c d h.1)

-- The claims as tests.
unfoldable shared_test : State → ℕ → ℕ → ℕ → List Rule → ℕ → Bool
shared_test s x r y rules count =
    agree (can_share s x r y) true && (eqb (length rules) count && (all_applicable s rules && (after s rules).has x r y))

unfoldable certified_test : State → ℕ → ℕ → ℕ → Certificate → Bool
certified_test s x r y k =
    agree (can_share s x r y) false &&
    (is_right s (only x) r (only y) (certificate_of s (only x)) &&
    (all_below s.size (λ v. agree ((certificate_of s (only x)).inner v) (k.inner v)) &&
    (all_below s.size (λ v. agree ((certificate_of s (only x)).out v) (k.out v)) &&
    all_below s.size (λ v. agree ((certificate_of s (only x)).into v) (k.into v)))))

unfoldable test : State → Claim → Bool
test s (shared x r y rules count) = shared_test s x r y rules count
test s (without h x r y rules) = s.has h r y && (shared_test s x r y rules (length rules) && all_by (λ v. not (eqb v h)) rules)
test s (never x r y) = agree (can_share s x r y) false
test s (bridged v w) = agree (bridge s v w) true
test s (certified x r y k) = certified_test s x r y k
test s (overlooks near x r y) = agree (near s x r y) false && agree (can_share s x r y) true
test s (overstates near x r y) = agree (near s x r y) true && agree (can_share s x r y) false
test s (fools check x r y k) = agree (check s (only x) r (only y) k) true && agree (can_share s x r y) true

-- What they say.
shared_means : (s : State) (x r y : ℕ) (rules : List Rule) (count : ℕ) → T (shared_test s x r y rules count) → Shared s x r y rules count
unfolding shared_test
shared_means s x r y rules count t =
    let h = parts (agree (can_share s x r y) true) _ t in
    let i = parts (eqb (length rules) count) _ h.1 in
    let j = parts (all_applicable s rules) _ i.1 in
    record { answer = agree_same _ _ h.0; counted = eqb→eq _ _ i.0; applicable = j.0; brings = j.1 }

certified_means : (s : State) (x r y : ℕ) (k : Certificate) → T (certified_test s x r y k) → Certified s x r y k
unfolding certified_test
certified_means s x r y k t =
    let h = parts (agree (can_share s x r y) false) _ t in
    let i = parts (is_right s (only x) r (only y) (certificate_of s (only x))) _ h.1 in
    let j = parts (all_below s.size (λ v. agree ((certificate_of s (only x)).inner v) (k.inner v))) _ i.1 in
    let l = parts (all_below s.size (λ v. agree ((certificate_of s (only x)).out v) (k.out v))) _ j.1 in
    record {
      answer = agree_same _ _ h.0;
      fits = i.0;
      inner = λ v b. agree_same _ _ (all_at s.size _ j.0 v b);
      out = λ v b. agree_same _ _ (all_at s.size _ l.0 v b);
      into = λ v b. agree_same _ _ (all_at s.size _ l.1 v b);
    }

means : (s : State) (k : Claim) → T (test s k) → Meaning s k
unfolding test
means s (shared x r y rules count) t = shared_means s x r y rules count t
means s (without h x r y rules) t =
    let i = parts (s.has h r y) _ t in
    let j = parts (shared_test s x r y rules (length rules)) _ i.1 in
    record { holds = i.0; shares = shared_means s x r y rules (length rules) j.0; others = j.1 }
means s (never x r y) t = agree_same _ _ t
means s (bridged v w) t = agree_same _ _ t
means s (certified x r y k) t = certified_means s x r y k t
means s (overlooks near x r y) t = agree_both _ _ _ _ t
means s (overstates near x r y) t = agree_both _ _ _ _ t
means s (fools check x r y k) t = agree_both _ _ _ _ t

-- A graph whose listed rights are between the four vertices is well-formed.
listed_inside : (edges : List Edge) (x r y : ℕ) → T (inside edges) → T (listed edges x r y) → (x < 4) × (y < 4)
unfolding listed inside
listed_inside [] x r y i t = absurd t
listed_inside (edge h k e ∷ more) x r y i t =
    let f = parts (ltb h 4 && ltb e 4) (inside more) i in
    elim (cases (eqb x h && (eqb r k && eqb y e)) (listed more x r y) t) [
      | inl m ↦
          let a = parts (ltb h 4) (ltb e 4) f.0 in
          let b = parts (eqb x h) _ m in
          let l = parts (eqb r k) _ b.1 in
          (subst (λ v. v < 4) (sym (eqb→eq x h b.0)) (ltb→lt h 4 a.0), subst (λ v. v < 4) (sym (eqb→eq y e l.1)) (ltb→lt e 4 a.1))
      | inr m ↦ listed_inside more x r y f.1 m
    ]

graph_well_formed : (edges : List Edge) → T (inside edges) → WellFormed (graph edges)
graph_well_formed edges i =
    record { holder = λ x r y t. (listed_inside edges x r y i t).0; target = λ x r y t. (listed_inside edges x r y i t).1 }

-- The whole table.
unfoldable holds : List Example → Bool
holds [] = true
holds (e ∷ more) = (inside e.edges && test (graph e.edges) e.claim) && holds more

holds_at : (es : List Example) → T (holds es) → (e : Example) → Memᴰ e es → T (inside e.edges && test (graph e.edges) e.claim)
unfolding holds
holds_at [] t e m = elim m [ ]
holds_at (f ∷ more) t e (Memᴰ.head i) = subst (λ v. T (inside v.edges && test (graph v.edges) v.claim)) (sym i) (parts _ (holds more) t).0
holds_at (f ∷ more) t e (Memᴰ.tail m) = holds_at more (parts _ (holds more) t).1 e m

table_holds : T (holds examples)
unfolding holds test shared_test certified_test agree inside listed among by_taking_alone objects_acting given_by_holder right_by_takes
    all_by after all_applicable bit some_below all_below within take_path meet bridge connected initial_span terminal_span can_get can_share
    lacks vertex_fits take_fits grant_fits right_fits is_right inner_of out_of entry into_of
table_holds = tt

pub worked_examples : WorkedExamples
worked_examples e m =
    let t = parts (inside e.edges) (test (graph e.edges) e.claim) (holds_at examples table_holds e m) in
    (graph_well_formed e.edges t.0, means (graph e.edges) e.claim t.1)

-- What comes near and is wrong: a row of the table refutes it.
refuted : (near : State → ℕ → ℕ → ℕ → Bool) (edges : List Edge) (x r y : ℕ) → T (inside edges) →
    T (agree (near (graph edges) x r y) (not (can_share (graph edges) x r y))) → Refuted near
refuted near edges x r y i t =
    record { state = graph edges; x = x; r = r; y = y; well_formed = graph_well_formed edges i; differs = agree_same _ _ t }

-- Granted into an object for another.
pub taking_alone_refuted : Refuted by_taking_alone
unfolding agree inside listed by_taking_alone some_below within take_path meet bridge connected initial_span terminal_span can_get can_share
taking_alone_refuted = refuted by_taking_alone (edge p t c ∷ edge q g c ∷ edge q 2 d ∷ []) p 2 d tt tt

-- An object that would grant.
pub objects_acting_refuted : Refuted objects_acting
unfolding agree inside listed objects_acting some_below within take_path meet bridge connected initial_span terminal_span can_get can_share
objects_acting_refuted = refuted objects_acting (edge c g p ∷ edge c 2 d ∷ []) p 2 d tt tt

-- Taken from its holder.
pub given_by_holder_refuted : Refuted given_by_holder
unfolding agree inside listed given_by_holder some_below within take_path meet bridge connected initial_span terminal_span can_get can_share
given_by_holder_refuted = refuted given_by_holder (edge p t c ∷ edge c 2 d ∷ []) p 2 d tt tt

pub by_takes_fooled : Fooled right_by_takes
unfolding inside listed among right_by_takes lacks vertex_fits take_fits some_below all_below within take_path meet bridge connected initial_span terminal_span can_get can_share
by_takes_fooled =
    record {
      state = graph (edge p t c ∷ edge q g c ∷ edge q 2 d ∷ []);
      x = p;
      r = 2;
      y = d;
      certificate = sets (p ∷ []) (p ∷ c ∷ []) (p ∷ []);
      well_formed = graph_well_formed (edge p t c ∷ edge q g c ∷ edge q 2 d ∷ []) tt;
      passes = tt;
      shared = tt;
    }
