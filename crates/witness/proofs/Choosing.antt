-- The sets among which vertices are chosen, as the tests of the exact witness.
use Rattle.std.proofs.Common.{◌≡◌, ℕ, ◌<◌, Bool, true, false, ◌&&◌, ◌||◌, T, sym, refl, ap, ◌∙◌, subst, ap₂, eqb→eq}
use mathlib.Core.Path.{fun_ext}
use lib.Dec.{eqb_refl}
use Rattle.model.specs.State.{State, WellFormed, is_subject, grant_right}
use Rattle.model.specs.Bounded.{some_below, only}
use Rattle.model.specs.Spans.{take_path, bridge, can_grant, connected, initial_span, terminal_span, Grants, itself, through, InitialSpan}
use Rattle.model.specs.Certificates.{inner_of, out_of}
use Rattle.model.specs.Sharing.{can_get}
use Rattle.model.specs.Exact.{meeting, near_end, reaching, holder_for, last_for, lowest}
use Rattle.model.proofs.ExactChoices.{lowest_same}
use Rattle.model.proofs.Tests.{parts, same, some_both, both_from, some_below-law, some_from}
use Rattle.model.proofs.Least.{get_by_out}
use Rattle.model.proofs.Readings.{subject_vertex, initial_span-to, can_get-to, bridge_to, bridge_from}
use Rattle.model.proofs.Symmetry.{turn_bridge}
use Rattle.spans.specs.Paths.{path_from}
use Rattle.witness.specs.Beside.{beside_some}
use Rattle.witness.proofs.Vertices.{path_below}

or_comm : (a b : Bool) → (a || b) ≡ (b || a)
or_comm true true = refl
or_comm true false = refl
or_comm false true = refl
or_comm false false = refl

some_same : (n : ℕ) (f g : ℕ → Bool) → ((k : ℕ) → k < n → f k ≡ g k) → some_below n f ≡ some_below n g
some_same n f g e = same _ _ (λ t. over f g e t) (λ t. over g f (λ k l. sym (e k l)) t)
  where
    over : (f g : ℕ → Bool) → ((k : ℕ) → k < n → f k ≡ g k) → T (some_below n f) → T (some_below n g)
    over f g e t = let k = some_below-law n f t in some_from n g k.at k.below (subst T (e k.at k.below) k.passes)

module _ (s : State) (wf : WellFormed s) where
  pub bridge_both_ways : (p q : ℕ) → bridge s p q ≡ bridge s q p
  bridge_both_ways p q = same _ _ (turned p q) (turned q p)
    where
      turned : (a b : ℕ) → T (bridge s a b) → T (bridge s b a)
      turned a b t = bridge_from s wf b a (turn_bridge s a b (bridge_to s a b t))

  -- Where take paths from p lead to, and some more.
  pub on_path : (p : ℕ) (f : ℕ → Bool) → lowest s.size (λ u. path_from s p u && f u) ≡ lowest s.size (λ u. take_path s p u && f u)
  on_path p f = lowest_same s.size _ _ (λ u l. ap (λ b. b && f u) (path_below s wf p u l))

  pub near_is : (p q : ℕ) → lowest s.size (λ u. take_path s p u && beside_some s (path_from s q) u) ≡ near_end s p q
  unfolding beside_some
  near_is p q = lowest_same s.size _ _ (λ u _. ap (λ b. take_path s p u && b) (meets u))
    where
      meets : (u : ℕ) → beside_some s (path_from s q) u ≡ some_below s.size (meeting s q u)
      meets u =
          some_same s.size _ (meeting s q u) (λ v l. ap₂ (λ a b. a && b) (path_below s wf q v l) (or_comm (can_grant s v u) (can_grant s u v)))

  -- Who is inside the barrier round x is connected with one that spans initially to x.
  abbrev joined : ℕ → ℕ → Bool
  joined x q = some_below s.size (λ p. initial_span s p x && connected s p q)

  spanned_vertex : (p x : ℕ) → InitialSpan s p x → x < s.size
  spanned_vertex p x i = by i.grants
    where
      by : Grants s p x → x < s.size
      by (itself e) = subst (λ z. z < s.size) e (subject_vertex s p i.acts)
      by (through u w g) = wf.target u grant_right x g

  inner_is : (x q : ℕ) → inner_of s (only x) q ≡ (is_subject s q && joined x q)
  unfolding inner_of
  inner_is x q = ap (λ b. is_subject s q && b) (same _ _ to from)
    where
      to : T (some_below s.size (λ z. only x z && joined z q)) → T (joined x q)
      to t =
          let k = some_both s.size (only x) (λ z. joined z q) t in
          subst (λ z. T (joined z q)) (eqb→eq k.at x k.one) k.other

      from : T (joined x q) → T (some_below s.size (λ z. only x z && joined z q))
      from t =
          let k = some_both s.size (λ p. initial_span s p x) (λ p. connected s p q) t in
          both_from s.size (only x) (λ z. joined z q) x (spanned_vertex k.at x (initial_span-to s k.at x k.one)) (eqb_refl x) t

  reach_is : (x t q : ℕ) → (inner_of s (only x) q && take_path s q t) ≡ reaching s x t q
  unfolding terminal_span
  reach_is x t q = ap (λ b. b && take_path s q t) (inner_is x q) ∙ law (is_subject s q) (joined x q) (take_path s q t)
    where
      law : (a b c : Bool) → ((a && b) && c) ≡ ((a && c) && b)
      law true true true = refl
      law true true false = refl
      law true false true = refl
      law true false false = refl
      law false b c = refl

  -- x can get what something outside its barrier, where the barrier leads to, has.
  pub get_is : (x r y : ℕ) → can_get s x r y ≡ some_below s.size (λ t. s.has t r y && out_of s (only x) t)
  unfolding out_of
  get_is x r y = same _ _ (λ t. subst T (here (of_get t)) t) from
    where
      and_comm : (a b : Bool) → (a && b) ≡ (b && a)
      and_comm true true = refl
      and_comm true false = refl
      and_comm false true = refl
      and_comm false false = refl

      here : x < s.size → can_get s x r y ≡ some_below s.size (λ t. s.has t r y && out_of s (only x) t)
      here l = get_by_out s wf x r y l ∙ ap (some_below s.size) (fun_ext (λ t. and_comm (out_of s (only x) t) (s.has t r y)))

      of_get : T (can_get s x r y) → x < s.size
      of_get t = let k = can_get-to s x r y t in spanned_vertex k.first x k.initial

      of_out : (t : ℕ) → T (out_of s (only x) t) → x < s.size
      of_out t o =
          let k = some_both s.size (inner_of s (only x)) (λ q. take_path s q t) o in
          let j = some_below-law s.size _ (parts (is_subject s k.at) _ (subst T (inner_is x k.at) k.one)).1 in
          spanned_vertex j.at x (initial_span-to s j.at x (parts (initial_span s j.at x) _ j.passes).0)

      from : T (some_below s.size (λ t. s.has t r y && out_of s (only x) t)) → T (can_get s x r y)
      from h =
          let k = some_both s.size (λ t. s.has t r y) (out_of s (only x)) h in
          subst T (sym (here (of_out k.at k.other))) h

  pub holder_is : (x r y : ℕ) → lowest s.size (λ t. s.has t r y && out_of s (only x) t) ≡ holder_for s x r y
  unfolding out_of
  holder_is x r y =
      lowest_same s.size _ _ (λ t _. ap (λ f. s.has t r y && some_below s.size f) (fun_ext (reach_is x t)))

  pub last_is : (x t : ℕ) → lowest s.size (λ q. terminal_span s q t && inner_of s (only x) q) ≡ last_for s x t
  unfolding terminal_span
  last_is x t =
      lowest_same s.size _ _ (λ q _. ap (λ b. terminal_span s q t && b) (inner_is x q) ∙ law (is_subject s q) (take_path s q t) (joined x q))
    where
      law : (a b c : Bool) → ((a && b) && (a && c)) ≡ ((a && b) && c)
      law true b c = refl
      law false b c = refl
