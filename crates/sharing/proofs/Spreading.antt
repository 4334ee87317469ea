-- What the islands bring: of those that were passed, all that can be got through them.
use Rattle.std.proofs.Common.{◌≡◌, ℕ, ◌/◌, ◌%◌, Bool, true, false, not, ◌&&◌, ◌||◌, T, sym, refl, subst, inl, inr}
use lib.Dec.{not_T}
use Rattle.model.specs.State.{State, WellFormed, is_subject, grant_right}
use Rattle.model.specs.Bounded.{only}
use Rattle.model.specs.Closure.{here}
use Rattle.model.specs.Spans.{Connected, Grants, itself, through, InitialSpan}
use Rattle.model.specs.Sharing.{can_share, CanShare, CanGet}
use Rattle.model.specs.Certificates.{inner_of, out_of}
use Rattle.model.proofs.Tests.{both, parts, cases, left as left_of, right, decide, same, SomeBoth, some_both, both_from}
use Rattle.model.proofs.Stars.{append}
use Rattle.model.proofs.Readings.{can_share-to, can_share-from}
use Rattle.model.proofs.Symmetry.{connected_turns}
use Rattle.model.proofs.Barrier.{Inner, Out, inner_subject}
use Rattle.model.proofs.Right.{In}
use Rattle.model.proofs.Sets.{inner_of-to, inner_of-from, out_of-to, out_of-from}
use Rattle.spans.proofs.Islands.{inner_connected, connected_inner}
use Rattle.sharing.specs.Filling.{lacking, of_links}
use Rattle.sharing.specs.Table.{gets, has_row, shares_row, held_by, spreads}

-- The subjects in `rest` were not passed yet, and who is in `left` may lack what it has itself of the rights that are no links.
pub record Spreading (s : State) (cells : ℕ → ℕ → Bool) (rest left : ℕ → Bool) : Type 0 where
  pub sound : (i x : ℕ) → T (cells i x) → T (shares_row s i x)
  pub held : (i x : ℕ) → T (has_row s i x) → T (lacking s left cells i x)
  pub passed : (i x : ℕ) (g : CanGet s x (i % 8) (i / 8)) → (T (rest g.first) → ⊥) → T (cells i x)

module _ (s : State) (wf : WellFormed s) where
  module _ (l : ℕ) (acts : T (is_subject s l)) where
    -- Two of an island are connected.
    of_island : (p q : ℕ) → Inner s (In s.size (only l)) p → Inner s (In s.size (only l)) q → Connected s p q
    of_island p q a b = append (connected_turns s (inner_connected s wf l acts p a)) (inner_connected s wf l acts q b)

    further : (p q : ℕ) → Inner s (In s.size (only l)) p → Connected s p q → Inner s (In s.size (only l)) q
    further p q h v = record { holder = h.holder; first = h.first; is = h.is; initial = h.initial; joined = append h.joined v }

    pub own_island : T (inner_of s (only l) l)
    own_island = inner_of-from s wf (only l) l (connected_inner s wf l acts l here)

    module _ (inner out : ℕ → Bool) (e : (p : ℕ) → inner p ≡ inner_of s (only l) p) (f : (p : ℕ) → out p ≡ out_of s (only l) p) where
      in_inner : (p : ℕ) → T (inner p) → Inner s (In s.size (only l)) p
      in_inner p t = inner_of-to s (only l) p (subst T (e p) t)

      inner_in : (p : ℕ) → Inner s (In s.size (only l)) p → T (inner p)
      inner_in p h = subst T (sym (e p)) (inner_of-from s wf (only l) p h)

      out_in : (t : ℕ) → Out s (In s.size (only l)) t → T (out t)
      out_in t h = subst T (sym (f t)) (out_of-from s wf (only l) t h)

      holder : (r y : ℕ) → T (held_by s out r y) → SomeBoth s.size out (λ t. s.has t r y)
      unfolding held_by
      holder r y t = some_both s.size out _ t

      held_from : (r y t : ℕ) → Out s (In s.size (only l)) t → T (s.has t r y) → T (held_by s out r y)
      unfolding held_by
      held_from r y t o h = both_from s.size out _ t (wf.holder t r y h) (out_in t o) h

      reached : (t : ℕ) → T (out t) → Out s (In s.size (only l)) t
      reached t h = out_of-to s (only l) t (subst T (f t) h)

      -- What the island spreads can be got.
      got : (x r y p : ℕ) → InitialSpan s p x → Inner s (In s.size (only l)) p → SomeBoth s.size out (λ t. s.has t r y) → CanGet s x r y
      got x r y p i h k =
          let o = reached k.at k.one in
          record {
            holder = k.at;
            first = p;
            last = o.first;
            holds = k.other;
            initial = i;
            terminal = record { acts = inner_subject s _ o.first o.inner; takes = o.takes };
            joined = of_island p o.first h o.inner;
          }

      pub spreads_get : (i x : ℕ) → T (spreads s inner out i x) → CanGet s x (i % 8) (i / 8)
      unfolding spreads gets
      spreads_get i x t =
          let u = parts (inner x || held_by s out grant_right x) _ t in
          elim (cases (inner x) _ u.0) [
            | inl h ↦
                let j = in_inner x h in
                got x (i % 8) (i / 8) x (record { acts = inner_subject s _ x j; grants = itself refl }) j (holder (i % 8) (i / 8) u.1)
            | inr h ↦
                let k = holder grant_right x h in
                let o = reached k.at k.one in
                got x (i % 8) (i / 8) o.first
                (record { acts = inner_subject s _ o.first o.inner; grants = through k.at o.takes k.other }) o.inner (holder (i % 8) (i / 8) u.1)
          ]

      granted : (p x : ℕ) → Inner s (In s.size (only l)) p → Grants s p x → T (inner x || held_by s out grant_right x)
      granted p x h (itself d) = left_of (inner x) _ (subst (λ z. T (inner z)) d (inner_in p h))
      granted p x h (through u w g) = right (inner x) _ (held_from grant_right x u (record { first = p; inner = h; takes = w }) g)

      -- What can be got by way of one of the island, it spreads.
      pub get_spreads : (i x : ℕ) (g : CanGet s x (i % 8) (i / 8)) → T (inner g.first) → T (spreads s inner out i x)
      unfolding spreads gets
      get_spreads i x g t =
          let h = in_inner g.first t in
          both (inner x || held_by s out grant_right x) _ (granted g.first x h g.initial.grants)
          (held_from (i % 8) (i / 8) g.holder
          (record { first = g.last; inner = further g.first g.last h g.joined; takes = g.terminal.takes }) g.holds)

      -- Who gets what the island brings, and is where that reaches, gets with it what it has itself.
      pub own_spread : (i x : ℕ) → T (gets s inner out x) → T (out x) → T (has_row s i x) → T (spreads s inner out i x)
      unfolding spreads has_row
      own_spread i x t o h = both (gets s inner out x) _ t (held_from (i % 8) (i / 8) x (reached x o) h)

  -- What has a row of a link has it, and of the others those that are left.
  none_lack : (b c l h : Bool) → c ≡ (b && h) → T l → T h → T (c || ((not b && l) && h))
  none_lack true c l h e t u = left_of c _ (subst T (sym e) u)
  none_lack false c l h e t u = right c _ (both l h t u)

  pub spreading_none :
      (cells : ℕ → ℕ → Bool) (rest left : ℕ → Bool) → ((i x : ℕ) → cells i x ≡ (of_links i && has_row s i x)) → ((p : ℕ) → rest p ≡ is_subject s p) →
      ((i x : ℕ) → T (has_row s i x) → T (left x)) → Spreading s cells rest left
  unfolding shares_row has_row
  spreading_none cells rest left e f all =
      record {
        sound = λ i x t. can_share-from s wf x (i % 8) (i / 8) (inl (parts (of_links i) _ (subst T (e i x) t)).1);
        held = λ i x t. none_lack (of_links i) (cells i x) (left x) (has_row s i x) (e i x) (all i x t) t;
        passed = λ i x g none. absurd (none (subst T (sym (f g.first)) g.initial.acts));
      }

  -- The cells grew, and what isn't left any more was brought.
  still_lack : (c n b l m h : Bool) → (T c → T n) → (T l → (T m → ⊥) → T n) → T h → T (c || ((b && l) && h)) → T (n || ((b && m) && h))
  still_lack c n b l m h old new u t =
      elim (cases c _ t) [
        | inl k ↦ left_of n _ (old k)
        | inr k ↦
            let a = parts (b && l) h k in
            let d = parts b l a.0 in
            elim (decide m) [
              | inl v ↦ right n _ (both (b && m) h (both b m d.0 v) u)
              | inr v ↦ left_of n _ (new d.1 v)
            ]
      ]

  pub spreading_more :
      (cells next : ℕ → ℕ → Bool) (rest rest' left left' inner out : ℕ → Bool) (l : ℕ) → T (is_subject s l) →
      ((p : ℕ) → inner p ≡ inner_of s (only l) p) → ((p : ℕ) → out p ≡ out_of s (only l) p) →
      ((p : ℕ) → rest' p ≡ (rest p && not (inner p))) →
      ((x : ℕ) → left' x ≡ (left x && not (gets s inner out x && out x))) →
      ((i x : ℕ) → next i x ≡ (cells i x || spreads s inner out i x)) → Spreading s cells rest left → Spreading s next rest' left'
  unfolding shares_row
  spreading_more cells next rest rest' left left' inner out l a e f d lost step inv =
      record {
        sound = λ i x t.
            elim (cases (cells i x) _ (subst T (step i x) t)) [
              | inl u ↦ inv.sound i x u
              | inr u ↦ can_share-from s wf x (i % 8) (i / 8) (inr (spreads_get l a inner out e f i x u))
            ];
        held = λ i x t.
            still_lack (cells i x) (next i x) (not (of_links i)) (left x) (left' x) (has_row s i x) (old i x)
            (λ u v. let k = brought x u v in new i x (own_spread l a inner out e f i x k.0 k.1 t)) t (inv.held i x t);
        passed = λ i x g none.
            elim (decide (inner g.first)) [
              | inl t ↦ new i x (get_spreads l a inner out e f i x g t)
              | inr n ↦ old i x (inv.passed i x g (λ t. none (subst T (sym (d g.first)) (both (rest g.first) _ t (not_T (inner g.first) n)))))
            ];
      }
    where
      old : (i x : ℕ) → T (cells i x) → T (next i x)
      old i x t = subst T (sym (step i x)) (left_of (cells i x) _ t)

      new : (i x : ℕ) → T (spreads s inner out i x) → T (next i x)
      new i x t = subst T (sym (step i x)) (right (cells i x) _ t)

      brought : (x : ℕ) → T (left x) → (T (left' x) → ⊥) → T (gets s inner out x) × T (out x)
      brought x u v =
          elim (decide (gets s inner out x && out x)) [
            | inl t ↦ parts (gets s inner out x) (out x) t
            | inr n ↦ absurd (v (subst T (sym (lost x)) (both (left x) _ u (not_T (gets s inner out x && out x) n))))
          ]

  -- What is lacking then is all that is.
  pub spreading_all :
      (cells : ℕ → ℕ → Bool) (rest left : ℕ → Bool) → ((p : ℕ) → rest p ≡ false) → Spreading s cells rest left → (i x : ℕ) → lacking s left cells i x ≡ shares_row s i x
  unfolding shares_row has_row
  spreading_all cells rest left none inv i x = same _ _ there (λ t. back (can_share-to s x (i % 8) (i / 8) t))
    where
      there : T (lacking s left cells i x) → T (can_share s x (i % 8) (i / 8))
      there t =
          elim (cases (cells i x) _ t) [
            | inl u ↦ inv.sound i x u
            | inr u ↦ can_share-from s wf x (i % 8) (i / 8) (inl (parts (not (of_links i) && left x) _ u).1)
          ]

      back : CanShare s x (i % 8) (i / 8) → T (lacking s left cells i x)
      back (inl t) = inv.held i x t
      back (inr g) = left_of (cells i x) _ (inv.passed i x g (λ t. subst T (none g.first) t))

  -- To add to that what anybody has itself changes nothing.
  pub lacking_more :
      (cells : ℕ → ℕ → Bool) (left : ℕ → Bool) (i x : ℕ) → lacking s left cells i x ≡ shares_row s i x → (cells i x || (not (of_links i) && has_row s i x)) ≡ shares_row s i x
  unfolding shares_row has_row
  lacking_more cells left i x e =
      same _ _ to (λ t. from (of_links i) (cells i x) (left x) (s.has x (i % 8) (i / 8)) (subst T (sym e) t))
    where
      to : T (cells i x || (not (of_links i) && s.has x (i % 8) (i / 8))) → T (can_share s x (i % 8) (i / 8))
      to t =
          elim (cases (cells i x) _ t) [
            | inl u ↦ subst T e (left_of (cells i x) _ u)
            | inr u ↦ can_share-from s wf x (i % 8) (i / 8) (inl (parts (not (of_links i)) _ u).1)
          ]

      from : (b c l h : Bool) → T (c || ((not b && l) && h)) → T (c || (not b && h))
      from b true l h t = tt
      from true false l h t = t
      from false false l h t = (parts l h t).1
