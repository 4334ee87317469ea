-- A barrier that stands in a state stands after each rule and each row of rules; and holders that lack the right go on lacking it.
use Rattle.std.proofs.Common.{ℕ, ◌<◌, T, List, inl, inr, arith}
use Rattle.model.specs.State.{State, WellFormed}
use Rattle.model.specs.Rules.{removed, applicable, applied, after}
use Rattle.model.specs.declared.Rule.{Rule}
use Rattle.model.specs.declared.Rule.TheVariants.{Take, Grant, Create, Remove}
use Rattle.model.proofs.Barrier.{Barred, Lacking}
use Rattle.model.proofs.Steps.{removed_has, created_has, take_holds, grant_holds, row_keeps, applied_well}
use Rattle.model.proofs.Grown.{applied_size}
use Rattle.model.proofs.Kept.{fewer, take_kept, grant_kept, created_kept, take_lacking, grant_lacking}

-- Holders X and targets Y are vertices of a well-formed state, and a barrier stands between them.
pub record Fenced (X : ℕ → Type 0) (r : ℕ) (Y : ℕ → Type 0) (s : State) : Type 1 where
  pub well : WellFormed s
  pub holders : (x : ℕ) → X x → x < s.size
  pub targets : (y : ℕ) → Y y → y < s.size
  pub barred : Barred s X r Y

-- And the holders lack the right.
pub record Safe (X : ℕ → Type 0) (r : ℕ) (Y : ℕ → Type 0) (s : State) : Type 1 where
  pub fenced : Fenced X r Y s
  pub lacking : Lacking s X r Y

module _ (X : ℕ → Type 0) (r : ℕ) (Y : ℕ → Type 0) where
  applied_barred : (s : State) (a : Rule) → T (applicable s a) → Fenced X r Y s → Barred (applied s a) X r Y
  applied_barred s (Take t) h f =
      let b = f.barred in
      record {
        J = b.J;
        O = b.O;
        I = b.I;
        barrier =
            take_kept s X r Y b.J b.O b.I b.barrier t.who t.from t.right t.to
            (take_holds s t.who t.from t.right t.to h);
      }
  applied_barred s (Grant g) h f =
      let b = f.barred in
      record {
        J = b.J;
        O = b.O;
        I = b.I;
        barrier =
            grant_kept s X r Y b.J b.O b.I b.barrier g.who g.into g.right g.to
            (grant_holds s g.who g.into g.right g.to h);
      }
  applied_barred s (Create c) h f =
      let b = f.barred in
      record {
        J = _;
        O = _;
        I = _;
        barrier = created_kept s f.well X r Y b.J b.O b.I b.barrier f.holders f.targets c.who c.subject c.rights h;
      }
  applied_barred s (Remove d) h f =
      let b = f.barred in
      record {
        J = b.J;
        O = b.O;
        I = b.I;
        barrier =
            fewer s X r Y b.J b.O b.I b.barrier (removed d.who d.right d.to s) (λ p a. a)
            (removed_has d.who d.right d.to s);
      }

  applied_lacking : (s : State) (a : Rule) → T (applicable s a) → Fenced X r Y s → Lacking s X r Y → Lacking (applied s a) X r Y
  applied_lacking s (Take t) h f l =
      let b = f.barred in
      take_lacking s X r Y b.J b.O b.I b.barrier t.who t.from t.right t.to
      (take_holds s t.who t.from t.right t.to h) l
  applied_lacking s (Grant g) h f l =
      let b = f.barred in
      grant_lacking s X r Y b.J b.O b.I b.barrier g.who g.into g.right g.to
      (grant_holds s g.who g.into g.right g.to h) l
  applied_lacking s (Create c) h f l =
      λ x y hx hy t.
      elim (created_has c.who c.subject c.rights s x r y t) [ inl e ↦ omega (arith, e.1, f.targets y hy) | inr u ↦ l x y hx hy u ]
  applied_lacking s (Remove d) h f l = λ x y hx hy t. l x y hx hy (removed_has d.who d.right d.to s x r y t)

  applied_fenced : (s : State) (a : Rule) → T (applicable s a) → Fenced X r Y s → Fenced X r Y (applied s a)
  applied_fenced s a h f =
      record {
        well = applied_well s a h f.well;
        holders = λ x hx. omega (arith, f.holders x hx, applied_size s a);
        targets = λ y hy. omega (arith, f.targets y hy, applied_size s a);
        barred = applied_barred s a h f;
      }

  applied_safe : (s : State) (a : Rule) → T (applicable s a) → Safe X r Y s → Safe X r Y (applied s a)
  applied_safe s a h f = record { fenced = applied_fenced s a h f.fenced; lacking = applied_lacking s a h f.fenced f.lacking }

  pub after_fenced : (rules : List Rule) (s : State) → Fenced X r Y s → Fenced X r Y (after s rules)
  after_fenced = row_keeps (Fenced X r Y) applied_fenced

  pub after_safe : (rules : List Rule) (s : State) → Safe X r Y s → Safe X r Y (after s rules)
  after_safe = row_keeps (Safe X r Y) applied_safe
