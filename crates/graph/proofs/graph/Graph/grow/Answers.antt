use Rattle.std.proofs.Common.{◌≡◌, ℕ, suc, ◌+◌, ◌<◌, Bool, List, T, eqb, ◌||◌, refl, subst, ◌∙◌, ap₂, add-one, inl, inr, arith, rules, eqb→eq}
use mathlib.Core.Path.{fun_ext}
use Rattle.bits.specs.Sets.{holds}
use Rattle.model.specs.State.{State}
use Rattle.model.proofs.Tests.{cases}
use Rattle.graph.specs.Graphs.{state}
use Rattle.graph.specs.Table.{RowsFit}
use Rattle.graph.proofs.Created.{new_subject, new_object}
use Rattle.graph.proofs.States.{same_state}
use Rattle.graph.proofs.graph.Graph.grow.Goals as goal

pub overflow_add-self : goal.overflow_add-self
unfolding state
overflow_add-self c = search rules

-- Rows of one vertex more.
still_fit : (n : ℕ) (rows : List ℕ) → RowsFit n rows → RowsFit (n + 1) rows
still_fit n rows fit p r q t = let k = fit p r q t in (omega arith, omega arith)

later : (n : ℕ) (f : ℕ → Bool) → ((k : ℕ) → T (f k) → k < n) → (k : ℕ) → T (f k) → k < n + 1
later n f h k t = let l = h k t in omega arith

with_new : (n : ℕ) (f f' : ℕ → Bool) → ((k : ℕ) → f' k ≡ (eqb k n || f k)) → ((k : ℕ) → T (f k) → k < n) → (k : ℕ) → T (f' k) → k < n + 1
with_new n f f' e h k t = elim (cases (eqb k n) (f k) (subst T (e k) t)) [ inl u ↦ let d = eqb→eq k n u in omega arith | inr u ↦ later n f h k u ]

pub invariant_of-self : goal.invariant_of-self
unfolding state
invariant_of-self c =
    let g = c.args.self.now in
    let fits = c.requires in
    record {
      some = omega arith;
      few = omega arith;
      acting = with_new g.size (holds g.subjects) (holds c.insert.new.self) c.insert.ensures g.acting;
      whole = g.whole;
      held = still_fit g.size g.rows g.held;
    }

pub invariant_of-self-else-subject : goal.invariant_of-self-else-subject
unfolding state
invariant_of-self-else-subject c =
    let g = c.args.self.now in
    let fits = c.requires in
    record {
      some = omega arith;
      few = omega arith;
      acting = later g.size (holds g.subjects) g.acting;
      whole = g.whole;
      held = still_fit g.size g.rows g.held;
    }

one_more :
    (n : ℕ) (f f' : ℕ → Bool) (h h' : ℕ → ℕ → ℕ → Bool) → ((k : ℕ) → f k ≡ f' k) → ((x k y : ℕ) → h x k y ≡ h' x k y) →
    ◌≡◌ {A = State} (record { size = n + 1; subject = f; has = h }) (record { size = suc n; subject = f'; has = h' })
one_more n f f' h h' e d = ap₂ (λ m g. record { size = m; subject = g; has = h }) (add-one n) (fun_ext e) ∙ same_state (suc n) f' h h' d

pub returns-then-subject : goal.returns-then-subject
unfolding state
returns-then-subject c =
    let g = c.args.self.now in
    record { after = one_more g.size _ _ _ _ (λ k. c.insert.ensures k ∙ new_subject g.size (holds g.subjects) c.args.subject c.if-subject.true k) λ x k y. refl }

pub returns-else-subject : goal.returns-else-subject
unfolding state
returns-else-subject c =
    let g = c.args.self.now in
    record { after = one_more g.size _ _ _ _ (new_object g.size (holds g.subjects) c.args.subject c.if-subject.false g.acting) λ x k y. refl }
