-- Spans, from take paths that lead back.
use Rattle.std.proofs.Common.{◌≡◌, ℕ, ◌<◌, ◌≤◌, Bool, true, ◌&&◌, ◌||◌, T, eqb, ltb, sym, ap, ◌∙◌, inl, inr, arith, ltb→lt}
use mathlib.Core.Path.{fun_ext}
use Rattle.std.proofs.lemmas.Bool.{cases_Bool, and_parts}
use Rattle.std.proofs.lemmas.Bool.Decides.{nat_tests}
use Rattle.bits.proofs.Gathered.{some_narrow}
use Rattle.model.specs.State.{State, is_subject, is_vertex}
use Rattle.model.specs.Bounded.{some_below}
use Rattle.model.specs.Spans.{take_path, can_grant, initial_span, terminal_span}
use Rattle.model.proofs.Tests.{parts}
use Rattle.spans.specs.Paths.{path_from, back_from}

module _ (s : State) where
  -- From a subject, whose number is a vertex's.
  from_subject : (p u : ℕ) → is_subject s p ≡ true → path_from s p u ≡ take_path s p u
  unfolding path_from
  from_subject p u h = ap (λ b. b && take_path s p u) (and_parts (is_vertex s p) (s.subject p) h).0

  pub terminal_is : (q t : ℕ) → (is_subject s q && path_from s q t) ≡ terminal_span s q t
  unfolding terminal_span
  terminal_is q t =
      elim (cases_Bool (is_subject s q)) [
        | inl h ↦ ap (λ b. is_subject s q && b) (from_subject q t h)
        | inr h ↦ ap (λ b. b && path_from s q t) h ∙ sym (ap (λ b. b && take_path s q t) h)
      ]

  pub initial_is : (p x : ℕ) → (is_subject s p && back_from s x p) ≡ initial_span s p x
  unfolding initial_span back_from
  initial_is p x =
      elim (cases_Bool (is_subject s p)) [
        | inl h ↦ ap (λ f. is_subject s p && (eqb p x || some_below s.size f)) (fun_ext (λ u. ap (λ b. b && can_grant s u x) (from_subject p u h)))
        | inr h ↦ ap (λ b. b && back_from s x p) h ∙ sym (ap (λ b. b && (eqb p x || some_below s.size (λ u. take_path s p u && can_grant s u x))) h)
      ]

  -- Take paths lead from vertices.
  pub path_below : (x y : ℕ) → T (path_from s x y) → x < s.size
  unfolding path_from
  path_below x y t = ltb→lt x s.size (parts (is_vertex s x) _ t).0

  pub path_vertex : (x y : ℕ) → (ltb x s.size && path_from s x y) ≡ path_from s x y
  unfolding path_from
  path_vertex x y = grind (arith, nat_tests)

  -- Who is x, and from where take paths lead to one of those that have grant to x.
  pub back_from_is :
      (x : ℕ) (givers : ℕ → Bool) → s.size ≤ 256 → ((u : ℕ) → givers u ≡ can_grant s u x) → ((u : ℕ) → T (can_grant s u x) → u < s.size) → (q : ℕ) →
      (some_below 256 (λ u. givers u && path_from s q u) || eqb q x) ≡ back_from s x q
  unfolding back_from
  back_from_is x givers few same below q =
      let narrow : some_below 256 (λ u. givers u && path_from s q u) ≡ some_below s.size (λ u. path_from s q u && can_grant s u x) =
      some_narrow 256 s.size _ _ few (λ u. let a = same u in grind (arith, nat_tests)) (λ u t. below u (parts (path_from s q u) _ t).1)
      in
      grind (arith, nat_tests)
