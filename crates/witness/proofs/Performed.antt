-- Rules that are performed: those that may be applied in turn, if there is room for what they create.
use Rattle.std.proofs.Common.{◌≡◌, ◌+◌, ◌≤◌, Bool, true, false, cond, ◌&&◌, T, eqb, Result, Ok, Err, List, [], ◌∷◌, ◌++◌, arith, eqb→eq}
use Rattle.model.specs.State.{State}
use Rattle.model.specs.Rules.{applicable, applied, all_applicable}
use Rattle.model.specs.Plans.{creation, creations}
use Rattle.model.specs.declared.Rule.{Rule}
use Rattle.model.specs.declared.Rule.TheVariants.{Take, Grant, Create, Remove}
use Rattle.model.proofs.Tests.{both, parts}
use Rattle.std.specs.Result.{is_ok}
use Rattle.graph.specs.Graphs.{answer, creates}
use Rattle.graph.specs.declared.refusal.Refusal.{Refusal}
use Rattle.graph.specs.declared.refusal.Refusal.TheVariants.{NotApplicable, Full}
use Rattle.witness.specs.Plans.{done, performable}

-- What is performed is performed up to each place;
pub performed_front : (b : State) (rs more : List Rule) → T (performable b (rs ++ more)) → T (performable b rs)
unfolding performable
performed_front b [] more t = tt
performed_front b (c ∷ rs) more t =
    let u = parts (is_ok (answer b c)) _ t in
    both (is_ok (answer b c)) _ u.0 (performed_front (applied b c) rs more u.1)

-- so is its last rule, in the state after the others;
pub performed_last : (b : State) (rs : List Rule) (a : Rule) → T (performable b (rs ++ (a ∷ []))) → T (is_ok (answer (done b rs) a))
unfolding performable done
performed_last b [] a t = (parts (is_ok (answer b a)) _ t).0
performed_last b (c ∷ rs) a t = performed_last (applied b c) rs a (parts (is_ok (answer b c)) _ t).1

-- and back.
pub performed_more : (b : State) (rs : List Rule) (a : Rule) → T (performable b rs) → T (is_ok (answer (done b rs) a)) → T (performable b (rs ++ (a ∷ [])))
unfolding performable done
performed_more b [] a t u = both (is_ok (answer b a)) _ u tt
performed_more b (c ∷ rs) a t u =
    let v = parts (is_ok (answer b c)) _ t in
    both (is_ok (answer b c)) _ v.0 (performed_more (applied b c) rs a v.1 u)

abbrev told : Bool → Bool → Result Unit Refusal
told may full = cond may (cond full (Err Full) (Ok tt)) (Err NotApplicable)

done_if : (may full : Bool) → T may → (T full → ⊥) → T (is_ok (told may full))
done_if true true t room = room tt
done_if true false t room = tt
done_if false full t room = t

may_if : (may full : Bool) → T (is_ok (told may full)) → T may
may_if true full t = tt
may_if false full t = t

module _ (s : State) where
  unfull : (a : Rule) → s.size + creation a ≤ 255 → T (creates a && eqb s.size 255) → ⊥
  unfolding creation
  unfull (Take t) h f = f
  unfull (Grant g) h f = f
  unfull (Create c) h f = let e = eqb→eq s.size 255 f in omega arith
  unfull (Remove d) h f = f

  grown : (a : Rule) → (applied s a).size ≡ s.size + creation a
  unfolding creation
  grown (Take t) = omega arith
  grown (Grant g) = omega arith
  grown (Create c) = omega arith
  grown (Remove d) = omega arith

pub performed_all : (s : State) (rs : List Rule) → T (all_applicable s rs) → s.size + creations rs ≤ 255 → T (performable s rs)
unfolding performable all_applicable creations
performed_all s [] t h = tt
performed_all s (a ∷ rs) t h =
    let u = parts (applicable s a) _ t in
    both (is_ok (answer s a)) _ (done_if (applicable s a) _ u.0 (unfull s a (omega arith)))
    (performed_all (applied s a) rs u.1 (omega (arith, grown s a)))

pub performed_applicable : (s : State) (rs : List Rule) → T (performable s rs) → T (all_applicable s rs)
unfolding performable all_applicable
performed_applicable s [] t = tt
performed_applicable s (a ∷ rs) t =
    let u = parts (is_ok (answer s a)) _ t in
    both (applicable s a) _ (may_if (applicable s a) _ u.0) (performed_applicable (applied s a) rs u.1)
