-- A graph stands for a well-formed state, whose subjects and rights are among those that there are.
use Rattle.std.proofs.Common.{◌≡◌, ℕ, Ok, Err, ◌<◌, Bool, true, false, cond, ◌&&◌, T, eqb, ltb, sym, ap, ◌∙◌, subst, ltb→lt, lt→ltb}
use Rattle.model.specs.State.{WellFormed, is_vertex, is_subject, take_right, grant_right}
use Rattle.model.specs.Rules.{applicable}
use Rattle.model.specs.declared.Rule.{Rule}
use Rattle.model.specs.declared.Rule.TheVariants.{Take, Grant, Create, Remove}
use Rattle.model.proofs.Tests.{both, parts, same}
use Rattle.graph.specs.Graphs.{state, entitled, creates, answer}
use Rattle.graph.specs.Table.{in_table}
use Rattle.model.specs.declared.Take.{Take as TakeRule}
use Rattle.model.specs.declared.Grant.{Grant as GrantRule}
use Rattle.model.specs.declared.Create.{Create as CreateRule}
use Rattle.graph.specs.declared.graph.Graph.{Graph}
use Rattle.graph.specs.declared.refusal.Refusal.TheVariants.{NotApplicable, Full}

pub right_below : (g : Graph) (p r q : ℕ) → T ((state g).has p r q) → r < 8
unfolding state in_table
right_below g p r q t = ltb→lt r 8 (parts (ltb r 8) (ltb q 256) (parts (ltb p 256) _ (parts (ltb p 256 && (ltb r 8 && ltb q 256)) _ t).0).1).0

pub holder_below : (g : Graph) (p r q : ℕ) → T ((state g).has p r q) → p < (state g).size
unfolding state
holder_below g p r q t =
    (g.held p r q t).0

pub target_below : (g : Graph) (p r q : ℕ) → T ((state g).has p r q) → q < (state g).size
unfolding state
target_below g p r q t = (g.held p r q t).1

pub subject_below : (g : Graph) (p : ℕ) → T ((state g).subject p) → p < (state g).size
unfolding state
subject_below g p t = g.acting p t

pub some_vertex : (g : Graph) → 0 < (state g).size
unfolding state
some_vertex g = g.some

pub few_vertices : (g : Graph) → (state g).size < 256
unfolding state
few_vertices g = g.few

pub well_formed-law : (g : Graph) → WellFormed (state g)
well_formed-law g = record { holder = holder_below g; target = target_below g }

-- In a graph a rule is applicable if its subject is one and the rights that it uses are held.
module _ (g : Graph) where
  acts : (p : ℕ) → T ((state g).subject p) → T (is_subject (state g) p)
  acts p t = both _ _ (lt→ltb p (state g).size (subject_below g p t)) t

  -- A subject with two rights: with and without the tests that the vertices are there.
  used : (p k q x r y : ℕ) → ((state g).subject p && ((state g).has p k q && (state g).has x r y)) ≡ (is_subject (state g) p && (is_vertex (state g) q && (is_vertex (state g) y && ((state g).has p k q && (state g).has x r y))))
  used p k q x r y = same _ _ there back
    where
      there : T ((state g).subject p && ((state g).has p k q && (state g).has x r y)) → T (is_subject (state g) p && (is_vertex (state g) q && (is_vertex (state g) y && ((state g).has p k q && (state g).has x r y))))
      there t =
          let a = parts _ _ t in
          let b = parts _ _ a.1 in
          both _ _ (acts p a.0)
          (both _ _ (lt→ltb q (state g).size (target_below g p k q b.0)) (both _ _ (lt→ltb y (state g).size (target_below g x r y b.1)) a.1))

      back : T (is_subject (state g) p && (is_vertex (state g) q && (is_vertex (state g) y && ((state g).has p k q && (state g).has x r y)))) → T ((state g).subject p && ((state g).has p k q && (state g).has x r y))
      back t =
          let a = parts (is_subject (state g) p) _ t in
          both ((state g).subject p) _ (parts (is_vertex (state g) p) ((state g).subject p) a.0).1 (parts (is_vertex (state g) y) _ (parts (is_vertex (state g) q) _ a.1).1).1

  pub only_subjects : (p : ℕ) → (state g).subject p ≡ is_subject (state g) p
  only_subjects p = same _ _ (acts p) (λ t. (parts _ _ t).1)

pub entitled_is : (g : Graph) (a : Rule) → entitled (state g) a ≡ applicable (state g) a
entitled_is g (Take t) = used g t.who take_right t.from t.from t.right t.to
entitled_is g (Grant d) = used g d.who grant_right d.into d.who d.right d.to
entitled_is g (Create c) = only_subjects g c.who
entitled_is g (Remove d) = ap (λ b. b && ltb d.to (state g).size) (only_subjects g d.who)

-- What an entitled rule uses is there.
module _ (g : Graph) (a : Rule) (yes' : true ≡ entitled (state g) a) where
  holds_of : (b : Rule) → a ≡ b → T (entitled (state g) b)
  holds_of b e = subst T (yes' ∙ ap (entitled (state g)) e) tt

  pub take_there : (t : TakeRule) → a ≡ Take t → (t.who < (state g).size) × ((t.right < 8) × (t.to < (state g).size))
  take_there t e =
      let h = parts ((state g).subject t.who) _ (holds_of (Take t) e) in
      let k = parts ((state g).has t.who take_right t.from) ((state g).has t.from t.right t.to) h.1 in
      (subject_below g t.who h.0, (right_below g t.from t.right t.to k.1, target_below g t.from t.right t.to k.1))

  pub grant_there : (d : GrantRule) → a ≡ Grant d → (d.into < (state g).size) × ((d.right < 8) × (d.to < (state g).size))
  grant_there d e =
      let h = parts ((state g).subject d.who) _ (holds_of (Grant d) e) in
      let k = parts ((state g).has d.who grant_right d.into) ((state g).has d.who d.right d.to) h.1 in
      (target_below g d.who grant_right d.into k.0, (right_below g d.who d.right d.to k.1, target_below g d.who d.right d.to k.1))

  pub create_there : (c : CreateRule) → a ≡ Create c → c.who < (state g).size
  create_there c e = subject_below g c.who (holds_of (Create c) e)

  -- What is answered to an entitled rule depends on the room that is left.
  pub answered : (b : Bool) → (creates a && eqb (state g).size 255) ≡ b → cond b (Err Full) (Ok tt) ≡ answer (state g) a
  answered b e =
      ap (λ t. cond t (Err Full) (Ok tt)) (sym e) ∙ ap (λ t. cond t (cond (creates a && eqb (state g).size 255) (Err Full) (Ok tt)) (Err NotApplicable)) (yes' ∙ entitled_is g a)

  pub done : (b : Rule) → a ≡ b → creates b ≡ false → Ok tt ≡ answer (state g) a
  done b e old = answered false (ap (λ c. creates c && eqb (state g).size 255) e ∙ ap (λ t. t && eqb (state g).size 255) old)
