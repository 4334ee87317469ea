use Rattle.std.proofs.Common.{◌≡◌, false, ◌&&◌, ◌||◌, eqb, sym, refl, ap, ◌∙◌, ap₂}
use Rattle.graph.specs.Graphs.{creates}
use Rattle.model.specs.Changes.{changed}
use Rattle.model.specs.declared.Rule.{Rule}
use Rattle.model.specs.declared.Rule.TheVariants.{Take, Grant, Create, Remove}
use Rattle.model.specs.declared.Create.{Create as CreateRule}
use Rattle.spans.specs.Paths.{path_from}
use Rattle.changing.specs.Of.{tracked}
use Rattle.changing.specs.Renewed.{changes_take, renews}
use Rattle.changing.proofs.kept.ChangingGraph.to_renew.Goals as goal

-- Any other rule than a creation makes no vertex.
no_creation : (a : Rule) → ((x : CreateRule) → a ≡ Create x → ⊥) → creates a ≡ false
no_creation (Take t) f = refl
no_creation (Grant g) f = refl
no_creation (Create c) f = absurd (f c refl)
no_creation (Remove d) f = refl

pub returns-in-Create : goal.returns-in-Create
unfolding renews
returns-in-Create c =
    let s = tracked c.args.self.now in
    let a = c.args.rule in
    record {
      value = λ v.
          c.insert.ensures v
          ∙ ap₂ (λ n b. eqb v n || b) c.size.ensures.value (c.changed_paths-rows.ensures.value v)
          ∙ sym (ap (λ k. (k && eqb v s.size) || (changes_take s a && path_from s v (changed a))) (ap creates c.in-Create.is));
    }

pub returns-in_default : goal.returns-in_default
unfolding renews
returns-in_default c =
    let s = tracked c.args.self.now in
    let a = c.args.rule in
    record {
      value = λ v.
          c.changed_paths-rows.ensures.value v
          ∙ sym (ap (λ k. (k && eqb v s.size) || (changes_take s a && path_from s v (changed a))) (no_creation a c.in_default.not-Create));
    }
