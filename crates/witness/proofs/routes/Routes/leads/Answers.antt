use Rattle.std.proofs.Common.{◌≡◌, true, false, ◌||◌, eqb, sym, ap, ◌∙◌, arith}
use Rattle.graph.proofs.Sound.{well_formed-law}
use Rattle.std.proofs.lemmas.Bool.{eq-eqb, ne_eqb}
use Rattle.spans.specs.Paths.{path_from}
use Rattle.witness.specs.Of.{routed}
use Rattle.witness.proofs.Vertices.{path_leads}
use Rattle.witness.proofs.routes.Routes.leads.Goals as goal

pub returns-then-x-y : goal.returns-then-x-y
returns-then-x-y c =
    let r = c.args.self.now in
    let x = c.args.x in
    let y = c.args.y in
    let yes : eqb x y ≡ true = eq-eqb x y (omega arith) in
    record { value = yes ∙ sym (ap (λ b. b || path_from (routed r) x y) yes) ∙ path_leads (routed r) (well_formed-law r.graph.now) x y }

pub returns-else-x-y : goal.returns-else-x-y
returns-else-x-y c =
    let r = c.args.self.now in
    let x = c.args.x in
    let y = c.args.y in
    let no : eqb x y ≡ false = ne_eqb x y (λ e. omega arith) in
    record {
      value =
          c.leads.ensures.value ∙ ap (λ z. path_from z x y) r.same_paths ∙ sym (ap (λ b. b || path_from (routed r) x y) no)
          ∙ path_leads (routed r) (well_formed-law r.graph.now) x y;
    }
