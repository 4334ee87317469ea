use Rattle.std.proofs.Common.{ℕ, ◌&&◌, ◌++◌, List, take, sym, ap, ◌∙◌, ap₂, arith}
use Rattle.model.specs.Exact.{first_row}
use Rattle.model.proofs.ExactChoices.{lowest_same}
use Rattle.witness.specs.Rows.{turned}
use Rattle.witness.proofs.Walked.{arrived, nowhere, walked_more}
use Rattle.witness.proofs.row.Search.+walk.Goals as goal
use Rattle.witness.proofs.row.Search.+walk.Goals.{then-k-self-via-then-k-self, then-k-self-via-else-k-self+then-contains}

pub returns-then-k-self-clause-walked : goal.returns-then-k-self-clause-walked
returns-then-k-self-clause-walked g t c =
    let s = c.args.self.now in
    let n = s.steps.size in
    let e = turned s.steps.back.now in
    let layer = c.requires.layer.1 in
    ap (λ m. take m c.args.row.now.vertices ++ first_row c.args.k n e s.x s.y) c.requires.empty
    ∙ sym (elim c.then-k-self.branch [
      | then-k-self-via-then-k-self w ↦ nowhere n e s.x s.y c.args.k c.requires.missed (omega arith)
      | then-k-self-via-else-k-self+then-contains w ↦
          arrived n e s.x s.y c.args.k c.requires.missed (omega (arith, c.requires.layer.0)) (sym (layer.last s.x) ∙ sym w.contains.ensures ∙ w.if-contains.true)
    ])

pub returns-clause-walked : goal.returns-clause-walked
returns-clause-walked g t c =
    let s = c.args.self.now in
    let n = s.steps.size in
    let e = turned s.steps.back.now in
    ap (λ (row : List ℕ). row ++ first_row c.args.k n e c.lowest_of-at.result s.y) c.push.ensures.items
    ∙ walked_more n e s.x s.y c.args.k _ c.walk-before.result c.lowest_of-at.result
    (c.lowest_of-at.ensures
    ∙ lowest_same n _ _ (λ z _. c.intersection.ensures z
    ∙ ap₂ (λ a b. a && b) (c.requires.ahead c.walk-before.result c.ahead.result (omega arith) c.ahead.ensures z) (c.requires.layer.1.last z)))
    c.walk-before.ensures.walked
