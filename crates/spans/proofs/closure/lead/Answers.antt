use Rattle.std.proofs.Common.{◌≡◌, ◌||◌, ap, ◌∙◌, ap₂}
use mathlib.Core.Path.{fun_ext}
use Rattle.bits.specs.Rows.{cell}
use Rattle.graph.specs.Graphs.{state}
use Rattle.graph.proofs.Sound.{well_formed-law}
use Rattle.spans.specs.Paths.{rounds, step_from}
use Rattle.spans.proofs.Rounds.{rounds_lead}
use Rattle.spans.proofs.closure.lead.Goals as goal

pub returns : goal.returns
returns g c = λ x y.
    let begun : cell c.begin.new.rows g.row.W ≡ step_from (state c.args.graph.now) =
    fun_ext (λ a. fun_ext (λ b. c.begin.ensures a b ∙ ap (λ t. t || step_from (state c.args.graph.now) a b) (c.requires.by_index a b))) in
    c.close.ensures x y
    ∙ ap₂ (λ n e. rounds n e n x y) c.size.ensures.value begun
    ∙ rounds_lead (state c.args.graph.now) (well_formed-law c.args.graph.now) x y
