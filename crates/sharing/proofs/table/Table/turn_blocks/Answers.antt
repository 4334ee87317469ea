use Rattle.std.proofs.Common.{◌≡◌, ℕ, ◌/◌, ◌%◌, Bool, true, ◌&&◌, ltb, arith}
use Rattle.std.proofs.lemmas.Bool.{lt-ltb}
use Rattle.std.proofs.lemmas.Bool.Decides.{nat_tests}
use Rattle.graph.proofs.Sound.{holder_below, target_below}
use Rattle.sharing.specs.Filling.{about, cells, of_rights}
use Rattle.sharing.specs.Table.{has_row}
use Rattle.sharing.proofs.Filling.{becomes_same, placed_added}
use Rattle.sharing.proofs.table.Table.turn_blocks.Goals as goal

all : (b t : Bool) → t ≡ true → (b && t) ≡ b
all b t e = grind (arith, nat_tests)

pub returns : goal.returns
unfolding has_row
returns g c =
    let t = c.args.self.now in
    let s = about g.row.W t in
    let p : ℕ → ℕ → Bool = λ i x. of_rights c.args.first c.args.end i && ltb (x / 64) c.loop-g.g in
    let q : ℕ → ℕ → Bool = λ i x. of_rights c.args.first c.args.end i in
    becomes_same g.row.W t c.loop-g.self _ c.loop-g.invariant.1 _ (λ i x.
    placed_added s p q (cells g.row.W t) i x (λ h.
    let l = holder_below t.graph.now x (i % 8) (i / 8) h in
    (target_below t.graph.now x (i % 8) (i / 8) h, all (of_rights c.args.first c.args.end i) _ (lt-ltb (x / 64) c.loop-g.g (omega (arith, t.wide))))))
