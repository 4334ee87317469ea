-- Rows over a table, turned round, that says what a relation says.
use Rattle.std.proofs.Common.{◌≡◌, ℕ, ◌<◌, Bool, T, List, sym, ◌∙◌, subst, ap₂}
use mathlib.Core.Path.{fun_ext}
use Rattle.bits.specs.Sets.{VertexSet}
use Rattle.graph.proofs.Sound.{well_formed-law}
use Rattle.model.specs.Exact.{shortest_row_of}
use Rattle.model.specs.Spans.{bridge}
use Rattle.model.proofs.Readings.{bridge_to, subject_vertex}
use Rattle.witness.specs.Of.{routed}
use Rattle.witness.specs.Rows.{Fits, turned}
use Rattle.witness.specs.declared.routes.Routes.{Routes}
use Rattle.witness.proofs.Choosing.{bridge_both_ways}

module _ (m n : ℕ) (size : m ≡ n) (back : List VertexSet) (e : ℕ → ℕ → Bool) (says : (x z : ℕ) → turned back x z ≡ e x z) where
  pub table_fits : ((x z : ℕ) → T (e x z) → (x < n) × (z < n)) → Fits m back
  table_fits fit z x t = subst (λ k. (z < k) × (x < k)) (sym size) (let l = fit x z (subst T (says x z) t) in (l.1, l.0))

  pub row_of : (x y : ℕ) (row : List ℕ) → row ≡ shortest_row_of m (turned back) x y → row ≡ shortest_row_of n e x y
  row_of x y row h = h ∙ ap₂ (λ k f. shortest_row_of k f x y) size (fun_ext (λ a. fun_ext (says a)))

-- Bridges lead both ways, so their table is that of the bridges turned round.
module _ (r : Routes) where
  pub bridges_turned : (x z : ℕ) → turned r.bridges x z ≡ bridge (routed r) x z
  bridges_turned x z = r.bridged z x ∙ bridge_both_ways (routed r) (well_formed-law r.graph.now) z x

  pub bridges_fit : (n : ℕ) → n ≡ (routed r).size → Fits n r.bridges
  bridges_fit n e =
      let s = routed r in
      table_fits n s.size e r.bridges (bridge s) bridges_turned (λ x z t. (subject_vertex s x (bridge_to s x z t).one, subject_vertex s z (bridge_to s x z t).other))
