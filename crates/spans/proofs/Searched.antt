-- What a search has found in the end.
use Rattle.std.proofs.Common.{◌≡◌, ℕ, ◌<◌, false, T, subst}
use Rattle.bits.specs.Sets.{among}
use Rattle.graph.proofs.Sound.{well_formed-law}
use Rattle.graph.specs.Graphs.{state}
use Rattle.graph.specs.declared.graph.Graph.{Graph}
use Rattle.model.specs.Bounded.{only}
use Rattle.model.specs.Certificates.{out_of, into_of}
use Rattle.spans.specs.Fronts.{looked_at}
use Rattle.spans.specs.Viewed.{viewed}
use Rattle.spans.specs.Searching.{Searching}
use Rattle.spans.specs.declared.links.search.Search.{Search}
use Rattle.spans.proofs.Fronts.{all_seen}
use Rattle.spans.proofs.Search.{found_out, found_into, found_all}

module _ (w v : ℕ) (l : Graph) (x : ℕ) (t : Search w v) (e : viewed t.view ≡ state l) (f : t.from ≡ x) where
  searching : Searching (state l) x (among v t.out.found) (among v t.into.found) (looked_at t.out) (looked_at t.into)
  searching =
      subst (λ s. Searching s x (among v t.out.found) (among v t.into.found) (looked_at t.out) (looked_at t.into)) e
      (subst (λ y. Searching (viewed t.view) y (among v t.out.found) (among v t.into.found) (looked_at t.out) (looked_at t.into)) f t.searching)

  -- Every vertex was reached.
  pub all_found : ((k : ℕ) → k < (state l).size → T (among v t.out.found k)) → (k : ℕ) → among v t.out.found k ≡ out_of (state l) (only x) k
  all_found = found_all (state l) (well_formed-law l) x _ _ _ _ searching

  -- Nothing is left.
  module _ (a : (k : ℕ) → among v t.out.left k ≡ false) (b : (k : ℕ) → among v t.into.left k ≡ false) where
    pub out_found : (k : ℕ) → among v t.out.found k ≡ out_of (state l) (only x) k
    out_found = found_out (state l) (well_formed-law l) x _ _ _ _ searching (all_seen v t.out a) (all_seen v t.into b)

    pub into_found : (k : ℕ) → among v t.into.found k ≡ into_of (state l) (only x) k
    into_found = found_into (state l) (well_formed-law l) x _ _ _ _ searching (all_seen v t.out a) (all_seen v t.into b)
