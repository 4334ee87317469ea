-- What the two calls say, from what they answered.
use Rattle.std.proofs.Common.{◌≡◌, ℕ, List, [], ◌∷◌, ◌++◌, Ok, Err, Result, sym, refl, ap, ◌∙◌, append_assoc, append-nil}
use Rattle.std.specs.List.{flat_map}
use Rattle.std.proofs.lemmas.List.{flat_map_more}
use Rattle.std.proofs.lemmas.List.Elements.{All-weaker}
use Rattle.codec.specs.declared.fault.Fault.{Fault}
use Rattle.codec.specs.Reading.{onward}
use Rattle.codec.specs.RoundTrips.{AreBytes}
use Rattle.history.specs.Left.{first}
use Rattle.history.specs.Posed.{Posed, posed}
use Rattle.history.specs.Printed.{lines_to, records_to}
use Rattle.history.specs.Promised.{Promised, PromisedWith, DecidedThen, ShownThen}
use Rattle.history.proofs.Told.{heard, Sound, sound_decided, sound_shown}

-- Some questions were answered, which is what P says of them, and the rest is left.
pub record Answered (all left : Result (List Posed) Fault) (P : List Posed → Type 0) : Type 0 where
  pub done : List Posed
  pub is : all ≡ onward left λ more. Ok (done ++ more)
  pub told : P done

module _ {all left : Result (List Posed) Fault} {P : List Posed → Type 0} (inv : Answered all left P) where
  pub answered_more :
      (p : Posed) (next : Result (List Posed) Fault) (Q : List Posed → Type 0) → left ≡ first p next → ((done : List Posed) → P done → Q (done ++ p ∷ [])) → Answered all next Q
  answered_more p next Q e h =
      record {
        done = inv.done ++ p ∷ [];
        is = inv.is ∙ (ap (λ r. onward r λ more. Ok (inv.done ++ more)) e ∙ behind next);
        told = h inv.done inv.told;
      }
    where
      behind : (r : Result (List Posed) Fault) → (onward (first p r) λ more. Ok (inv.done ++ more)) ≡ onward r λ more. Ok ((inv.done ++ p ∷ []) ++ more)
      behind (Ok ps) = ap (λ qs. Ok qs) (sym (append_assoc inv.done (p ∷ []) ps))
      behind (Err f) = refl

  pub answered_all : left ≡ Ok [] → all ≡ Ok inv.done
  answered_all e = inv.is ∙ (ap (λ r. onward r λ more. Ok (inv.done ++ more)) e ∙ ap (λ ps. Ok ps) (append-nil inv.done))

-- One text more.
pub text_more : (f : Posed → List ℕ) (text next : List ℕ) (done : List Posed) (p : Posed) → next ≡ text ++ f p → text ≡ flat_map f done → next ≡ flat_map f (done ++ p ∷ [])
text_more f text next done p e h = e ∙ (ap (λ t. t ++ f p) h ∙ flat_map_more f [] done p)

module _ (bs : List ℕ) (bytes : AreBytes bs) (read : List Posed) (reads : posed bs ≡ Ok read) where
  pub lines_said : (lines : List ℕ) → lines ≡ lines_to read → Promised bs lines
  lines_said lines e =
      let h = heard bs bytes read reads in
      record { read = read; reads = reads; told = h.told; prints = e; decided = All-weaker Sound DecidedThen sound_decided read h.each }

  pub records_said : (lines records : List ℕ) → lines ≡ lines_to read → records ≡ records_to read → PromisedWith bs lines records
  records_said lines records e d =
      let h = heard bs bytes read reads in
      record {
        read = read;
        reads = reads;
        told = h.told;
        prints = e;
        writes = d;
        decided = All-weaker Sound DecidedThen sound_decided read h.each;
        shown = All-weaker Sound ShownThen sound_shown read h.each;
      }
