-- Rules that were read and applied in turn: which they are, and that each was applicable and there was room.
use Rattle.std.proofs.Common.{◌≡◌, ℕ, zero, suc, ◌+◌, ◌≤◌, T, List, [], ◌∷◌, length, Ok, sym, refl, ap, ◌∙◌, subst, arith}
use Rattle.model.specs.State.{State}
use Rattle.model.specs.Rules.{applicable, applied, after, all_applicable}
use Rattle.model.specs.Plans.{creation, creations}
use Rattle.model.specs.declared.Rule.{Rule}
use Rattle.model.specs.declared.Rule.TheVariants.{Take, Grant, Create, Remove}
use Rattle.model.proofs.Tests.{both, parts}
use Rattle.codec.specs.Reading.{Read, onward}
use Rattle.codec.specs.Acts.{act_at}
use Rattle.codec.specs.Replay.{performed, performed_at}
use Rattle.codec.proofs.Inverted.{onward_ok, ok_same}
use Rattle.codec.proofs.Performed.{after_on, performed_done, performed_ok}
use Rattle.checker.specs.Reading.{rules_at}
use Rattle.checker.specs.Right.{Listed}

applied_size : (s : State) (a : Rule) → (applied s a).size ≡ s.size + creation a
unfolding creation
applied_size s (Take t) = omega arith
applied_size s (Grant g) = omega arith
applied_size s (Create c) = omega arith
applied_size s (Remove d) = omega arith

pub record Performed (bs : List ℕ) (s : State) (at count : ℕ) (t : State) (end : ℕ) : Type 0 where
  pub rules : List Rule
  pub many : length rules ≡ count
  pub listed : Listed bs s at rules end
  pub applicable : T (all_applicable s rules)
  pub room : s.size + creations rules ≤ 255
  pub is : after s rules ≡ t

performed_none : (bs : List ℕ) (s : State) (at : ℕ) (t : State) (end : ℕ) → s.size ≤ 255 → ◌≡◌ {A = Read State} (Ok (s, at)) (Ok (t, end)) → Performed bs s at 0 t end
unfolding Listed all_applicable creations after
performed_none bs s at t end few e =
    let same = ok_same (s, at) (t, end) e in
    record { rules = []; many = refl; listed = ap (λ p. p.1) same; applicable = tt; room = omega arith; is = ap (λ p. p.0) same }

performed_more : (bs : List ℕ) (s : State) (at count : ℕ) (t : State) (end : ℕ) (a : Rule) (next : ℕ) → act_at bs s.size at ≡ Ok (a, next) → T (applicable s a) → Performed bs (applied s a) next count t end → Performed bs s at (suc count) t end
unfolding Listed all_applicable creations
performed_more bs s at count t end a next e h p =
    record {
      rules = a ∷ p.rules;
      many = ap suc p.many;
      listed = (next, (e, p.listed));
      applicable = both (applicable s a) _ h p.applicable;
      room = let z = applied_size s a in let m = p.room in omega arith;
      is = after_on s a p.rules h ∙ p.is;
    }

-- One act that was performed, and those behind it.
performed_one : (bs : List ℕ) (s : State) (at i count : ℕ) (t : State) (end : ℕ) → s.size ≤ 255 → ((next : ℕ) (v : State) → v.size ≤ 255 → rules_at count bs next (i + 1) v ≡ Ok (t, end) → Performed bs v next count t end) → (a : Rule) (next : ℕ) → act_at bs s.size at ≡ Ok (a, next) → (u : State × ℕ) → onward (performed s a i) (λ v. Ok (v, next)) ≡ Ok u → rules_at count bs u.1 (i + 1) u.0 ≡ Ok (t, end) → Performed bs s at (suc count) t end
performed_one bs s at i count t end few more a next read u did rest =
    let d = onward_ok (performed s a i) _ u did in
    let r = performed_ok s a i d.0 d.1 in
    let room = r.room (omega arith) in
    let made : ◌≡◌ {A = State × ℕ} (applied s a, next) u = ap (λ v. (v, next)) (sym r.result) ∙ ok_same (d.0, next) u d.2 in
    performed_more bs s at count t end a next read r.may
    (more next (applied s a) (omega arith) (subst (λ (v : State × ℕ). rules_at count bs v.1 (i + 1) v.0 ≡ Ok (t, end)) (sym made) rest))

pub rules_performed : (count : ℕ) (bs : List ℕ) (at i : ℕ) (s t : State) (end : ℕ) → s.size ≤ 255 → rules_at count bs at i s ≡ Ok (t, end) → Performed bs s at count t end
unfolding rules_at
rules_performed zero bs at i s t end few e = performed_none bs s at t end few e
rules_performed (suc count) bs at i s t end few e =
    let p = onward_ok (performed_at bs at i s) _ (t, end) e in
    let q = onward_ok (act_at bs s.size at) _ p.0 p.1 in
    performed_one bs s at i count t end few (λ next v h r. rules_performed count bs next (i + 1) v t end h r) q.0.0 q.0.1 q.1 p.0 q.2 p.2

pub performed_rules : (rules : List Rule) (bs : List ℕ) (at i : ℕ) (s : State) (end : ℕ) → Listed bs s at rules end → T (all_applicable s rules) → s.size + creations rules ≤ 255 → rules_at (length rules) bs at i s ≡ Ok (after s rules, end)
unfolding rules_at Listed all_applicable creations after
performed_rules [] bs at i s end e h m = ap (λ n. Ok (s, n)) e
performed_rules (a ∷ more) bs at i s end l h m =
    let b = parts (applicable s a) _ h in
    let z = applied_size s a in
    ap rest (ap (λ x. onward {A = Rule × ℕ} {B = State × ℕ} x λ r. onward (performed s r.0 i) λ t. Ok (t, r.1)) l.1.0) ∙
    ap rest (ap (λ x. onward {A = State} {B = State × ℕ} x λ t. Ok (t, l.0)) (performed_done s a i b.0 (omega arith))) ∙
    performed_rules more bs l.0 (i + 1) (applied s a) end l.1.1 b.1 (omega arith) ∙ ap (λ t. Ok (t, end)) (sym (after_on s a more b.0))
  where
    rest : Read State → Read State
    rest x = onward x λ t. rules_at (length more) bs t.1 (i + 1) t.0
