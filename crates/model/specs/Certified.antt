-- What is proved of certificates: a right one shows a never, whoever wrote it; a no has one; and that is the least of its kind.
use Rattle.std.specs.Prelude.{◌≡◌, ℕ, ◌<◌, Bool, false, not, ◌&&◌, T, List}
use Rattle.model.specs.State.{State, WellFormed, is_subject}
use Rattle.model.specs.Bounded.{all_below, some_below, only}
use Rattle.model.specs.Sharing.{can_get, can_share}
use Rattle.model.specs.Rules.{after}
use Rattle.model.specs.Certificates.{Certificate, vertex_fits, right_fits, is_right, inner_of, out_of, into_of, certificate_of}
use Rattle.model.specs.declared.Rule.{Rule}

-- A check of certificates for holders X, a right r and targets Y.
abbrev pub Check : Type 0
Check = State → (ℕ → Bool) → ℕ → (ℕ → Bool) → Certificate → Bool

-- x cannot share r to y, and has it after no row of rules.
pub record ShownNever (s : State) (x r y : ℕ) : Type 0 where
  pub unshared : can_share s x r y ≡ false
  pub never : (rules : List Rule) → (after s rules).has x r y ≡ false

-- A certificate that passes the check, whoever wrote it, shows that none of X ever has the right to any of Y. The check is `is_right`.
abbrev pub ShowsNever : Check → Type 0
ShowsNever check =
    (s : State) → WellFormed s → (X : ℕ → Bool) (r : ℕ) (Y : ℕ → Bool) (c : Certificate) → T (check s X r Y c) →
    (x y : ℕ) → x < s.size → y < s.size → T (X x) → T (Y y) → ShownNever s x r y

-- Where none of X can share the right to any of Y, the certificate of a no passes the check.
abbrev pub NoIsCertified : Check → Type 0
NoIsCertified check =
    (s : State) → WellFormed s → (X : ℕ → Bool) (r : ℕ) (Y : ℕ → Bool) →
    ((x y : ℕ) → x < s.size → y < s.size → T (X x) → T (Y y) → can_share s x r y ≡ false) → T (check s X r Y (certificate_of s X))

-- So of one holder and one target: it is right exactly where x cannot share the right to y.
abbrev pub CertificateDecides : (State → ℕ → ℕ → ℕ → Bool) → Type 0
CertificateDecides test =
    (s : State) → WellFormed s → (x r y : ℕ) → x < s.size → y < s.size →
    is_right s (only x) r (only y) (certificate_of s (only x)) ≡ not (test s x r y)

-- All conditions of a right certificate but that O and X lack the right.
pub record ClosedFor (s : State) (X : ℕ → Bool) (c : Certificate) : Type 0 where
  pub vertices : T (all_below s.size (vertex_fits s X c))
  pub rights : T (all_below s.size (λ p. all_below s.size (right_fits s X c p)))

-- The sets of one certificate lie within those of another.
pub record WithinCertificate (c d : Certificate) : Type 0 where
  pub inner : (p : ℕ) → T (c.inner p) → T (d.inner p)
  pub out : (p : ℕ) → T (c.out p) → T (d.out p)
  pub into : (p : ℕ) → T (c.into p) → T (d.into p)

-- The certificate of a no is the least that is closed.
pub record LeastClosed (s : State) (X : ℕ → Bool) (c : Certificate) : Type 0 where
  pub closed : ClosedFor s X c
  pub least : (d : Certificate) → ClosedFor s X d → WithinCertificate c d

abbrev pub CertificateLeast : Type 0
CertificateLeast = (s : State) → WellFormed s → (X : ℕ → Bool) → LeastClosed s X (certificate_of s X)

-- What x can get is exactly what something in O of its certificate has.
abbrev pub GottenFromOut : Type 0
GottenFromOut =
    (s : State) → WellFormed s → (x r y : ℕ) → x < s.size → can_get s x r y ≡ some_below s.size (λ t. out_of s (only x) t && s.has t r y)

-- J is what are subjects of O, and what are subjects of I.
pub record InnerIs (s : State) (X : ℕ → Bool) (p : ℕ) : Type 0 where
  pub by_out : inner_of s X p ≡ (is_subject s p && out_of s X p)
  pub by_into : inner_of s X p ≡ (is_subject s p && into_of s X p)

abbrev pub InnerAreSubjects : Type 0
InnerAreSubjects = (s : State) → WellFormed s → (X : ℕ → Bool) (p : ℕ) → InnerIs s X p
