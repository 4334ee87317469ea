-- The theorems, each from the lemmas that show it.
use Rattle.std.proofs.Common.{◌-◌, T, subst, inl, inr, arith}
use Rattle.model.specs.State.{is_subject}
use Rattle.model.specs.Spans.{take_path, TakePath, bridge, Bridge, connected, Connected, initial_span, InitialSpan, terminal_span, TerminalSpan}
use Rattle.model.specs.Sharing.{can_get, CanGet, can_share, CanShare}
use Rattle.model.specs.Restricted.{restricted}
use Rattle.model.specs.Certificates.{is_right, certificate_of}
use Rattle.model.specs.Readings.{ClosureComplete, ClosureIs, ClosedIs, Says, SaysOfRights}
use Rattle.model.specs.Certified.{ShowsNever, NoIsCertified, InnerAreSubjects, CertificateLeast}
use Rattle.model.specs.Promise.{Promise, PromiseFor, RestrictedRows}
use Rattle.model.specs.Examples.{Granted, ObjectsAreGranted}
use Rattle.model.proofs.Tests.{is_false, from_false}
use Rattle.model.proofs.Rounds.{enough, row_to, row_from, closed_is}
use Rattle.model.proofs.Readings.{take_path-to, take_path-from, bridge_to, bridge_from, connected_to, connected_from, initial_span-to}
use Rattle.model.proofs.Readings.{initial_span-from, terminal_span-to, terminal_span-from, can_get-to, can_get-from, can_share-to, can_share-from}
use Rattle.model.proofs.NothingNew.{never_has, has_shared}
use Rattle.model.proofs.Right.{closed_to, closed_from, right_no_share, right_never}
use Rattle.model.proofs.Least.{certificate_right, inner_by_out, inner_by_into, certificate_closed, certificate_inner, certificate_out, certificate_into}
use Rattle.model.proofs.Acting.{restricted_never, restricted_by, restricted_applicable, restricted_after}
use Rattle.model.proofs.Witnesses.{sharing_witness, restricted_witness}

-- Closures.
pub closure_complete : ClosureComplete (λ n. n - 1)
closure_complete n e k x y l t = enough n e (n - 1) k x y (omega arith) l t

pub closure_is : ClosureIs
closure_is n e x y = record { to = row_to n e n x y; from = λ v. row_from n e v }

pub closed_set_is : ClosedIs
closed_set_is n e bound S x l start closed led y h = closed_is n e S x l start closed led bound y h

-- Tests and relations.
pub paths_agree : Says take_path TakePath
paths_agree s wf x y = record { to = take_path-to s x y; from = take_path-from s wf x y }

pub bridges_agree : Says bridge Bridge
bridges_agree s wf p q = record { to = bridge_to s p q; from = bridge_from s wf p q }

pub connected_agrees : Says connected Connected
connected_agrees s wf p q = record { to = connected_to s p q; from = connected_from s wf p q }

pub initial_agrees : Says initial_span InitialSpan
initial_agrees s wf p x = record { to = initial_span-to s p x; from = initial_span-from s wf p x }

pub terminal_agrees : Says terminal_span TerminalSpan
terminal_agrees s wf q t = record { to = terminal_span-to s q t; from = terminal_span-from s wf q t }

pub getting_agrees : SaysOfRights can_get CanGet
getting_agrees s wf x r y = record { to = can_get-to s x r y; from = can_get-from s wf x r y }

pub sharing_agrees : SaysOfRights can_share CanShare
sharing_agrees s wf x r y = record { to = can_share-to s x r y; from = can_share-from s wf x r y }

-- Certificates.
pub right_shows_never : ShowsNever is_right
right_shows_never s wf X r Y c h x y hx hy mx my =
    record {
      unshared = is_false _ (λ t. right_no_share s wf X r Y c h x y (hx, mx) (hy, my) (can_share-to s x r y t));
      never = λ rules. is_false _ (right_never s wf X r Y c h rules x y (hx, mx) (hy, my));
    }

pub no_is_certified : NoIsCertified is_right
no_is_certified s wf X r Y none =
    certificate_right s wf X r Y (λ x y hx hy g. from_false _ (none x y hx.0 hy.0 hx.1 hy.1) (can_share-from s wf x r y g))

pub inner_are_subjects : InnerAreSubjects
inner_are_subjects s wf X p = record { by_out = inner_by_out s wf X p; by_into = inner_by_into s wf X p }

pub certificate_least : CertificateLeast
certificate_least s wf X =
    record {
      closed = closed_from s X (certificate_of s X) (certificate_closed s wf X);
      least = λ d h.
          record {
            inner = certificate_inner s wf X d (closed_to s X d h);
            out = certificate_out s wf X d (closed_to s X d h);
            into = certificate_into s wf X d (closed_to s X d h);
          };
    }

-- The promise.
pub promise_kept : Promise can_share
promise_kept s wf x r y hx hy = record { reached = sharing_witness s wf x r y; never = never_has s wf x r y hx hy }

pub promise_kept_for : PromiseFor restricted
promise_kept_for S s wf x r y hx hy =
    record { reached = restricted_witness S s wf x r y; never = restricted_never S s wf x r y hx hy }

pub restricted_rows : RestrictedRows
restricted_rows S s rules t =
    record { by = restricted_by S s rules t; applies = restricted_applicable S s rules t; does = restricted_after S s rules (restricted_by S s rules t) }

-- What an object comes to have is granted to it.
pub objects_are_granted : ObjectsAreGranted
objects_are_granted s wf x r y hx hy object lacks rules t = granted (can_share-to s x r y (has_shared s wf x r y hx hy rules t))
  where
    granted : CanShare s x r y → Granted s x r y
    granted (inl h) = absurd (from_false (s.has x r y) lacks h)
    granted (inr g) =
        record { way = g; another = λ e. from_false (is_subject s x) object (subst (λ v. T (is_subject s v)) e g.initial.acts) }
