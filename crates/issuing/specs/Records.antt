-- What Issued.antt says of certificates, said of records as they are, whether a reader made them or not: names of the same bytes are the
-- same, and else one that can't be read is no one's. Then a row for each subject, and who issued any. That it is the same on a card that
-- was read: proofs/Agrees.antt.
use Rattle.std.specs.Prelude.{ℕ, ◌≡◌, Bool, true, ◌&&◌, List, [], ◌∷◌, Some, None}
use Rattle.std.specs.Prelude as Rust
use Rattle.std.specs.Bool.{then_some}
use Rattle.std.proofs.Math.Option.{Option, some, none}
use Rattle.places.specs.Limits.{roots_most, bundle_most}
use Rattle.places.specs.declared.BundlePlace.{BundlePlace}
use Rattle.fields.specs.Spans.{bytes_of}
use Rattle.fields.specs.declared.string.Span.{Span}
use Rattle.same.specs.Answers.{same_names}
use Rattle.keys.specs.AuthKeyId.{check_auth_key_id}
use Rattle.extensions.specs.Flags.{has_authority_key_id, has_authority_serial}
use Rattle.record.specs.Parts.{head_of, key_ids_of, issuer_span, subject_span, certificate_of}
use Rattle.record.specs.declared.Record.{Record}
use Rattle.certificates.specs.Certificates.{record_of, size_of}
use Rattle.certificates.specs.declared.certificates.Certificates.{Certificates}
use Rattle.verdicts.specs.Grid.{root_signed, bundle_signed}
use Rattle.verdicts.specs.declared.Verdicts.{Verdicts}
use Rattle.rows.specs.Rows.{either, row_of, listing}
use Rattle.issuing.specs.Issued.{keys_fit}
use Rattle.issuing.specs.declared.likely.Claim.{Claim}

-- what a subject says of its issuer
unfoldable pub claim_of : List ℕ → Record → Claim
claim_of s subject =
    let flags = (head_of subject s).flags in
    let ids = key_ids_of flags subject s in
    record {
      key_id = then_some (has_authority_key_id flags) ids.authority;
      serial = then_some (has_authority_serial flags) ids.authority_serial;
      name = issuer_span subject;
    }

-- the bytes of a part that a claim has
abbrev pub claimed : List ℕ → Rust.Option Span → Option (List ℕ)
claimed s (Some p) = some (bytes_of p s)
claimed s None = none

-- what a claim says of its issuer's key fits the issuer
unfoldable pub keys_fit_at : List ℕ → Record → Claim → Bool
keys_fit_at s issuer claim =
    let c = certificate_of issuer s in
    check_auth_key_id (claimed s claim.key_id) (claimed s claim.serial) c.subject_key_id c.serial

-- an issuer is the one that a claim speaks of, whose name comes first
unfoldable pub fits_at : List ℕ → Record → Claim → Bool
fits_at s issuer claim = same_names true claim.name (subject_span issuer) s && keys_fit_at s issuer claim

-- the subject's issuer name comes first
unfoldable pub likely_issued_at : List ℕ → Record → Record → Bool
likely_issued_at s issuer subject =
    same_names true (issuer_span subject) (subject_span issuer) s && keys_fit (certificate_of issuer s) (certificate_of subject s)

-- its issuer name comes first
unfoldable pub self_issued_at : List ℕ → Record → Bool
self_issued_at s cert = same_names true (issuer_span cert) (subject_span cert) s

-- bundle place i issued bundle place j
unfoldable pub bundle_issued_at : List ℕ → Certificates bundle_most → Verdicts → ℕ → ℕ → Bool
bundle_issued_at s b v i j =
    bundle_signed v s i j && likely_issued_at s (record_of b.count b.records i) (record_of b.count b.records j)

-- root place i issued bundle place j, whose record is at hand
unfoldable pub root_issued_at : List ℕ → Certificates roots_most → Verdicts → Record → ℕ → ℕ → Bool
root_issued_at s r v subject i j = root_signed v s i j && likely_issued_at s (record_of r.count r.records i) subject

-- ---- rows

-- these answers tell the verdict on an issuer at each place
abbrev pub Tells : (ℕ → Bool) → BundlePlace → (ℕ → BundlePlace → Bool → Type 0) → Type 0
Tells verdict subject answers = (i : ℕ) (r : Bool) → answers i subject r → r ≡ verdict i

-- a row for each subject: which bundle places issued it
unfoldable pub bundle_rows : List ℕ → Certificates bundle_most → Verdicts → List ℕ
bundle_rows s b v = listing bundle_most (size_of bundle_most b.count) (λ j. row_of (λ i. bundle_issued_at s b v i j) (size_of bundle_most b.count))

-- a row for each subject: which roots issued it
unfoldable pub root_rows : List ℕ → Certificates roots_most → Certificates bundle_most → Verdicts → List ℕ
root_rows s r b v =
    listing bundle_most (size_of bundle_most b.count) (λ j.
    row_of (λ i. root_issued_at s r v (record_of b.count b.records j) i j) (size_of roots_most r.count))

-- those that issued any: they stand in one of the rows
unfoldable pub issuers_of : List ℕ → ℕ
issuers_of [] = 0
issuers_of (row ∷ rows) = either row (issuers_of rows)
