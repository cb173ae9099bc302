-- What the code's tests of names and key identifiers come to. Of a claim that a subject makes they come to what is asked of the two
-- certificates (`fits_claim`); the code asks the key identifiers first (`after_yes`, `after_no`). A certificate's own two names give
-- `self_names`. For the proofs of src/likely.rt, of `who_issued` and of `self_issued`; what is asked: specs/Records.antt.
use Prim.Native.Nat.{ℕ}
use mathlib.Core.Path.{◌≡◌, refl, sym, ap₂, ◌∙◌}
use mathlib.Core.Bool.{Bool, true, false, ◌&&◌}
use mathlib.Core.List.{List}
use Rattle.std.specs.Bool.{then_some}
use Rattle.fields.specs.Spans.{bytes_of}
use Rattle.fields.specs.declared.string.Span.{Span}
use Rattle.same.specs.Answers.{same_names}
use Rattle.extensions.specs.Extensions.{present}
use Rattle.record.specs.Parts.{issuer_span, subject_span, certificate_by, certificate_of}
use Rattle.record.specs.declared.Record.{Record}
use Rattle.issuing.specs.Issued.{keys_fit}
use Rattle.issuing.specs.Records.{claim_of, claimed, keys_fit_at, fits_at, likely_issued_at, self_issued_at}

-- a part that a claim has by its flag is the certificate's
pub claimed-present : (s : List ℕ) (b : Bool) (p : Span) → claimed s (then_some b p) ≡ present b (bytes_of p s)
claimed-present s true p = refl
claimed-present s false p = refl

module _ (s : List ℕ) (issuer subject : Record) where
  keys_claim : keys_fit_at s issuer (claim_of s subject) ≡ keys_fit (certificate_of issuer s) (certificate_of subject s)
  unfolding keys_fit_at keys_fit claim_of certificate_of certificate_by
  keys_claim = rw (claimed-present, claimed-present)

  named_claim : (claim_of s subject).name ≡ issuer_span subject
  unfolding claim_of
  named_claim = refl

  pub fits_claim : fits_at s issuer (claim_of s subject) ≡ likely_issued_at s issuer subject
  unfolding fits_at likely_issued_at
  fits_claim = ap₂ (λ (p : Span) (b : Bool). same_names true p (subject_span issuer) s && b) named_claim keys_claim

-- the second of two tests, asked first
pub after_yes : (a b : Bool) → b ≡ true → a ≡ a && b
after_yes true b h = sym h
after_yes false b h = refl

pub after_no : (a b : Bool) → b ≡ false → b ≡ a && b
after_no true b h = refl
after_no false b h = h

-- the names that the code compares are the certificate's own
pub self_names : (s : List ℕ) (cert : Record) {issuer subject : Span} {r : Bool} → issuer ≡ issuer_span cert → subject ≡ subject_span cert
    → r ≡ same_names true issuer subject s → r ≡ self_issued_at s cert
unfolding self_issued_at
self_names s cert p q e = e ∙ rw (p, q)
