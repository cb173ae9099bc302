-- Who issued whom by records and by what the file says are the same: for two records that stand in the file (`likely_read`), and for the
-- rows of a card that was read, at every two places (`bundle_row_agrees`, `root_row_agrees`); past the counts both are no. So is who is
-- self-issued (`self_issued_read`). On the way: the certificate at a place is what its record says (`root_is`, `bundled-is`). For policy and
-- question. By records: specs/Records.antt; by what the file says: specs/Issued.antt.
use Prim.Native.Nat.{ℕ, zero, suc, ◌<◌, ◌≤◌}
use mathlib.Core.Path.{◌≡◌, refl, sym, ap, ap₂, ◌∙◌}
use mathlib.Core.Bool.{Bool, true, false, cond, ◌&&◌}
use mathlib.Core.List.{List, [], ◌∷◌}
use native.Mathlib.Omega.{arith}
use lib.Dec.{eqb, ltb}
use lib.ListN.{length, get_or}
use borrow.Author.Tests.{ltb-true, ltb-false, le-ltb, le-leb}
use Rattle.places.specs.Limits.{roots_most, bundle_most}
use Rattle.record.specs.Fresh.{fresh}
use Rattle.record.specs.declared.Record.{Record}
use Rattle.record.specs.Parts.{issuer_span, subject_span, certificate_of}
use Rattle.record.proofs.Meaning.{issuer-within, subject-within, says-issuer, says-subject}
use Rattle.same.specs.Answers.{same_names}
use Rattle.same.specs.Same.{same_dn}
use Rattle.same.proofs.Spans.{spans_read}
use Rattle.certificates.specs.Certificates.{record_of, size_of}
use Rattle.certificates.proofs.Standing.{Stands}
use Rattle.card.specs.Content.{Content, Issuer, root, bundled, certificate_at, there, signed}
use Rattle.card.specs.Parts.{content_of}
use Rattle.card.specs.declared.Card.{Card}
use Rattle.card.proofs.Sections.{CardRead}
use Rattle.card.proofs.Signed.{root_signed_lem, bundle_signed_lem}
use Rattle.card.proofs.Standing.{root-at, bundled-at, roots_counted, roots_few, bundle_counted, bundle-few, root_stands, bundled-stands}
use Rattle.rows.specs.Rows.{has, row_of, listing}
use Rattle.rows.proofs.Places.{has-none, has-row}
use Rattle.rows.proofs.Listing.{listing-at}
use Rattle.issuing.specs.Issued.{likely_issued, issued, self_issued}
use Rattle.issuing.specs.Records.{likely_issued_at, self_issued_at, bundle_issued_at, root_issued_at, bundle_rows, root_rows}

-- ---- two records

-- the subject's issuer name beside the issuer's subject name
names_read : (s : List ℕ) (issuer subject : Record) → Stands s issuer → Stands s subject
    → same_names true (issuer_span subject) (subject_span issuer) s ≡ same_dn true (certificate_of subject s).issuer (certificate_of issuer s).subject
names_read s issuer subject i j =
    spans_read true s (issuer_span subject) (subject_span issuer) _ _ j.read.issuer i.read.subject
    (issuer-within s subject j.past j.read) (subject-within s issuer i.past i.read)
    ∙ rw (says-issuer s subject j.past j.read, says-subject s issuer i.past i.read)

pub likely_read : (s : List ℕ) (issuer subject : Record) → Stands s issuer → Stands s subject
    → likely_issued_at s issuer subject ≡ likely_issued (certificate_of issuer s) (certificate_of subject s)
unfolding likely_issued_at likely_issued
likely_read s issuer subject i j = rw (names_read s issuer subject i j)

-- ---- two places

and_swap : (a b : Bool) → a && b ≡ b && a
and_swap true true = refl
and_swap true false = refl
and_swap false true = refl
and_swap false false = refl

pub and_no : (a b : Bool) → b ≡ false → a && b ≡ false
and_no true b h = h
and_no false b h = refl

-- no one issued where the issuer is not there, and none that is not there was issued
pub no_issuer : (c : Content) (i : Issuer) (j : ℕ) → there c i ≡ false → issued c i j ≡ false
unfolding issued signed
no_issuer c i j h = and_no (likely_issued (certificate_at c i) (certificate_at c (bundled j))) _ (rw h)

no_subject : (c : Content) (i : Issuer) (j : ℕ) → length c.bundle ≤ j → issued c i j ≡ false
unfolding issued signed
no_subject c i j h =
    and_no (likely_issued (certificate_at c i) (certificate_at c (bundled j))) _
    (no_column (there c i) (eqb (get_or c.verdicts _ 0) 1) (le-ltb j (length c.bundle) h))
  where
    no_column : (a b : Bool) → ltb j (length c.bundle) ≡ false → a && ltb j (length c.bundle) && b ≡ false
    no_column true b e = rw e
    no_column false b e = refl

-- a verdict on two places, and two records that stand in the file and say the certificates there
pair_agrees : (s : List ℕ) (c : Content) (i : Issuer) (j : ℕ) (issuer subject : Record) → Stands s issuer → Stands s subject
    → certificate_at c i ≡ certificate_of issuer s → certificate_at c (bundled j) ≡ certificate_of subject s
    → (verdict : Bool) → verdict ≡ signed c i j → verdict && likely_issued_at s issuer subject ≡ issued c i j
unfolding issued
pair_agrees s c i j issuer subject v w is told verdict e =
    ap₂ ◌&&◌ e (likely_read s issuer subject v w ∙ sym (ap₂ likely_issued is told)) ∙ and_swap (signed c i j) _

-- ---- a list of rows

-- the rows of a test, for so many issuers of a kind and so many subjects, hold who issued whom at every two places if the test tells it
-- below the two counts and no one is there past them
module _ (c : Content) (kind : ℕ → Issuer) (test : ℕ → ℕ → Bool) (most issuers subjects : ℕ) where
  rows_agree : issuers ≤ 64 → ((i : ℕ) → issuers ≤ i → there c (kind i) ≡ false) → length c.bundle ≤ subjects
      → ((i j : ℕ) → i < issuers → j < subjects → test i j ≡ issued c (kind i) j)
      → (i j : ℕ) → has i (get_or (listing most subjects (λ j. row_of (λ i. test i j) issuers)) j 0) ≡ issued c (kind i) j
  rows_agree room past beyond below i j =
      ap (has i) (listing-at (λ j. row_of (λ i. test i j) issuers) most subjects j) ∙ by_subject (ltb j subjects) refl
    where
      by_issuer : j < subjects → (b : Bool) → ltb i issuers ≡ b → b && test i j ≡ issued c (kind i) j
      by_issuer h true e = below i j (ltb-true i issuers e) h
      by_issuer h false e = sym (no_issuer c (kind i) j (past i (ltb-false i issuers e)))

      by_subject : (b : Bool) → ltb j subjects ≡ b → has i (cond b (row_of (λ i. test i j) issuers) 0) ≡ issued c (kind i) j
      by_subject true e = has-row (λ i. test i j) issuers i room ∙ by_issuer (ltb-true j subjects e) (ltb i issuers) refl
      by_subject false e =
          let over : length c.bundle ≤ j = omega (arith, ltb-false j subjects e) in
          has-none i ∙ sym (no_subject c (kind i) j over)

-- ---- on a card that was read

-- what stands at a place that is there is told by no default
get_d_there : {A : Type 0} (l : List A) (i : ℕ) (d e : A) → i < length l → get_or l i d ≡ get_or l i e
get_d_there [] i d e h = absurd (omega arith)
get_d_there (x ∷ l) zero d e h = refl
get_d_there (x ∷ l) (suc i) d e h = get_d_there l i d e (omega arith)

pub size_is : (most count : ℕ) → count ≤ most → size_of most count ≡ count
unfolding size_of
size_is most count h = rw (le-leb count most h)

module _ (s : List ℕ) (c : Card) (e : ℕ) (t : CardRead s c e) where
  pub root_is : (i : ℕ) → i < c.roots.count
      → certificate_at (content_of c s) (root i) ≡ certificate_of (record_of c.roots.count c.roots.records i) s
  root_is i h = get_d_there (content_of c s).roots i _ (certificate_of fresh s) (omega (arith, roots_counted s c e t)) ∙ root-at c s i

  pub bundled-is : (i : ℕ) → i < c.bundle.count
      → certificate_at (content_of c s) (bundled i) ≡ certificate_of (record_of c.bundle.count c.bundle.records i) s
  bundled-is i h = get_d_there (content_of c s).bundle i _ (certificate_of fresh s) (omega (arith, bundle_counted s c e t)) ∙ bundled-at c s i

  pub self_issued_read : (i : ℕ) → i < c.bundle.count
      → self_issued_at s (record_of c.bundle.count c.bundle.records i) ≡ self_issued (certificate_at (content_of c s) (bundled i))
  unfolding self_issued_at
  self_issued_read i h = let r = bundled-stands s c e t i h in names_read s _ _ r r ∙ sym (ap self_issued (bundled-is i h))

  bundle_pair : (i j : ℕ) → i < c.bundle.count → j < c.bundle.count
      → bundle_issued_at s c.bundle c.verdicts i j ≡ issued (content_of c s) (bundled i) j
  unfolding bundle_issued_at
  bundle_pair i j h k =
      pair_agrees s (content_of c s) (bundled i) j _ _ (bundled-stands s c e t i h) (bundled-stands s c e t j k) (bundled-is i h) (bundled-is j k)
      _ (bundle_signed_lem s c e t i j)

  root_pair : (i j : ℕ) → i < c.roots.count → j < c.bundle.count
      → root_issued_at s c.roots c.verdicts (record_of c.bundle.count c.bundle.records j) i j ≡ issued (content_of c s) (root i) j
  unfolding root_issued_at
  root_pair i j h k =
      pair_agrees s (content_of c s) (root i) j _ _ (root_stands s c e t i h) (bundled-stands s c e t j k) (root_is i h) (bundled-is j k)
      _ (root_signed_lem s c e t i j)

  pub bundle_row_agrees : (i j : ℕ) → has i (get_or (bundle_rows s c.bundle c.verdicts) j 0) ≡ issued (content_of c s) (bundled i) j
  unfolding bundle_rows
  bundle_row_agrees i j =
      let count = bundle_counted s c e t in
      let few = bundle-few s c e t in
      rw (size_is bundle_most c.bundle.count (omega arith))
      (rows_agree (content_of c s) bundled (bundle_issued_at s c.bundle c.verdicts) bundle_most c.bundle.count c.bundle.count
      (omega arith) (λ i h. le-ltb i _ (omega arith)) (omega arith) bundle_pair i j)

  pub root_row_agrees : (i j : ℕ)
      → has i (get_or (root_rows s c.roots c.bundle c.verdicts) j 0) ≡ issued (content_of c s) (root i) j
  unfolding root_rows
  root_row_agrees i j =
      let count = bundle_counted s c e t in
      let few = bundle-few s c e t in
      let roots = roots_counted s c e t in
      let roots_most_lem = roots_few s c e t in
      rw (size_is bundle_most c.bundle.count (omega arith), size_is roots_most c.roots.count (omega arith))
      (rows_agree (content_of c s) root (λ i j. root_issued_at s c.roots c.verdicts (record_of c.bundle.count c.bundle.records j) i j)
      bundle_most c.roots.count c.bundle.count
      (omega arith) (λ i h. le-ltb i _ (omega arith)) (omega arith) root_pair i j)
