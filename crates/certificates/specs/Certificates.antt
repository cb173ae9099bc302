-- The two lists of certificates in a card file, roots and bundle (docs/CARD-FILE.md, "Layout"): how they stand in a file, each after its
-- count; and the record at a place. What is found are numbers and places in the file.
-- Not here: a record (record/specs/Record.antt); the limits (places/specs/Limits.antt); the certificates as values (`sections_p` of
-- card/specs/Content.antt).
use Rattle.std.specs.Prelude.{ℕ, ◌-◌, cond, List, ◌++◌, leb, ltb, length, get_or, replicate}
use Rattle.places.specs.Limits.{roots_most, bundle_most}
use Rattle.fields.specs.Fields.{Parsed, got, after, counted_p}
use Rattle.record.specs.Record.{record_p}
use Rattle.record.specs.Fresh.{fresh}
use Rattle.record.specs.declared.Record.{Record}
use Rattle.certificates.specs.declared.certificates.Certificates.{Certificates}

-- records in front, and the record of nothing but zeros at the places past them
unfoldable pub filled : ℕ → List Record → List Record
filled most records = records ++ replicate (most - length records) fresh

-- no certificates
abbrev pub fresh_certificates : (most : ℕ) → Certificates most
fresh_certificates most = record { count = 0; records = replicate most fresh }

abbrev pub filled_certificates : (most : ℕ) → Parsed (List Record) → Parsed (Certificates most)
filled_certificates most x = after x (λ l e. got (record { count = length l; records = filled most l }) e)

-- a count byte of no more than a limit, then records
unfoldable pub certificates_p : (most : ℕ) → List ℕ → ℕ → Parsed (Certificates most)
certificates_p most s at = filled_certificates most (counted_p 0 most record_p s at)

-- the roots, within their limit
abbrev pub roots_p : List ℕ → ℕ → Parsed (Certificates roots_most)
roots_p = certificates_p roots_most

-- the bundle, within its limit
abbrev pub bundle_p : List ℕ → ℕ → Parsed (Certificates bundle_most)
bundle_p = certificates_p bundle_most

-- ---- by place

-- how many records there are: a count, but no more than there is room for
unfoldable pub size_of : ℕ → ℕ → ℕ
size_of most count = cond (leb count most) count most

-- the record at a place; nothing but zeros at a place past the count
unfoldable pub record_of : ℕ → List Record → ℕ → Record
record_of count records place = cond (ltb place count) (get_or records place fresh) fresh
