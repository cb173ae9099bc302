-- Where a record's extensions stand, for readers that copy nothing: the parts that its flags announce, then its lists, each with its
-- limits, judged from left to right. What the flags say: Flags.antt; the lists: lists/specs/Runs.antt; the same by values, in a
-- certificate: record/specs/Certificate.antt, joined to this in proofs/Values.antt.
use Rattle.std.specs.Prelude.{ℕ, Bool, cond, List}
use Rattle.std.proofs.Math.Option.{Option, none, some}
use Rattle.fields.specs.Fields.{Parsed, got, after, byte_p}
use Rattle.fields.specs.Spans.{span_p, nowhere}
use Rattle.fields.specs.declared.string.Span.{Span}
use Rattle.lists.specs.Runs.{usages_p, dns_names_p}
use Rattle.extensions.specs.Flags.{has_authority_key_id, has_authority_serial, has_subject_key_id, has_path_length, key_id_most, serial_most}
use Rattle.extensions.specs.declared.KeyIds.{KeyIds}
use Rattle.extensions.specs.declared.Extensions.{Extensions}

-- a part, where its flag is set
abbrev pub present : {A : Type 0} → Bool → A → Option A
present b a = cond b (some a) none

-- where a string of 1 to so many bytes stands, where its flag is set
unfoldable pub span_if_p : Bool → ℕ → List ℕ → ℕ → Parsed Span
span_if_p present most s at = cond present (span_p 1 most s at) (got nowhere at)

-- authority key id 1..64, authority serial 1..20, subject key id 1..64, each by its flag
unfoldable pub key_ids_p : ℕ → List ℕ → ℕ → Parsed KeyIds
key_ids_p flags s at =
    after (span_if_p (has_authority_key_id flags) key_id_most s at) (λ akid e.
    after (span_if_p (has_authority_serial flags) serial_most s e) (λ aserial f.
    after (span_if_p (has_subject_key_id flags) key_id_most s f) (λ skid g.
    got (record { authority = akid; authority_serial = aserial; subject = skid }) g)))

-- a path length byte, by its flag
unfoldable pub path_length_p : ℕ → List ℕ → ℕ → Parsed ℕ
path_length_p flags s at = cond (has_path_length flags) (byte_p s at) (got 0 at)

-- key ids, path length, usages 0..8, DNS names 0..32
unfoldable pub extensions_p : ℕ → List ℕ → ℕ → Parsed Extensions
extensions_p flags s at =
    after (key_ids_p flags s at) (λ keyIds e.
    after (path_length_p flags s e) (λ pathLength f.
    after (usages_p s f) (λ usages g.
    after (dns_names_p s g) (λ dnsNames h.
    got (record { key_ids = keyIds; path_length = pathLength; usages = usages; dns_names = dnsNames }) h))))
