-- A certificate, and how a card file has it (docs/CARD-FILE.md, "Record"): its parts, the pairs of flags, and its reader, part by part with
-- their limits, judged from left to right. A reader must believe this file (docs/MAP.md).
-- Not here: what each flag says (extensions/specs/Flags.antt), usages and DNS names (lists/specs/Lists.antt), names
-- (names/specs/Names.antt); where the parts stand in a file (Record.antt), and that both read the same (proofs/Values.antt).
use Rattle.std.specs.Prelude.{ℕ, Bool, cond, ◌&&◌, ◌||◌, not, List}
use Rattle.std.proofs.Math.Option.{Option}
use Rattle.fields.specs.Fields.{Parsed, got, stop, after, byte_p, string_p, big_p, counted_p, optional_p}
use Rattle.names.specs.Names.{Attr, name_p}
use Rattle.lists.specs.Lists.{usage_p, dns_name_p, usages_most, dns_names_most}
use Rattle.extensions.specs.Flags.{has_authority_key_id, has_authority_serial, has_subject_key_id, ca, has_path_length, has_key_usage, may_sign, key_id_most, serial_most}

pub record Certificate : Type 0 where
  pub version : ℕ
  pub flags : ℕ
  pub not-before : ℕ
  pub not_after : ℕ
  pub serial : List ℕ
  pub outer : List ℕ
  pub inner : List ℕ
  pub issuer : List (List Attr)
  pub subject : List (List Attr)
  pub authority_key_id : Option (List ℕ)
  pub authority-serial : Option (List ℕ)
  pub subject_key_id : Option (List ℕ)
  pub path-length : Option ℕ
  pub usages : List ℕ
  pub dns_names : List (List ℕ)

-- a certificate of its parts, in their order
abbrev pub certificate : ℕ → ℕ → ℕ → ℕ → List ℕ → List ℕ → List ℕ → List (List Attr) → List (List Attr)
    → Option (List ℕ) → Option (List ℕ) → Option (List ℕ) → Option ℕ → List ℕ → List (List ℕ) → Certificate
certificate version flags notBefore notAfter serial outer inner issuer subject authorityKeyId authoritySerial subjectKeyId pathLength usages dnsNames =
    record {
      version = version;
      flags = flags;
      not-before = notBefore;
      not_after = notAfter;
      serial = serial;
      outer = outer;
      inner = inner;
      issuer = issuer;
      subject = subject;
      authority_key_id = authorityKeyId;
      authority-serial = authoritySerial;
      subject_key_id = subjectKeyId;
      path-length = pathLength;
      usages = usages;
      dns_names = dnsNames;
    }

-- a path length is a CA's, and who may sign says so by its key usage
unfoldable pub paired : ℕ → Bool
paired flags = (not (has_path_length flags) || ca flags) && (not (may_sign flags) || has_key_usage flags)

-- flags, judged when they are read
unfoldable pub flags_p : List ℕ → ℕ → Parsed ℕ
flags_p s at = after (byte_p s at) (λ flags e. cond (paired flags) (got flags e) (stop 8))

-- the most bytes of an algorithm
abbrev pub algorithm_most : ℕ
algorithm_most = 32

-- a certificate in a file: each part where the one before it ends
unfoldable pub certificate_p : List ℕ → ℕ → Parsed Certificate
certificate_p s at =
    after (byte_p s at) (λ version a.
    after (flags_p s a) (λ flags b.
    after (big_p 8 s b) (λ notBefore c.
    after (big_p 8 s c) (λ notAfter d.
    after (string_p 1 serial_most s d) (λ serial e.
    after (string_p 1 algorithm_most s e) (λ outer f.
    after (string_p 1 algorithm_most s f) (λ inner g.
    after (name_p s g) (λ issuer h.
    after (name_p s h) (λ subject i.
    after (optional_p (has_authority_key_id flags) (string_p 1 key_id_most) s i) (λ authorityKeyId j.
    after (optional_p (has_authority_serial flags) (string_p 1 serial_most) s j) (λ authoritySerial k.
    after (optional_p (has_subject_key_id flags) (string_p 1 key_id_most) s k) (λ subjectKeyId l.
    after (optional_p (has_path_length flags) byte_p s l) (λ pathLength m.
    after (counted_p 0 usages_most usage_p s m) (λ usages n.
    after (counted_p 0 dns_names_most dns_name_p s n) (λ dnsNames o.
    got (certificate version flags notBefore notAfter serial outer inner issuer subject authorityKeyId authoritySerial subjectKeyId pathLength usages dnsNames) o)))))))))))))))
