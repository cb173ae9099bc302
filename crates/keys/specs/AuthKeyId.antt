-- When an issuer is the one that a subject names (upstream's `check_auth_key_id`; docs/CARD-FILE.md, "Keys and addresses"; RFC 5280,
-- 4.2.1.1, which asks for more: docs/DIFFERENCES.md, F4). A reader must believe this file (docs/MAP.md).
-- Not here: which parts of two certificates are handed in (issuing/specs/Issued.antt); an optional part as code lends it (Given.antt); that upstream's
-- clause is the same (`auth_key_id_upstream` of proofs/Upstream.antt); address ranges (Address.antt).
use Rattle.std.specs.Prelude.{ℕ, Bool, true, ◌&&◌, List}
use Rattle.std.proofs.Math.Option.{Option, none, some}
use Rattle.text.specs.Bytes.{same}

-- compared byte for byte where both are present
abbrev pub agree : Option (List ℕ) → Option (List ℕ) → Bool
agree (some a) (some b) = same a b
agree (some a) none = true
agree none b = true

-- the subject's authority key id and authority serial against the issuer's subject key id and serial
unfoldable pub check_auth_key_id : Option (List ℕ) → Option (List ℕ) → Option (List ℕ) → List ℕ → Bool
check_auth_key_id akid aserial skid serial = agree akid skid && agree aserial (some serial)
