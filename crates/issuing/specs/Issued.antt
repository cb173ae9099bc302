-- Who issued whom (docs/CARD-FILE.md, "Who issued whom"; upstream's `likely_issued` and `issued`): key identifiers that fit, likely issued,
-- issued; and a certificate that is self-issued. A reader must believe this file (docs/MAP.md).
-- Not here: when names are the same (same/specs/Same.antt); the authority key id check (keys/specs/AuthKeyId.antt); the verdict (`signed`
-- of card/specs/Content.antt); the same of records (Records.antt), joined to this in proofs/Agrees.antt.
use Rattle.std.specs.Prelude.{ℕ, Bool, true, ◌&&◌}
use Rattle.same.specs.Same.{same_dn}
use Rattle.keys.specs.AuthKeyId.{check_auth_key_id}
use Rattle.record.specs.Certificate.{Certificate}
use Rattle.card.specs.Content.{Content, Issuer, bundled, certificate_at, signed}

-- the subject's authority key id and serial fit the issuer's subject key id and serial
unfoldable pub keys_fit : Certificate → Certificate → Bool
keys_fit issuer subject =
    check_auth_key_id subject.authority_key_id subject.authority-serial issuer.subject_key_id issuer.serial

-- the subject's issuer name, which comes first, is the same as the issuer's subject name, normalised, and the key identifiers fit
unfoldable pub likely_issued : Certificate → Certificate → Bool
likely_issued issuer subject = same_dn true subject.issuer issuer.subject && keys_fit issuer subject

-- issued: likely issued, and verdict 1
unfoldable pub issued : Content → Issuer → ℕ → Bool
issued c i j = likely_issued (certificate_at c i) (certificate_at c (bundled j)) && signed c i j

-- self-issued (RFC 5280, 6.1): its issuer name, which comes first, is the same as its subject name, normalised
abbrev pub self_issued : Certificate → Bool
self_issued c = same_dn true c.issuer c.subject
