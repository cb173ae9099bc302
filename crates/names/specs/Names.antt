-- What an attribute, an RDN and a name are, as the card file has them (docs/CARD-FILE.md, "Name"): limits, then what stands at a place. A
-- reader must believe this file (docs/MAP.md).
-- Not here: when two of them are the same (same/specs/Same.antt); where an attribute's parts stand (Answers.antt).
use Rattle.std.specs.Prelude.{ℕ, List}
use Rattle.fields.specs.Fields.{Parsed, got, after, string_p, counted_p}

pub record Attr : Type 0 where
  pub oid : List ℕ
  pub value : List ℕ

-- ---- limits

-- the most bytes of an OID, and of a value
abbrev pub oid_most : ℕ
oid_most = 16

abbrev pub value_most : ℕ
value_most = 255

-- the most attributes of an RDN
abbrev pub rdn_most : ℕ
rdn_most = 4

-- the most RDNs of a name
abbrev pub name_most : ℕ
name_most = 16

-- ---- what stands at a place

-- an OID of 1..16 bytes and a value of 0..255
unfoldable pub attr_p : List ℕ → ℕ → Parsed Attr
attr_p s at = after (string_p 1 oid_most s at) (λ o e. after (string_p 0 value_most s e) (λ v f. got (record { oid = o; value = v }) f))

-- an RDN: 1..4 attributes
unfoldable pub rdn_p : List ℕ → ℕ → Parsed (List Attr)
rdn_p = counted_p 1 rdn_most attr_p

-- a name: 0..16 RDNs
unfoldable pub name_p : List ℕ → ℕ → Parsed (List (List Attr))
name_p = counted_p 0 name_most rdn_p
