-- When two attributes are the same, and an RDN looked through for the attributes of another, wherever they stand (docs/CARD-FILE.md, "Names
-- related"; upstream's `same_attr`, `rdn_has_name`). A flag says whether values are compared in normal form. A reader must believe this file
-- (docs/MAP.md).
-- Not here: the normal form (text/specs/Normal.antt); RDNs and names that are the same (Same.antt); subtrees (subtree/specs/Subtree.antt).
use Rattle.std.specs.Prelude.{Bool, cond, ◌&&◌, List}
use Rattle.text.specs.Bytes.{same}
use Rattle.text.specs.Each.{any, all}
use Rattle.text.specs.Normal.{normal}
use Rattle.names.specs.Names.{Attr}

-- equal OID, and equal value, normalised when the flag says so
unfoldable pub same_attr : Bool → Attr → Attr → Bool
same_attr normalise a b = same a.oid b.oid && cond normalise (same (normal a.value) (normal b.value)) (same a.value b.value)

-- some attribute of the RDN is the same as this one
abbrev pub rdn_has_name : Bool → List Attr → Attr → Bool
rdn_has_name normalise rdn name = any (λ a. same_attr normalise a name) rdn

-- each attribute of the first has a match in the second
abbrev pub matched : Bool → List Attr → List Attr → Bool
matched normalise a b = all (rdn_has_name normalise b) a
