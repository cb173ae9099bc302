-- When an RDN or a name lies under another, each by the flag that says whether values are compared in normal form (docs/CARD-FILE.md,
-- "Names related"; upstream's `is_subtree_rdn`, `is_subtree_of`; RFC 5280, 7.1, which asks for more: docs/DIFFERENCES.md, F3).
-- Not here: when two are the same (same/specs/Same.antt); an attribute looked for in an RDN (same/specs/Matching.antt); what is answered to
-- encoded arguments (same/specs/Answers.antt); upstream's quantifiers (proofs/Upstream.antt).
use Rattle.std.specs.Prelude.{Bool, ◌&&◌, List, length, leb}
use Rattle.names.specs.Names.{Attr}
use Rattle.same.specs.Same.{places}
use Rattle.same.specs.Matching.{matched}

-- no more attributes, and the second has each of the first's
unfoldable pub is_subtree_rdn : Bool → List Attr → List Attr → Bool
is_subtree_rdn normalise a b = leb (length a) (length b) && matched normalise a b

-- no more RDNs, each a subtree of the one at its place
unfoldable pub is_subtree_of : Bool → List (List Attr) → List (List Attr) → Bool
is_subtree_of normalise a b = leb (length a) (length b) && places (is_subtree_rdn normalise) a b
