-- When two RDNs or names are the same (docs/CARD-FILE.md, "Names related"; RFC 5280, 7.1; upstream's `same_rdn`, `same_dn`, which keep the
-- order in an RDN: docs/DIFFERENCES.md, F2). The first of two comes first throughout, since which is first can decide. A reader must believe
-- this file (docs/MAP.md).
-- Not here: two attributes (Matching.antt, whose `same_attr` is handed on); subtrees (subtree/specs/Subtree.antt).
use Rattle.std.specs.Prelude.{ℕ, ◌≡◌, refl, Bool, true, false, ◌&&◌, length, eqb}
use mathlib.Core.List.{List, [], ◌∷◌, flat_map}
use Rattle.text.specs.Bytes.{same}
use Rattle.text.specs.Normal.{pieces, words_of, normal}
use Rattle.names.specs.Names.{Attr}
use Rattle.same.specs.Matching.{matched}
unfoldable pub use Rattle.same.specs.Matching.{same_attr}

-- q holds at each place of the first list, which is no longer than the second
unfoldable pub places : {A : Type 0} → (A → A → Bool) → List A → List A → Bool
places q [] m = true
places q (x ∷ l) [] = false
places q (x ∷ l) (y ∷ m) = q x y && places q l m

-- as many attributes, and each of the first has a match in the second (RFC 5280, 7.1: "they have the same number of naming attributes and
-- for each naming attribute in RDN1 there is a matching naming attribute in RDN2")
unfoldable pub same_rdn : Bool → List Attr → List Attr → Bool
same_rdn normalise a b = eqb (length a) (length b) && matched normalise a b

-- it has a direction: (a, a) is the same as (a, b), and (a, b) is not the same as (a, a)
abbrev lone : ℕ → Attr
lone oid = record { oid = oid ∷ []; value = [] }

pub one_way : (normalise : Bool)
    → (same_rdn normalise (lone 97 ∷ lone 97 ∷ []) (lone 97 ∷ lone 98 ∷ []) ≡ true)
    × (same_rdn normalise (lone 97 ∷ lone 98 ∷ []) (lone 97 ∷ lone 97 ∷ []) ≡ false)
unfolding same_rdn same_attr same normal words_of pieces flat_map
one_way true = (refl, refl)
one_way false = (refl, refl)

-- as many RDNs, each of the first the same as the one at its place in the second
unfoldable pub same_dn : Bool → List (List Attr) → List (List Attr) → Bool
same_dn normalise a b = eqb (length a) (length b) && places (same_rdn normalise) a b
