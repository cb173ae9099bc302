-- Each thing is the same as itself: an attribute, an RDN (`rdn_refl`), a name (`dn_refl`), and a name by its bytes (`encoded_refl`). For
-- Spans.antt. When two are the same: specs/Same.antt; that the same bytes are the same name: names/proofs/Alike.antt.
use Prim.Native.Nat.{ℕ}
use mathlib.Core.Path.{◌≡◌, refl}
use mathlib.Core.Bool.{Bool, true, false}
use mathlib.Core.List.{List, [], ◌∷◌}
use lib.ListN.{length}
use borrow.Author.Tests.{eq-eqb}
use Rattle.text.specs.Bytes.{same}
use Rattle.text.specs.Normal.{normal}
use Rattle.text.proofs.Same.{same_sound, same_refl}
use Rattle.fields.specs.Fields.{got, whole}
use Rattle.names.specs.Names.{Attr, name_p}
use Rattle.same.specs.Same.{places, same_rdn, same_dn}
use Rattle.same.specs.Matching.{same_attr}
use Rattle.same.specs.Answers.{asked}
use Rattle.same.proofs.Upstream.{rdn_upstream_lem}

attr_refl : (n : Bool) (a : Attr) → same_attr n a a ≡ true
unfolding same_attr
attr_refl true a = rw (same_refl a.oid, same_refl (normal a.value))
attr_refl false a = rw (same_refl a.oid, same_refl a.value)

places_refl : {A : Type 0} (q : A → A → Bool) → ((x : A) → q x x ≡ true) → (l : List A) → places q l l ≡ true
unfolding places
places_refl q h [] = refl
places_refl q h (x ∷ l) = rw (h x, places_refl q h l)

pub rdn_refl : (n : Bool) (a : List Attr) → same_rdn n a a ≡ true
rdn_refl n a = rdn_upstream_lem n a a (rw (eq-eqb (length a) (length a) refl, places_refl (same_attr n) (attr_refl n) a))

pub dn_refl : (n : Bool) (a : List (List Attr)) → same_dn n a a ≡ true
unfolding same_dn
dn_refl n a = rw (eq-eqb (length a) (length a) refl, places_refl (same_rdn n) (rdn_refl n) a)

-- the same bytes, where they are a name
pub encoded_refl : (n : Bool) (s t : List ℕ) (x : List (List Attr)) (e : ℕ) → whole name_p s ≡ got x e → same s t ≡ true
    → asked (same_dn n) (whole name_p s) (whole name_p t) ≡ 1
encoded_refl n s t x e h k = rw (← same_sound s t k, h, dn_refl n x)
