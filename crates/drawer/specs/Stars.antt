-- The eleven worked cases that are proved, as one table over the definitions, and one theorem, `stars`. The program runs the others, and those
-- of the star again: they stand in its `stdin` with their answers in `stdout`. The laws on all inputs stand in the proofs of text, keys, same
-- and subtree.
use Rattle.std.specs.Prelude.{ℕ, ◌≡◌, refl, Bool, true, false, ◌&&◌, replicate}
use Prim.Native.Char.{code}
use Prim.Native.String.{String}
use Prim.Native.String as string
use Rattle.std.specs.Bool.{beq}
use mathlib.Core.List.{List, [], ◌∷◌, flat_map}
use Rattle.text.specs.Bytes.{lowered, same, starts_with}
use Rattle.text.specs.Normal.{onto, pieces, words_of, normal}
use Rattle.text.specs.Wildcard.{star_dot, label, under_domain, match_name}
use Rattle.keys.specs.Address.{masked, holds, ip_addr_in_range}
use Rattle.names.specs.Names.{Attr}
use Rattle.same.specs.Same.{same_attr}
use Rattle.subtree.specs.Subtree.{is_subtree_rdn}

-- a text's bytes
abbrev pub ascii : String → List ℕ
ascii string.[] = []
ascii (string.◌∷◌ c s) = code c ∷ ascii s

-- what is asked of the leaves
pub data Question : Type 0 where
  normal_form : String → String → Question
  matches : String → String → Question
  in_range : List ℕ → List ℕ → Question
  subtree_rdn : List Attr → List Attr → Question

unfoldable pub answer : Question → Bool
answer (normal_form s n) = same (normal (ascii s)) (ascii n)
answer (matches p n) = match_name (ascii p) (ascii n)
answer (in_range r a) = ip_addr_in_range r a
answer (subtree_rdn a b) = is_subtree_rdn true a b

pub record Case : Type 0 where
  pub asked : Question
  pub is : Bool

unfoldable pub right : List Case → Bool
right [] = true
right (c ∷ l) = beq (answer c.asked) c.is && right l

-- 192.0.2.5 under the mask 255.255.255.0
unfoldable pub net : List ℕ
net = 192 ∷ 0 ∷ 2 ∷ 5 ∷ 255 ∷ 255 ∷ 255 ∷ 0 ∷ []

-- two attributes of the same OID and different values
unfoldable pub a : Attr
a = record { oid = 1 ∷ []; value = ascii "a" }

unfoldable pub b : Attr
b = record { oid = 1 ∷ []; value = ascii "b" }

unfoldable pub table : List Case
table =
    record { asked = normal_form "  Bembo   Roman " "bembo roman"; is = true }
    ∷ record { asked = normal_form "   " ""; is = true }
    ∷ record { asked = matches "*.a.com" "a.com"; is = false }
    ∷ record { asked = matches "*.a.com" "x.a.com"; is = true }
    ∷ record { asked = matches "*.a.com" ".a.com"; is = false }
    ∷ record { asked = matches "*.a.com" "x.y.a.com"; is = false }
    ∷ record { asked = matches "*." "*."; is = false }
    ∷ record { asked = in_range net (192 ∷ 0 ∷ 2 ∷ 9 ∷ []); is = true }
    ∷ record { asked = in_range net (192 ∷ 0 ∷ 3 ∷ 9 ∷ []); is = false }
    ∷ record { asked = in_range net (replicate 16 0); is = false }
    ∷ record { asked = subtree_rdn (a ∷ a ∷ []) (a ∷ b ∷ []); is = true }
    ∷ []

-- every case of the table has the answer that stands beside it, and "*." matches no name at all
pub stars : (right table ≡ true) × ((name : List ℕ) → match_name star_dot name ≡ false)
unfolding lowered same starts_with onto pieces words_of flat_map normal label under_domain match_name masked holds ip_addr_in_range same_attr is_subtree_rdn answer right net a b table
stars = (refl, λ name. refl)
