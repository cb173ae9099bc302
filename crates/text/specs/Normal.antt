-- The normal form of a string, in which names are compared (docs/CARD-FILE.md, "Text"; upstream's `normalize_string`; RFC 5280, 7.1): its
-- words, lowered and joined by one space. A reader must believe this file (docs/MAP.md).
-- Not here: what the function answers and writes (Normalize.antt); the form byte by byte, as upstream has it (`normal_from_lem` of
-- proofs/NormalFrom.antt); a byte lowered (Bytes.antt).
use Rattle.std.specs.Prelude.{ℕ, cond, drop, eqb}
use mathlib.Core.List.{List, [], ◌∷◌, map, flat_map}
use Rattle.text.specs.Bytes.{lowered}

-- a byte in front of the first piece
unfoldable pub onto : ℕ → List (List ℕ) → List (List ℕ)
onto b [] = (b ∷ []) ∷ []
onto b (p ∷ ps) = (b ∷ p) ∷ ps

-- the pieces between spaces, some of them empty
unfoldable pub pieces : List ℕ → List (List ℕ)
pieces [] = [] ∷ []
pieces (b ∷ l) = cond (eqb b 32) ([] ∷ pieces l) (onto b (pieces l))

-- the words: the pieces that are not empty
unfoldable pub words_of : List (List ℕ) → List (List ℕ)
words_of [] = []
words_of ([] ∷ ps) = words_of ps
words_of ((b ∷ w) ∷ ps) = (b ∷ w) ∷ words_of ps

-- the words, lowered and joined by one space: each gets a space in front, and the first of these spaces goes
unfoldable pub normal : List ℕ → List ℕ
normal s = drop 1 (flat_map (λ w. 32 ∷ w) (words_of (pieces (map lowered s))))
