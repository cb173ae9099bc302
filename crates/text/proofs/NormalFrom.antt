-- The normal form as the loop of `normalize_string` writes it, byte by byte, with upstream's two flags: `normal_from`, and the law
-- `normal_from_lem` that this is the normal form of specs/Normal.antt. The loop itself: Form.antt.
use Prim.Native.Nat.{ℕ}
use mathlib.Core.Path.{◌≡◌, refl, sym, ◌∙◌}
use mathlib.Core.Bool.{Bool, true, false, cond, ◌&&◌}
use mathlib.Core.List.{List, [], ◌∷◌, ◌++◌, map, flat_map}
use native.Mathlib.Omega.{arith}
use lib.ListN.{drop}
use lib.Dec.{eqb}
use Rattle.text.specs.Bytes.{lowered}
use Rattle.text.specs.Normal.{onto, pieces, words_of, normal}
use Rattle.text.proofs.Lowering.{lowered_sign}

-- what is left to write, by whether a byte other than a space was seen, and a space since the last of those
unfoldable pub normal_from : Bool → Bool → List ℕ → List ℕ
normal_from nw ws [] = []
normal_from nw ws (b ∷ l) =
    cond (eqb b 32)
    (normal_from nw true l)
    (cond (nw && ws) (32 ∷ []) [] ++ lowered b ∷ normal_from true false l)

-- each word after a space
unfoldable spaced : List (List ℕ) → List ℕ
spaced ps = flat_map (λ w. 32 ∷ w) (words_of ps)

-- what the pieces of the rest come to after what was seen: the first of them goes on with a word that no space has ended
unfoldable left : Bool → Bool → List (List ℕ) → List ℕ
left false ws ps = drop 1 (spaced ps)
left true true ps = spaced ps
left true false [] = []
left true false (p ∷ ps) = p ++ spaced ps

left_space : (nw ws : Bool) (ps : List (List ℕ)) → left nw true ps ≡ left nw ws ([] ∷ ps)
unfolding left spaced words_of
left_space false ws ps = refl
left_space true true ps = refl
left_space true false ps = refl

left_byte : (nw ws : Bool) (c : ℕ) (ps : List (List ℕ)) → cond (nw && ws) (32 ∷ []) [] ++ c ∷ left true false ps ≡ left nw ws (onto c ps)
unfolding left spaced words_of onto flat_map
left_byte false ws c [] = refl
left_byte false ws c (p ∷ ps) = refl
left_byte true true c [] = refl
left_byte true true c (p ∷ ps) = refl
left_byte true false c [] = refl
left_byte true false c (p ∷ ps) = refl

left-none : (nw ws : Bool) → [] ≡ left nw ws ([] ∷ [])
unfolding left spaced words_of flat_map
left-none false ws = refl
left-none true true = refl
left-none true false = refl

from_left : (nw ws : Bool) (l : List ℕ) → normal_from nw ws l ≡ left nw ws (pieces (map lowered l))
unfolding normal_from pieces
from_left nw ws [] = left-none nw ws
from_left nw ws (b ∷ l) = rw (lowered_sign 32 b (omega arith)) (go (from_left nw true l) (from_left true false l) (eqb b 32)) where
  go : normal_from nw true l ≡ left nw true (pieces (map lowered l))
      → normal_from true false l ≡ left true false (pieces (map lowered l))
      → (t : Bool)
      → cond t (normal_from nw true l) (cond (nw && ws) (32 ∷ []) [] ++ lowered b ∷ normal_from true false l)
      ≡ left nw ws (cond t ([] ∷ pieces (map lowered l)) (onto (lowered b) (pieces (map lowered l))))
  go space byte true = space ∙ left_space nw ws (pieces (map lowered l))
  go space byte false = rw byte (left_byte nw ws (lowered b) (pieces (map lowered l)))

-- a space is owed to a byte that was seen, and so only then
pub gap_seen : (nw : Bool) (l : List ℕ) → normal_from nw true l ≡ normal_from nw nw l
unfolding left
gap_seen true l = refl
gap_seen false l = from_left false true l ∙ sym (from_left false false l)

pub normal_from_lem : (s : List ℕ) → normal_from false false s ≡ normal s
unfolding normal left spaced
normal_from_lem s = from_left false false s
