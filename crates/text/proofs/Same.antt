-- `same` is equality (`same_sound`, `same_refl`) and what std's `==` answers (`same_std`); two strings compared pair by pair, as the fold of
-- `equal_lowering` does (`alike`); and what a string from a place on reads (`tail`). Definitions: specs/Bytes.antt, specs/Private.antt.
use Prim.Native.Nat.{ℕ, ◌-◌}
use mathlib.Core.Path.{◌≡◌, refl, sym, ap, ◌∙◌}
use mathlib.Core.Bool.{Bool, true, false, ◌&&◌, and-true, false≢true}
use mathlib.Core.List.{List, [], ◌∷◌, ◌++◌, map}
use native.Mathlib.Omega.{arith}
use lib.Dec.{eqb}
use lib.ListN.{length, take, drop, length-map, length-drop}
use borrow.Author.Tests.{eqb-true, eq-eqb}
use Rattle.std.specs.List.{list_all, zip}
use Rattle.std.specs.Str.{bytes_eq}
use Rattle.std.proofs.lemmas.List.Folds.{list_all-append}
use Rattle.std.proofs.lemmas.Slice.{between_to_end}
use Rattle.text.specs.Bytes.{same}
use Rattle.text.proofs.Each.{both_true}

-- ---- `same` is equality

pub same_sound : (a b : List ℕ) → same a b ≡ true → a ≡ b
unfolding same
same_sound [] [] e = refl
same_sound [] (y ∷ b) e = absurd (false≢true e)
same_sound (x ∷ a) [] e = absurd (false≢true e)
same_sound (x ∷ a) (y ∷ b) e =
    let h = (both_true (eqb x y) (same a b)).0 e in
    let q : x ≡ y = eqb-true x y h.0 in
    let r : a ≡ b = same_sound a b h.1 in
    cc

pub same_refl : (a : List ℕ) → same a a ≡ true
unfolding same
same_refl [] = refl
same_refl (x ∷ a) = rw (eq-eqb x x refl) (same_refl a)

pub differ : (a b : List ℕ) → (a ≡ b → ⊥) → same a b ≡ false
differ a b n = go (same a b) refl where
  go : (t : Bool) → same a b ≡ t → t ≡ false
  go true e = absurd (n (same_sound a b e))
  go false e = refl

-- what std's `==` answers
pub same_std : (a b : List ℕ) → bytes_eq a b ≡ same a b
unfolding same
same_std [] [] = refl
same_std [] (y ∷ b) = refl
same_std (x ∷ a) [] = refl
same_std (x ∷ a) (y ∷ b) = rw (same_std a b)

-- ---- two strings compared byte by byte, each byte as f has it

-- the bytes of each pair are the same
abbrev pub alike : (ℕ → ℕ) → List (ℕ × ℕ) → Bool
alike f pairs = list_all (λ p. eqb (f p.0) (f p.1)) pairs

module _ (f : ℕ → ℕ) where
  pub alike-push : (pairs : List (ℕ × ℕ)) (x y : ℕ) → alike f (pairs ++ (x, y) ∷ []) ≡ (alike f pairs && eqb (f x) (f y))
  alike-push pairs x y = list_all-append _ pairs _ ∙ ap (λ t. alike f pairs && t) (and-true (eqb (f x) (f y)))

  pub alike_same : (a b : List ℕ) → length a ≡ length b → alike f (zip a b) ≡ same (map f a) (map f b)
  unfolding same
  alike_same [] [] e = refl
  alike_same [] (y ∷ b) e = absurd (omega arith)
  alike_same (x ∷ a) [] e = absurd (omega arith)
  alike_same (x ∷ a) (y ∷ b) e = rw (alike_same a b (omega arith))

  pub lengths_differ : (a b : List ℕ) → (length a ≡ length b → ⊥) → same (map f a) (map f b) ≡ false
  lengths_differ a b n = differ _ _ (λ e. n (sym (length-map a f) ∙ ap length e ∙ length-map b f))

-- `&l[k..]`
pub tail : (k : ℕ) (l : List ℕ) → take (length l - k) (drop k l) ≡ drop k l
tail k l = between_to_end l k (length l) (omega arith)

pub tail-length : (k : ℕ) (l : List ℕ) → length (take (length l - k) (drop k l)) ≡ length l - k
tail-length k l = ap length (tail k l) ∙ length-drop k l
