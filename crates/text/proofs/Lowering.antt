-- A byte as std lowers it (`lowered_std`); a string whose bytes are lowered where that is asked (`low`), and what lowering does not
-- move (`lowered_sign`, and so the dot of `low_dot` and the star of `low_star`). For Star.antt and src/wildcard.rt; a byte lowered:
-- specs/Bytes.antt, specs/Private.antt.
use Prim.Native.Nat.{ℕ, ◌+◌, ◌<◌, ◌≤◌}
use mathlib.Core.Path.{◌≡◌, refl, sym, ◌∙◌}
use mathlib.Core.Bool.{Bool, true, false, cond, ◌&&◌}
use mathlib.Core.List.{List, [], ◌∷◌, map}
use native.Mathlib.Omega.{arith}
use lib.Dec.{eqb, leb}
use lib.ListN.{take, length-map}
use borrow.Author.Tests.{leb-true, ne_eqb}
use Rattle.std.specs.Char.{to_ascii_lowercase}
use Rattle.std.proofs.lemmas.Bool.Decides.{nat_tests}
use Rattle.text.specs.Bytes.{lowered, same, starts_with}
use Rattle.text.specs.Private.{lowered_if, has_byte}
use Rattle.text.specs.Wildcard.{star_dot}
use Rattle.text.proofs.Each.{both_true}

-- what std lowers
pub lowered_std : (b : ℕ) → to_ascii_lowercase b ≡ lowered b
unfolding lowered
lowered_std b = grind (arith, nat_tests)

-- a string as it is compared
abbrev pub low : Bool → List ℕ → List ℕ
low lowering l = map (lowered_if lowering) l

-- a sign below the letters is no byte's but its own
pub lowered_sign : (sign b : ℕ) → sign < 65 → eqb (lowered b) sign ≡ eqb b sign
unfolding lowered
lowered_sign sign b h = go (leb 65 b && leb b 90) refl where
  go : (t : Bool) → (leb 65 b && leb b 90) ≡ t → eqb (cond t (b + 32) b) sign ≡ eqb b sign
  go false e = refl
  go true e =
      let p : 65 ≤ b = leb-true _ _ ((both_true (leb 65 b) (leb b 90)).0 e).0 in
      ne_eqb (b + 32) sign (λ q. omega arith) ∙ sym (ne_eqb b sign (λ q. omega arith))

low_sign : (lowering : Bool) (sign b : ℕ) → sign < 65 → eqb (lowered_if lowering b) sign ≡ eqb b sign
low_sign true sign b h = lowered_sign sign b h
low_sign false sign b h = refl

module _ (lowering : Bool) where
  pub low_dot : (l : List ℕ) → has_byte 46 (low lowering l) ≡ has_byte 46 l
  low_dot [] = refl
  low_dot (x ∷ l) = rw (low_sign lowering 46 x (omega arith), low_dot l)

  star_same : (l : List ℕ) → same (take 2 (low lowering l)) star_dot ≡ same (take 2 l) star_dot
  unfolding same
  star_same [] = refl
  star_same (x ∷ []) = rw (low_sign lowering 42 x (omega arith))
  star_same (x ∷ y ∷ l) = rw (low_sign lowering 42 x (omega arith), low_sign lowering 46 y (omega arith))

  pub low_star : (l : List ℕ) → starts_with (low lowering l) star_dot ≡ starts_with l star_dot
  unfolding starts_with
  low_star l = rw (length-map, star_same l)
