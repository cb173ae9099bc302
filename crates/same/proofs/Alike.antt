-- The table that `alike` looks two bytes up in: each entry is its byte lowered (`entry`); bytes that are equal are so lowered too
-- (`equal_too`). Two tests for equality that come to the same: `tests_agree`. A byte lowered: text/specs/Bytes.antt.
use Prim.Native.Nat.{ℕ, ◌<◌}
use mathlib.Core.Path.{◌≡◌, refl, sym, ap, ◌∙◌}
use mathlib.Core.Bool.{Bool, true, false, ◌||◌}
use mathlib.Core.List.{map}
use native.Mathlib.Omega.{arith}
use lib.Dec.{eqb}
use lib.ListN.{get_or}
use borrow.Author.Tests.{eq-eqb, ne_eqb, eqb-true, eqb-false}
use Rattle.std.specs.List.{range_with_len}
use Rattle.std.proofs.lemmas.List.FromFn.{get_or-map-range_with_len}
use Rattle.text.specs.Bytes.{lowered}
use Rattle.same.specs.declared.values.TheConstants.{LOWERED}

pub tests_agree : (a b c d : ℕ) → (a ≡ b → c ≡ d) → (c ≡ d → a ≡ b) → eqb a b ≡ eqb c d
tests_agree a b c d f g = go (eqb c d) refl where
  go : (t : Bool) → eqb c d ≡ t → eqb a b ≡ t
  go true e = eq-eqb a b (g (eqb-true c d e))
  go false e = ne_eqb a b (λ p. eqb-false c d e (f p))

table : LOWERED ≡ map lowered (range_with_len 0 256)
unfolding lowered
table = refl

pub entry : (b : ℕ) → b < 256 → get_or LOWERED b 0 ≡ lowered b
entry b h = ap (λ t. get_or t b 0) table ∙ get_or-map-range_with_len lowered 0 256 b b 0 h (omega arith)

pub equal_too : (x y : ℕ) → eqb x y || eqb (lowered x) (lowered y) ≡ eqb (lowered x) (lowered y)
equal_too x y = go (eqb x y) refl where
  go : (t : Bool) → eqb x y ≡ t → t || eqb (lowered x) (lowered y) ≡ eqb (lowered x) (lowered y)
  go true e = sym (eq-eqb _ _ (ap lowered (eqb-true x y e)))
  go false e = refl
