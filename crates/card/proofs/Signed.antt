-- Who signed whom on a card that was read, by the bytes where its verdicts stand and by what it says, are the same (`root_signed_lem`,
-- `bundle_signed_lem`); past the end both are false. For issuing/proofs/Agrees.antt. By bytes: verdicts/specs/Grid.antt; by what the card says:
-- `signed` of specs/Content.antt.
use Prim.Native.Nat.{ℕ, suc, ◌+◌, ◌*◌, ◌<◌}
use mathlib.Core.Path.{◌≡◌, refl, sym, ap, ◌∙◌}
use mathlib.Core.Bool.{Bool, true, false, ◌&&◌}
use mathlib.Core.List.{List}
use native.Mathlib.Omega.{arith}
use native.Mathlib.Nat.{suc-mul, mul-le-mul_right}
use lib.Dec.{eqb, ltb}
use lib.ListN.{length, get_or}
use borrow.Author.Tests.{ltb-true}
use Rattle.verdicts.specs.Grid.{signed_at, root_signed, bundle_signed}
use Rattle.verdicts.proofs.Rows.{verdict_byte}
use Rattle.card.specs.Content.{root, bundled, signed}
use Rattle.card.specs.Parts.{content_of}
use Rattle.card.specs.declared.Card.{Card}
use Rattle.card.proofs.Sections.{CardRead}
use Rattle.card.proofs.Standing.{roots_counted, bundle_counted, verdicts_are}

-- ---- a row and a column

within-rows : (row rows column columns : ℕ) → row < rows → column < columns → row * columns + column < rows * columns
within-rows row rows column columns r c = omega (arith, mul-le-mul_right {m = suc row} {n = rows} columns r, suc-mul row columns)

-- tests that tell the same where there is such a row and column
same-signed : (r b i j v w : ℕ) → (i < r → j < b → v ≡ w) → ltb i r && (ltb j b && eqb v 1) ≡ ltb i r && ltb j b && eqb w 1
same-signed r b i j v w h = by_tests (ltb i r) (ltb j b) refl refl
  where
    by_tests : (x y : Bool) → ltb i r ≡ x → ltb j b ≡ y → x && (y && eqb v 1) ≡ x && y && eqb w 1
    by_tests false y p q = refl
    by_tests true false p q = refl
    by_tests true true p q = let k : v ≡ w = h (ltb-true i r p) (ltb-true j b q) in rw k

-- ---- on a card that was read

module _ (s : List ℕ) (c : Card) (e : ℕ) (t : CardRead s c e) where
  byte_said : (k : ℕ) → k < (c.verdicts.roots + c.verdicts.bundle) * c.verdicts.bundle
      → get_or s (c.verdicts.first + k) 0 ≡ get_or (content_of c s).verdicts k 0
  byte_said k h =
      verdict_byte c.roots.count c.bundle.count s c.verdicts _ t.verdicts k h
      ∙ sym (ap (λ (l : List ℕ). get_or l k 0) (verdicts_are s c e t))

  roots_are : length (content_of c s).roots ≡ c.verdicts.roots
  roots_are = roots_counted s c e t ∙ sym t.verdicts.roots_are

  bundle-is : length (content_of c s).bundle ≡ c.verdicts.bundle
  bundle-is = bundle_counted s c e t ∙ sym t.verdicts.bundle_are

  pub root_signed_lem : (i j : ℕ) → root_signed c.verdicts s i j ≡ signed (content_of c s) (root i) j
  unfolding root_signed signed_at signed
  root_signed_lem i j =
      rw (roots_are, bundle-is)
      (same-signed c.verdicts.roots c.verdicts.bundle i j _ _
      (λ r b. byte_said (i * c.verdicts.bundle + j) (within-rows i _ j _ (omega arith) b)))

  pub bundle_signed_lem : (i j : ℕ) → bundle_signed c.verdicts s i j ≡ signed (content_of c s) (bundled i) j
  unfolding bundle_signed signed_at signed
  bundle_signed_lem i j =
      rw (roots_are, bundle-is)
      (same-signed c.verdicts.bundle c.verdicts.bundle i j _ _
      (λ r b. byte_said ((c.verdicts.roots + i) * c.verdicts.bundle + j) (within-rows _ _ j _ (omega arith) b)))
