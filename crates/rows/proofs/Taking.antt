-- The lowest place of a row taken out: that place stands in the row (`lowest-there`), and what is left begins later (`lowest_grows`). For
-- src/coming.rt, and for those who go through a row's places; the lowest place, and a row without one of its places: Places.antt.
use Prim.Native.Nat.{ℕ, ◌≤◌, ◌<◌}
use mathlib.Core.Bool.{Bool, true, false, not, ◌&&◌, and-false, false≢true}
use mathlib.Core.Path.{◌≡◌, refl, sym, ap, ◌∙◌}
use native.Mathlib.Omega.{arith}
use borrow.Author.Tests.{ltb-true, ltb-false, eqb-false}
use lib.Dec.{eqb, ltb}
use Rattle.rows.specs.Rows.{has, joined, left, lowest}
use Rattle.rows.proofs.Places.{has_dropped, lowest_least}

module _ (rest i : ℕ) (first : i ≡ lowest rest) (place : i < 64) where
  pub lowest-there : has i rest ≡ true
  lowest-there = ap (λ (k : ℕ). has k rest) first ∙ (lowest_least rest).passes (omega arith)

  pub lowest_grows : i < lowest (left rest (joined 0 i))
  lowest_grows = go (ltb i next) refl
    where
      next : ℕ
      next = lowest (left rest (joined 0 i))

      -- below i nothing was left, and i is gone
      gone : (j : ℕ) → j ≤ i → (q : Bool) → eqb j i ≡ q → has j rest && not q ≡ false
      gone j h true e = and-false (has j rest)
      gone j h false e =
          let k : ¬ (j ≡ i) = eqb-false j i e in ap (λ (b : Bool). b && true) ((lowest_least rest).below j (omega arith) (omega arith))

      go : (b : Bool) → ltb i next ≡ b → i < next
      go true e = ltb-true i next e
      go false e =
          let k : next ≤ i = ltb-false i next e in
          absurd (false≢true (sym (has_dropped rest i place next ∙ gone next k (eqb next i) refl) ∙ (lowest_least (left rest (joined 0 i))).passes (omega arith)))
