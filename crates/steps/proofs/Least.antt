-- The lowest root of a path is the lowest place of its row of roots (`row-found`), and an empty row is no root (`row-none`). For the proof
-- of `walk`; the row: `roots_over` of policy/specs/Standing.antt.
use mathlib.Core.Bool.{false≢true}
use mathlib.Core.List.{List}
use mathlib.Core.Path.{◌≡◌, sym, ap, ◌∙◌}
use Prim.Native.Nat.{ℕ, ◌^◌, ◌≤◌, ◌<◌}
use native.Mathlib.Omega.{arith}
use Rattle.policy.specs.Standing.{roots_over}
use Rattle.rows.specs.Rows.{has, lowest, highest}
use Rattle.places.proofs.Lowest.{Least}
use Rattle.reply.proofs.Least.{least_lowest}
use Rattle.rows.proofs.Places.{has-none, lowest_least}
use Rattle.rows.proofs.Upper.{highest-has, highest-place}
use Rattle.steps.specs.Parts.{roots_seated}
use Rattle.reply.specs.Settles.{QualifiesBy, Qualifies}

-- a row that is not empty has its lowest place
pub lowest-place : (row : ℕ) → 0 < row → row < 2 ^ 64 → lowest row < 64
lowest-place row h f =
    let q : highest row < 64 = highest-place row h f in
    let l : ¬ (64 ≤ lowest row) = λ l. false≢true (sym ((lowest_least row).below (highest row) (omega arith) (omega arith)) ∙ highest-has row q) in
    omega arith

module _ (issued seats p : List ℕ) {row : ℕ} (is : row ≡ roots_over issued seats p) where
  row_least : Least ((roots_seated issued seats).good p) 0 64 (lowest row)
  row_least = rw is (lowest_least (roots_over issued seats p))

  pub row-found : 0 < row → row < 2 ^ 64
      → QualifiesBy (roots_seated issued seats) p (lowest row) × ((i : ℕ) → QualifiesBy (roots_seated issued seats) p i → lowest row ≤ i)
  row-found h f = let l : lowest row < 64 = lowest-place row h f in ((l, row_least.passes (omega arith)), least_lowest (roots_seated issued seats) row_least)

  pub row-none : row ≡ 0 → ¬ Qualifies (roots_seated issued seats) p
  row-none z (i, (h, e)) = false≢true (sym (ap (has i) (sym is ∙ z) ∙ has-none i) ∙ e)
