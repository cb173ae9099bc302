-- The lowest root of a path: what it says of the path's roots (`least_lowest`, `least_none`). For Exists.antt and steps/proofs/Least.antt;
-- the lowest place that passes a test: places/proofs/Lowest.antt.
use mathlib.Core.Bool.{false≢true}
use mathlib.Core.List.{List}
use mathlib.Core.Path.{sym, ◌∙◌}
use Prim.Native.Nat.{ℕ, ◌≤◌, ◌<◌}
use native.Mathlib.Omega.{arith}
use Rattle.places.proofs.Lowest.{Least}
use Rattle.reply.specs.Settles.{Reach, QualifiesBy, Qualifies}

module _ (w : Reach) {p : List ℕ} {r : ℕ} (l : Least (w.good p) 0 w.count r) where
  pub least_lowest : (i : ℕ) → QualifiesBy w p i → r ≤ i
  least_lowest i (h, e) = let k : ¬ (i < r) = λ k. false≢true (sym (l.below i (omega arith) k) ∙ e) in omega arith

  pub least_none : w.count ≤ r → ¬ Qualifies w p
  least_none h (i, (k, e)) = false≢true (sym (l.below i (omega arith) (omega arith)) ∙ e)
