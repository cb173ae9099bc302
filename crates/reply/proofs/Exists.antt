-- Each search is settled (`settles`): by reading the listing, path by path (`found`). For Total.antt, and for the frauds of search, where
-- it computes. What is settled after k paths: Settled.antt; that no second outcome settles it: Unique.antt.
use mathlib.Core.Bool.{Bool, true, false, cond}
use mathlib.Core.List.Memᴰ
use mathlib.Core.List.{List, [], ◌∷◌}
use mathlib.Core.Path.{◌≡◌, refl, sym, ap, ◌∙◌}
use Prim.Native.Nat.{ℕ, zero, suc, ◌+◌, ◌≤◌, ◌<◌, zero-le}
use native.Mathlib.Nat.{zero-add, add-zero, add-suc, suc-add}
use native.Mathlib.Numerals.{add-one}
use native.Mathlib.Omega.{arith}
use borrow.Author.Tests.{ltb-true, ltb-false}
use lib.Dec.{ltb}
use lib.ListN.{length, drop, get_or, length-drop}
use lib.Seq.{drop-drop, get_or-drop}
use Rattle.order.specs.Paths.{Places, Listing}
use Rattle.order.specs.Walk.{paths}
use Rattle.order.proofs.Tree.{paths-listing}
use Rattle.places.specs.Lowest.{seek}
use Rattle.places.proofs.Lowest.{seek_least}
use Rattle.reply.specs.Settles.{Reach, Qualifies, Outcome, accepted, refused, exhausted, Settles}
use Rattle.reply.proofs.Least.{least_lowest, least_none}
use Rattle.reply.proofs.Settled.{Barren, barren_more, accepts, refuses, exhausts}

-- the paths are what is left after k, with `fuel` steps left
unfoldable pub read : Reach → List (List ℕ) → ℕ → ℕ → Outcome
read w [] fuel k = refused k
read w (p ∷ ps) zero k = exhausted k
read w (p ∷ ps) (suc fuel) k = cond (ltb (seek (w.good p) 0 w.count) w.count) (accepted p (seek (w.good p) 0 w.count) (suc k)) (read w ps fuel (suc k))

module _ (g : Places) (w : Reach) {ps : List (List ℕ)} (l : Listing g ps) where
  reads : (left : List (List ℕ)) (fuel k : ℕ) → drop k ps ≡ left → k ≤ length ps → Barren g w l k → Settles g w (k + fuel) (read w left fuel k)
  unfolding read
  reads [] fuel k e h b = refuses g w l (k + fuel) k (omega (arith, length-drop k ps, ap length e)) (omega arith) b
  reads (p ∷ left) zero k e h b = rw add-zero (exhausts g w l k (omega (arith, length-drop k ps, ap length e)) b)
  reads (p ∷ left) (suc fuel) k e h b =
      let m : k < length ps = omega (arith, length-drop k ps, ap length e) in
      let n : get_or ps k [] ≡ p = sym (rw (e, add-zero) at (get_or-drop k ps 0 [])) in
      go (ltb (seek (w.good p) 0 w.count) w.count) refl m n
      (λ x. reads left fuel (suc k) (rw (← add-one k) (sym (drop-drop 1 k ps) ∙ ap (drop 1) e)) m (barren_more g w l k m b x))
    where
      go : (t : Bool) → ltb (seek (w.good p) 0 w.count) w.count ≡ t → k < length ps → get_or ps k [] ≡ p
          → (¬ Qualifies w (get_or ps k []) → Settles g w (suc k + fuel) (read w left fuel (suc k)))
          → Settles g w (k + suc fuel) (cond t (accepted p (seek (w.good p) 0 w.count) (suc k)) (read w left fuel (suc k)))
      go true y m n ih =
          let f = seek_least (w.good p) 0 w.count in
          let h : seek (w.good p) 0 w.count < w.count = ltb-true _ _ y in
          rw n at (accepts g w l (k + suc fuel) k (seek (w.good p) 0 w.count) m (omega arith) b (rw n (h, f.passes (omega arith))) (rw n (least_lowest w f)))
      go false y m n ih = rw (add-suc, ← suc-add) (ih (rw n (least_none w (seek_least (w.good p) 0 w.count) (ltb-false _ _ y))))

abbrev pub found : Places → Reach → ℕ → Outcome
found g w k = read w (paths g) k 0

pub settles : (g : Places) (w : Reach) (k : ℕ) → 0 < g.size → Settles g w k (found g w k)
settles g w k some = rw zero-add at (reads g w (paths-listing g some) (paths g) k 0 refl zero-le (λ q m. absurd (Memᴰ.not-nil m)))
