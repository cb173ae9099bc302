-- The paths after a mark, in order: all of them after a fresh one, one fewer after each path that is taken (`later_fresh`, `later_drop`),
-- and so the listing without those that are taken (`later_lists`). For Total.antt and Cut.antt. Which paths they
-- are: specs/Later.antt; how many are taken: specs/Began.antt.
use mathlib.Core.List.Memᴰ
use mathlib.Core.List.Memᴰ.{head as here}
use mathlib.Core.List.Memᴰ.{tail as there}
use mathlib.Core.List.{List, [], ◌∷◌}
use mathlib.Core.Logic.{⊎_elim}
use mathlib.Core.Path.{refl}
use Prim.Native.Nat.{ℕ, zero, suc, ◌≤◌, ◌<◌}
use native.Mathlib.Nat.{le_of_suc-le-suc, not-suc-le-zero}
use lib.ListN.{length, get_or, drop}
use Rattle.order.specs.Listing.{Sorted, cons, Lists}
use Rattle.order.specs.Paths.{Places, Before, Listing}
use Rattle.order.specs.Walk.{paths}
use Rattle.order.proofs.Order.{irrefl, trans}
use Rattle.order.proofs.Rank.{rank_is}
use Rattle.order.proofs.Tree.{paths-listing}
use Rattle.marks.specs.Began.{Began, unbegun, after}
use Rattle.marks.specs.Later.{Later}

module _ (g : Places) where
  -- after a fresh mark come all of them
  pub later_fresh : {ps : List (List ℕ)} → Listing g ps → Lists Before (Later g []) ps
  later_fresh l = record {
    sorted = l.sorted;
    only = λ q m. let s = l.only q m in (s, rw s.start.1 tt);
    all = λ q (s, b). l.all q s;
  }

  later_step : {m x : List ℕ} {xs : List (List ℕ)} → Lists Before (Later g m) (x ∷ xs) → Lists Before (Later g x) xs
  later_step {m} {x} {xs} l = go l.sorted
    where
      go : Sorted Before (x ∷ xs) → Lists Before (Later g x) xs
      go (cons h t) = record {
        sorted = t;
        only = λ q k. ((l.only q (there k)).0, h q k);
        all = λ q (s, b). ⊎_elim (λ e. absurd (irrefl x (rw e at b))) (λ k. k)
            (Memᴰ.cases_cons (l.all q (s, trans m x q (l.only x (here refl)).1 b)));
      }

  -- where k more are taken, the mark is at the last of them
  pub later_drop : (k : ℕ) {m : List ℕ} (xs : List (List ℕ)) → k ≤ length xs → Lists Before (Later g m) xs → Lists Before (Later g (get_or (m ∷ xs) k [])) (drop k xs)
  later_drop zero xs h l = l
  later_drop (suc k) [] h l = absurd (not-suc-le-zero h)
  later_drop (suc k) (x ∷ xs) h l = later_drop k xs (le_of_suc-le-suc h) (later_step l)

-- after a mark comes the listing without those that are taken
pub later_lists : {g : Places} → 0 < g.size → {m : List ℕ} {r : ℕ} → Began g m r → Lists Before (Later g m) (drop r (paths g))
later_lists {g} some unbegun = later_fresh g (paths-listing g some)
later_lists {g} some (after s q) =
    let l = paths-listing g some in
    let (k, h, e, w) = rank_is g l s q in
    rw (e, ← w) at (later_drop g (suc k) (paths g) h (later_fresh g l))
