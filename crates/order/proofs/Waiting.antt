-- What waits after k steps: it exists, there is only one (`after_exists`, `after_unique`), and how it goes from one step to the next, from
-- the first to the end (`after-start`, `after_step`); upstream's stack holds it (`stack-after`). For reply, search and steps. What waits:
-- specs/Waiting.antt; how many: Bound.antt.
use mathlib.Core.List.Memᴰ
use mathlib.Core.List.Memᴰ.{head as here}
use mathlib.Core.List.{List, [], ◌∷◌, ◌++◌, flat_map}
use mathlib.Core.Logic.{◌↔◌, ⊎_elim}
use mathlib.Core.Path.{◌≡◌, refl, sym, ap, ◌∙◌}
use Prim.Native.Nat.{ℕ, suc, ◌≤◌, ◌<◌}
use native.Mathlib.Nat.{add-zero, eq-zero-or-pos}
use native.Mathlib.Omega.{arith}
use lib.ListN.{length, take, drop, get_or, length-drop, take-append-drop, drop_of_length-le}
use lib.Seq.{get_or-drop}
use Rattle.order.specs.Listing.{◌among◌, nil}
use Rattle.order.specs.Paths.{Places, Simple, Listing, Rank}
use Rattle.order.specs.Waiting.{Waiting, After}
use Rattle.order.specs.Walk.{kids, visit, paths, pop, stack, taken}
use Rattle.order.proofs.Lists.{lists_unique}
use Rattle.order.proofs.Order.{irrefl, trans}
use Rattle.order.proofs.Rank.{rank-at}
use Rattle.order.proofs.Simple.{simple-size}
use Rattle.order.proofs.Stack.{stack-simple, stack-rest, stack-waits, taken_is}
use Rattle.order.proofs.Tree.{visit-is, paths-listing, listing-is, listing_unique, none-listing}

-- ---- of a listing

-- where all are taken nothing waits
pub none-waiting : (ps : List (List ℕ)) (k : ℕ) → length ps ≤ k → Waiting ps k []
none-waiting ps k h = record {
  sorted = nil;
  only = λ p m. absurd (Memᴰ.not-nil m);
  all = λ p w. rw (drop_of_length-le ps h) at w.untaken;
}

module _ (g : Places) (some : 0 < g.size) {ps : List (List ℕ)} (l : Listing g ps) where
  pub waiting-is : {k : ℕ} {ws : List (List ℕ)} → Waiting ps k ws ↔ (ws ≡ stack g k)
  waiting-is {k} = rw (listing-is g some l) (λ w. lists_unique irrefl trans w (stack-waits g some k), λ e. rw e (stack-waits g some k))

  pub waiting-start : Waiting ps 0 ((0 ∷ []) ∷ [])
  waiting-start = waiting-is.1 refl

  -- the first that waits is the next path, and its children come in its stead
  pub waiting_step : (k : ℕ) {p : List ℕ} {s : List (List ℕ)} → Waiting ps k (p ∷ s)
      → (k < length ps) × (get_or ps k [] ≡ p) × Waiting ps (suc k) (kids g p ++ s)
  unfolding flat_map
  waiting_step k {p} {s} w =
      let e : p ∷ s ≡ stack g k = waiting-is.0 w in
      let q : Simple g p = stack-simple g some k p (rw (← e) (here refl)) in
      let d : drop k ps ≡ p ∷ (flat_map (visit g) (kids g p) ++ flat_map (visit g) s) =
      ap (drop k) (listing-is g some l) ∙ stack-rest g some k ∙ ap (flat_map (visit g)) (sym e) ∙ rw (visit-is g q) in
      (omega (arith, length-drop k ps, ap length d), sym (rw (d, add-zero) at (get_or-drop k ps 0 [])), waiting-is.1 (ap (pop g) e))

  pub waiting_end : (k : ℕ) → Waiting ps k [] ↔ (length ps ≤ k)
  unfolding flat_map
  waiting_end k = (
    λ w.
        let d : drop k ps ≡ [] = rw (listing-is g some l) (stack-rest g some k ∙ ap (flat_map (visit g)) (sym (waiting-is.0 w))) in
        omega (arith, length-drop k ps, ap length d),
    none-waiting ps k,
  )

  -- upstream's stack hands out the first k of the listing in k steps
  pub stack-taken : (k : ℕ) → taken g k ≡ take k ps
  stack-taken k = taken_is g some k ∙ ap (take k) (sym (listing-is g some l))

-- ---- after k steps

module _ (g : Places) where
  pub after_exists : (k : ℕ) → (ws : List (List ℕ)) × After g k ws
  after_exists k = ⊎_elim
      (λ e. ([], ([], none-listing g e, none-waiting [] k (omega arith))))
      (λ some. (stack g k, (paths g, paths-listing g some, stack-waits g some k)))
      (eq-zero-or-pos g.size)

  pub after_unique : {k : ℕ} {ws vs : List (List ℕ)} → After g k ws → After g k vs → ws ≡ vs
  after_unique (ps, l, w) (qs, m, v) = lists_unique irrefl trans w (rw (listing_unique g m l) at v)

  pub after-start : 0 < g.size → After g 0 ((0 ∷ []) ∷ [])
  after-start some = (paths g, paths-listing g some, waiting-start g some (paths-listing g some))

  -- upstream's stack holds what waits
  pub stack-after : 0 < g.size → (k : ℕ) → After g k (stack g k)
  stack-after some k = (paths g, paths-listing g some, stack-waits g some k)

  waiting-size : {ps : List (List ℕ)} {k : ℕ} {p : List ℕ} {s : List (List ℕ)} → Listing g ps → Waiting ps k (p ∷ s) → 0 < g.size
  waiting-size {ps} {k} {p} l w =
      let m : p among take k ps ++ drop k ps = Memᴰ.append_right (take k ps) (w.only p (here refl)).untaken in
      simple-size g (l.only p (rw take-append-drop at m))

  -- step k + 1 takes the first path that waits, the one of rank k + 1, and its children come in its stead
  pub after_step : {k : ℕ} {p : List ℕ} {s : List (List ℕ)} → After g k (p ∷ s) → Rank g p (suc k) × After g (suc k) (kids g p ++ s)
  after_step {k} (ps, l, w) =
      let (h, e, v) = waiting_step g (waiting-size l w) l k w in
      (rw e at (rank-at g l k h), (ps, l, v))
