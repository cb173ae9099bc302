-- How many paths can wait at once: of n certificates never more than the printed table has slots for n (`after-fits`, for the rooms of
-- reply and steps). The numbers: specs/Slots.antt, with its laws in Formula.antt; what waits: Waiting.antt; that four certificates need all
-- of it: Cases.antt.
use mathlib.Core.List.Memᴰ.{head as here}
use mathlib.Core.List.Memᴰ.{tail as there}
use mathlib.Core.List.{List, [], ◌∷◌, ◌++◌}
use mathlib.Core.Logic.{⊎_elim}
use mathlib.Core.Path.{◌≡◌, refl}
use Prim.Native.Nat.{ℕ, zero, suc, ◌+◌, ◌-◌, ◌*◌, ◌≤◌, ◌<◌}
use native.Mathlib.Nat.{eq-zero-or-pos}
use native.Mathlib.Omega.{arith}
use lib.ListN.{length, length-append, length-map}
use Rattle.places.specs.Limits.{bundle_most}
use Rattle.order.specs.Listing.{◌among◌}
use Rattle.order.specs.Paths.{Places, Simple, Listing}
use Rattle.order.specs.Slots.{slots_of}
use Rattle.order.specs.Waiting.{Waiting, After}
use Rattle.order.specs.Walk.{kids, pop, stack}
use Rattle.order.proofs.Formula.{formula, slots_formula}
use Rattle.order.proofs.Simple.{simple-length, next-few}
use Rattle.order.proofs.Stack.{stack-simple}
use Rattle.order.proofs.Tree.{kid_simple, kid_length, none-listing}
use Rattle.order.proofs.Waiting.{none-waiting, waiting-is, after_unique}

-- e (e - 1): twice the paths that a path with e free places can leave waiting below it
tri : ℕ → ℕ
tri zero = 0
tri (suc e) = tri e + 2 * e

tri_is : (e : ℕ) → tri e ≡ e * (e - 1)
unfolding tri
tri_is zero = refl
tri_is (suc zero) = refl
tri_is (suc (suc e)) =
    let one : (d : ℕ) → suc d - 1 ≡ d = λ d. omega arith in
    rw (one (suc e)) (omega (arith, rw (one e) at (tri_is (suc e))))

module _ (g : Places) where
  -- from each path of the stack down, the stack is as low as that path's length allows
  abbrev Low : List (List ℕ) → Type 0
  Low [] = Unit {0}
  Low (p ∷ s) = (2 * length (p ∷ s) + tri (g.size - length p) ≤ tri (g.size - 1) + 2) × Low s

  push_low : (cs s : List (List ℕ)) → ((c : List ℕ) → c among cs → 2 * length (cs ++ s) + tri (g.size - length c) ≤ tri (g.size - 1) + 2) → Low s → Low (cs ++ s)
  push_low [] s h l = l
  push_low (c ∷ cs) s h l = (h c (here refl), push_low cs s (λ d m. omega (arith, h d (there m))) l)

  kids-few : {p : List ℕ} → Simple g p → length (kids g p) + length p ≤ g.size
  unfolding kids
  kids-few {p} s = rw length-map (next-few g s)

  pop_low : (s : List (List ℕ)) → ((p : List ℕ) → p among s → Simple g p) → Low s → Low (pop g s)
  unfolding tri
  pop_low [] h l = l
  pop_low (p ∷ s) h l = push_low (kids g p) s (λ c m.
      let q : Simple g p = h p (here refl) in
      let e : g.size - length p ≡ suc (g.size - length c) = omega (arith, simple-length g (kid_simple g q m), kid_length g p m) in
      let b = rw e at l.0 in
      simp length-append (omega (arith, b, kids-few q))) l.1

  module _ (some : 0 < g.size) where
    stack_low : (k : ℕ) → Low (stack g k)
    stack_low zero = (omega arith, tt)
    stack_low (suc k) = pop_low (stack g k) (stack-simple g some k) (stack_low k)

    low_bound : (s : List (List ℕ)) → Low s → 2 * length s ≤ tri (g.size - 1) + 2
    low_bound [] l = omega arith
    low_bound (p ∷ s) l = omega (arith, l.0)

    waiting_bound : {ps : List (List ℕ)} → Listing g ps → {k : ℕ} {ws : List (List ℕ)} → Waiting ps k ws
        → 2 * length ws ≤ (g.size - 1) * (g.size - 2) + 2
    waiting_bound l {k} {ws} w =
        let two : g.size - 2 ≡ g.size - 1 - 1 = omega arith in
        rw (two, ← tri_is (g.size - 1), (waiting-is g some l).0 w) (low_bound (stack g k) (stack_low k))

  -- ---- in slots

  after_bound : 0 < g.size → {k : ℕ} {ws : List (List ℕ)} → After g k ws → length ws ≤ formula g.size
  after_bound some (ps, l, w) = omega (arith, waiting_bound some l w)

  -- as many slots as the table says are enough
  pub after-fits : g.size ≤ bundle_most → {k : ℕ} {ws : List (List ℕ)} → After g k ws → length ws ≤ slots_of g.size
  after-fits h {k} {ws} a = ⊎_elim
      (λ e. rw (after_unique g a ([], none-listing g e, none-waiting [] k (omega arith))) (omega arith))
      (λ some. rw (slots_formula g.size some h) (after_bound some a))
      (eq-zero-or-pos g.size)
