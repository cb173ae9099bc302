-- Laws of `slots_of`: where it is the formula (`slots_formula`), where it is 0 (`slots_past`), and that a full bundle needs the most
-- (`slots_most`, for the room of report). That as many slots are enough: Bound.antt; that the printed table has these numbers:
-- Printed.antt.
use mathlib.Core.Path.{◌≡◌}
use mathlib.Core.Logic.{⊎_elim}
use Prim.Native.Nat.{ℕ, ◌+◌, ◌-◌, ◌*◌, ◌/◌, ◌≤◌, ◌<◌}
use native.Mathlib.Nat.{eq-zero-or-pos, mul-le-mul}
use native.Mathlib.Omega.{arith}
use borrow.Author.Tests.{le-leb, lt-leb}
use Rattle.places.specs.Limits.{bundle_most}
use Rattle.order.specs.Slots.{slots_of}

-- (n-1)(n-2)/2+1, for n ≥ 1
abbrev pub formula : ℕ → ℕ
formula n = (n - 1) * (n - 2) / 2 + 1

pub slots_formula : (n : ℕ) → 1 ≤ n → n ≤ bundle_most → slots_of n ≡ formula n
slots_formula n h k = rw (le-leb 1 n h, le-leb n bundle_most k)

pub slots_past : (n : ℕ) → bundle_most < n → slots_of n ≡ 0
slots_past n h = rw (le-leb 1 n (omega arith), lt-leb n bundle_most h)

formula_most : (n : ℕ) → n ≤ bundle_most → formula n ≤ formula bundle_most
formula_most n h =
    let a : n - 1 ≤ bundle_most - 1 = omega arith in
    let b : n - 2 ≤ bundle_most - 2 = omega arith in
    omega (arith, mul-le-mul a b)

-- a full bundle needs the most
pub slots_most : (n : ℕ) → n ≤ bundle_most → slots_of n ≤ slots_of bundle_most
slots_most n h = ⊎_elim (λ e. rw e (omega arith)) (λ some. rw (slots_formula n some h) (formula_most n h)) (eq-zero-or-pos n)
