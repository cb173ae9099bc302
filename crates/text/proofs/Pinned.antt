-- No two answers of `normalize_string` have the same number and bytes (`form_pins`), so the clause on `form_of` pins the answer. `form_of` is
-- in specs/Normalize.antt.
use Prim.Native.Nat.{ℕ}
use mathlib.Core.Path.{◌≡◌, refl, ap}
use native.Mathlib.Omega.{arith}
use Rattle.std.specs.Prelude.{Option, Some, None}
use Rattle.text.specs.Normalize.{form_of}

pub form_pins : (a b : Option ℕ) → form_of a ≡ form_of b → a ≡ b
form_pins (Some m) (Some n) e = ap (λ r. Some r.bytes) e
form_pins (Some m) None e = let z : ◌≡◌ {A = ℕ} 0 10 = ap (λ r. r.number) e in absurd (omega arith)
form_pins None (Some n) e = let z : ◌≡◌ {A = ℕ} 10 0 = ap (λ r. r.number) e in absurd (omega arith)
form_pins None None e = refl
