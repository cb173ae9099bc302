-- From where a thing ends to the thing, for any thing: it was read (`passing_got`), or can't be (`passing_stops`). For readers that answer
-- a place alone; where the thing's value does not matter: Held.antt.
use Prim.Native.Nat.{ℕ}
use mathlib.Core.Path.{◌≡◌}
use native.Mathlib.Omega.{arith}
use Rattle.fields.specs.Fields.{Parsed, got, stop}
use Rattle.fields.specs.Answers.{passing}

-- a thing was read, and e is the place past it
pub record Ends {A : Type 0} (x : Parsed A) (e : ℕ) : Type 0 where
  pub value : A
  pub is : x ≡ got value e

pub passing_got : {A : Type 0} (x : Parsed A) (e : ℕ) → passing x ≡ got tt e → Ends x e
passing_got (got a f) e h = let k : f ≡ e = cc in record { value = a; is = cc }
passing_got (stop r) e h = let z : ◌≡◌ {A = ℕ} 0 1 = cc in absurd (omega arith)

-- a thing that ends nowhere can't be read
pub passing_stops : {A : Type 0} (x : Parsed A) (r : ℕ) → passing x ≡ stop r → x ≡ stop r
passing_stops (got a e) r h = let z : ◌≡◌ {A = ℕ} 0 1 = cc in absurd (omega arith)
passing_stops (stop k) r h = let z : k ≡ r = cc in rw z
