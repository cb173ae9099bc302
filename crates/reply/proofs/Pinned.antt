-- No two answers of `room_for` have the same number (`lacked_pins`), so its clause pins the answer. `lacked` is in specs/Numbers.antt.
use mathlib.Core.Path.{◌≡◌, refl, sym, ap}
use native.Mathlib.Omega.{arith}
use Rattle.std.specs.Prelude.{Result, Ok, Err}
use Rattle.reply.specs.Numbers.{lacking, lacked}
use Rattle.reply.specs.declared.Lack.{Lack}
use Rattle.reply.specs.declared.Lack.TheVariants.{Certificates, Room}

some_lack : (l : Lack) → lacking l ≡ 0 → ⊥
some_lack Certificates e = omega arith
some_lack Room e = omega arith

lacking_pins : (k l : Lack) → lacking k ≡ lacking l → k ≡ l
lacking_pins Certificates Certificates e = refl
lacking_pins Certificates Room e = absurd (omega arith)
lacking_pins Room Certificates e = absurd (omega arith)
lacking_pins Room Room e = refl

pub lacked_pins : (a b : Result (Unit {0}) Lack) → lacked a ≡ lacked b → a ≡ b
lacked_pins (Ok x) (Ok y) e = refl
lacked_pins (Ok x) (Err l) e = absurd (some_lack l (sym e))
lacked_pins (Err k) (Ok y) e = absurd (some_lack k e)
lacked_pins (Err k) (Err l) e = ap Err (lacking_pins k l e)
