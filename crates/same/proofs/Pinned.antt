-- No two answers say the same: what a relation of two names says pins its answer down (`said_pins`). What it says: specs/Answers.antt.
use Prim.Native.Nat.{ℕ}
use mathlib.Core.Path.{◌≡◌, refl}
use mathlib.Core.Bool.{Bool, true, false, cond}
use lib.Dec.{eqb}
use Rattle.std.specs.Prelude.{Result, Ok, Err}
use Rattle.fields.specs.declared.fault.Fault.{Fault}
use Rattle.fields.specs.declared.fault.Fault.TheVariants.{UnknownEdition, TooLong, CutShort, BadCount, BadValue, LeftOver}
use Rattle.fields.proofs.Pinned.{pins, fault_of}
use Rattle.same.specs.Answers.{said}

pub said_pins : (a b : Result Bool Fault) → said a ≡ said b → a ≡ b
said_pins = pins said back again
  where
    back : ℕ → Result Bool Fault
    back n = cond (eqb n 0) (Ok false) (cond (eqb n 1) (Ok true) (Err (fault_of n)))

    again : (a : Result Bool Fault) → back (said a) ≡ a
    again (Ok false) = refl
    again (Ok true) = refl
    again (Err UnknownEdition) = refl
    again (Err TooLong) = refl
    again (Err CutShort) = refl
    again (Err BadCount) = refl
    again (Err BadValue) = refl
    again (Err LeftOver) = refl
