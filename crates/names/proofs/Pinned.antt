-- No two answers say the same: what `attribute_at` says pins its answer down (`attributed_pins`). What it says: specs/Answers.antt.
use mathlib.Core.Path.{◌≡◌, refl, ap}
use Rattle.std.specs.Prelude.{Result, Ok, Err}
use Rattle.fields.specs.Fields.{Parsed, got, stop}
use Rattle.fields.specs.declared.fault.Fault.{Fault}
use Rattle.fields.proofs.Pinned.{pins, fault_of, fault_again}
use Rattle.names.specs.Answers.{attributed}
use Rattle.names.specs.declared.attribute.Attribute.{Attribute}

pub attributed_pins : (a b : Result Attribute Fault) → attributed a ≡ attributed b → a ≡ b
attributed_pins = pins attributed back again
  where
    back : Parsed Attribute → Result Attribute Fault
    back (got a e) = Ok a
    back (stop r) = Err (fault_of r)

    again : (a : Result Attribute Fault) → back (attributed a) ≡ a
    again (Ok a) = refl
    again (Err f) = ap Err (fault_again f)
