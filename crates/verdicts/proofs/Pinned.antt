-- No two readings of verdicts say the same (`verdicts_pins`): what `verdicts_at` promises pins its answer down, verdicts that were read and
-- a fault alike. By `read_pins` of fields/proofs/Pinned.antt.
use Prim.Native.Nat.{ℕ}
use mathlib.Core.Path.{◌≡◌}
use Rattle.std.specs.Prelude.{Result}
use Rattle.fields.specs.Answers.{read}
use Rattle.fields.specs.declared.fault.Fault.{Fault}
use Rattle.fields.proofs.Pinned.{read_pins}
use Rattle.verdicts.specs.declared.Verdicts.{Verdicts}

pub verdicts_pins : (a b : Result (Verdicts × ℕ) Fault) → read a ≡ read b → a ≡ b
verdicts_pins = read_pins
