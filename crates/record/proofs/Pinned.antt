-- No two answers say the same: what `record_at` says pins its answer down (`recorded_pins`). What an answer says: `read` of
-- fields/specs/Answers.antt; any reading: `read_pins` of fields/proofs/Pinned.antt.
use Prim.Native.Nat.{ℕ}
use mathlib.Core.Path.{◌≡◌}
use Rattle.std.specs.Prelude.{Result}
use Rattle.fields.specs.Answers.{read}
use Rattle.fields.specs.declared.fault.Fault.{Fault}
use Rattle.fields.proofs.Pinned.{read_pins}
use Rattle.record.specs.declared.Record.{Record}

pub recorded_pins : (a b : Result (Record × ℕ) Fault) → read a ≡ read b → a ≡ b
recorded_pins = read_pins
