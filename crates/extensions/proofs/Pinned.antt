-- No two answers say the same: what `extensions_at` and `key_ids_at` say pins their answers down (`extended_pins`, `identified_pins`). What
-- an answer says: `read` of fields/specs/Answers.antt; any reading: `read_pins` of fields/proofs/Pinned.antt.
use Prim.Native.Nat.{ℕ}
use mathlib.Core.Path.{◌≡◌}
use Rattle.std.specs.Prelude.{Result}
use Rattle.fields.specs.Answers.{read}
use Rattle.fields.specs.declared.fault.Fault.{Fault}
use Rattle.fields.proofs.Pinned.{read_pins}
use Rattle.extensions.specs.declared.KeyIds.{KeyIds}
use Rattle.extensions.specs.declared.Extensions.{Extensions}

pub identified_pins : (a b : Result (KeyIds × ℕ) Fault) → read a ≡ read b → a ≡ b
identified_pins = read_pins

pub extended_pins : (a b : Result (Extensions × ℕ) Fault) → read a ≡ read b → a ≡ b
extended_pins = read_pins
