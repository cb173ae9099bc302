-- No two readings of a task say the same (`task_pins`): what `task_at` promises pins its answer down, a task that was read and a fault
-- alike. By `read_pins` of fields/proofs/Pinned.antt.
use Prim.Native.Nat.{ℕ}
use mathlib.Core.Path.{◌≡◌}
use Rattle.std.specs.Prelude.{Result}
use Rattle.fields.specs.Answers.{read}
use Rattle.fields.specs.declared.fault.Fault.{Fault}
use Rattle.fields.proofs.Pinned.{read_pins}
use Rattle.task.specs.declared.Task.{Task}

pub task_pins : (a b : Result (Task × ℕ) Fault) → read a ≡ read b → a ≡ b
task_pins = read_pins
