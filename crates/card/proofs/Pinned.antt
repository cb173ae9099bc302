-- No two readings tell the same (`read_pins`): what `read` promises pins its answer down, a card that was read and a fault alike. By
-- `numbered_pins` of fields/proofs/Pinned.antt.
use mathlib.Core.Path.{◌≡◌}
use Rattle.std.specs.Prelude.{Result}
use Rattle.fields.specs.Answers.{numbered}
use Rattle.fields.specs.declared.fault.Fault.{Fault}
use Rattle.fields.proofs.Pinned.{numbered_pins}
use Rattle.card.specs.declared.Card.{Card}

pub read_pins : (a b : Result Card Fault) → numbered a ≡ numbered b → a ≡ b
read_pins = numbered_pins
