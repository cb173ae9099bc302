-- No two answers of `pose` are told alike (`posed_pins`): what it promises pins its answer down, a question and a fault alike. What is told:
-- specs/Question.antt.
use mathlib.Core.Path.{◌≡◌}
use Rattle.std.specs.Prelude.{Result}
use Rattle.fields.specs.Answers.{numbered}
use Rattle.fields.specs.declared.fault.Fault.{Fault}
use Rattle.fields.proofs.Pinned.{numbered_pins}
use Rattle.question.specs.declared.Question.{Question}

pub posed_pins : (a b : Result Question Fault) → numbered a ≡ numbered b → a ≡ b
posed_pins = numbered_pins
