-- Flags and answers of the leaf questions as C has them: a flag, a part and its flag, a yes or no, the answer of the normaliser.
-- Not here: the questions themselves (text, keys, same and subtree, each in its specs/), the answer of a search (Plain.antt).
use Rattle.std.specs.Prelude.{Bool, true, false, cond, not, ℕ, eqb, List}
use Rattle.std.proofs.Math.Option.{Option, none, some}
use Rattle.text.specs.Normalize.{Formed}
use Rattle.desk.specs.declared.texts.Form.{Form}

-- a flag: 0 is no, anything else yes
abbrev pub flagged : ℕ → Bool
flagged x = not (eqb x 0)

-- an optional part: its bytes where its flag says that it is present
abbrev pub given : Bool → List ℕ → Option (List ℕ)
given true s = some s
given false s = none

-- yes is 1, no is 0
abbrev pub yes_no : Bool → ℕ
yes_no b = cond b 1 0

-- what the normaliser says
abbrev pub formed : Formed → Form
formed r = record { length = r.bytes; number = r.number }
