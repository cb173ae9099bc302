-- What the crate's private functions promise beyond Bytes.antt: a byte lowered where that is asked; and a byte looked for. No published
-- contract cites these.
use Rattle.std.specs.Prelude.{ℕ, Bool, cond, List, eqb}
use Rattle.std.specs.List.{list_any}
use Rattle.text.specs.Bytes.{lowered}

-- a byte as it is compared: lowered where that is asked
abbrev pub lowered_if : Bool → ℕ → ℕ
lowered_if lowering b = cond lowering (lowered b) b

-- the byte c stands among these
abbrev pub has_byte : ℕ → List ℕ → Bool
has_byte c l = list_any (λ x. eqb x c) l
