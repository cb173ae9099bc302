-- An optional part, as code lends it. What is asked of such parts: AuthKeyId.antt.
use Rattle.std.specs.Prelude.{ℕ, List, Some, None}
use Rattle.std.specs.Prelude as rust
use Rattle.std.proofs.Common.{Bor}
use Rattle.std.proofs.Math.Option.{Option, none, some}

-- an optional part: its bytes, where it is present
abbrev pub given : rust.Option (Bor (List ℕ)) → Option (List ℕ)
given (Some s) = some s.now
given None = none
