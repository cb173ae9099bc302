-- The purpose and the host's limit in the task of a card file (docs/CARD-FILE.md, "Layout"). A reader must believe this file (docs/MAP.md).
-- Not here: the task's parts in their order (`sections_p` of card/specs/Content.antt); where they stand in a file (Placed.antt).
use Rattle.std.specs.Prelude.{ℕ, cond, List, eqb}
use Rattle.fields.specs.Fields.{Parsed, got, stop, after, byte_p}

-- purpose byte 0 (server)
unfoldable pub purpose_p : List ℕ → ℕ → Parsed ℕ
purpose_p s at = after (byte_p s at) (λ purpose e. cond (eqb purpose 0) (got purpose e) (stop 8))

-- the most bytes of a host
abbrev pub host_most : ℕ
host_most = 253
