-- The verdicts of a card file: who signed whom, after their count (docs/CARD-FILE.md, "Layout"). A reader must believe this file
-- (docs/MAP.md).
-- Not here: which verdict is whose (`signed` of card/specs/Content.antt); where they stand in a file (Grid.antt).
use Rattle.std.specs.Prelude.{ℕ, ◌+◌, ◌*◌, cond, List, eqb, leb}
use Rattle.fields.specs.Fields.{Parsed, got, stop, after, big_p, many, byte_p}

-- a verdict: byte 0 or 1, judged when it is read
unfoldable pub verdict_p : List ℕ → ℕ → Parsed ℕ
verdict_p s at = after (byte_p s at) (λ v e. cond (leb v 1) (got v e) (stop 8))

-- count u16, equal to (roots + bundle) × bundle; then so many verdicts
unfoldable pub verdicts_p : ℕ → ℕ → List ℕ → ℕ → Parsed (List ℕ)
verdicts_p roots bundle s at = after (big_p 2 s at) (λ n e. cond (eqb n ((roots + bundle) * bundle)) (many verdict_p n s e) (stop 7))
