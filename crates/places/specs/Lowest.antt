-- The lowest place that passes a test. In words: proofs/Lowest.antt; of the places of a row: `lowest` of rows/specs/Rows.antt.
use Rattle.std.specs.Prelude.{Bool, cond, ℕ, zero, suc, ◌+◌}

-- the first number from i on, of so many, that passes a test; the one past them where none does
unfoldable pub seek : (ℕ → Bool) → ℕ → ℕ → ℕ
seek test i zero = i
seek test i (suc n) = cond (test i) i (seek test (i + 1) n)
