-- A fraud that no edit of an operand makes: its answer does not satisfy the contract of `u16_at`. The others are edits in must-fail/;
-- docs/FRAUDS.md lists them all.
use Prim.Native.Nat.{ℕ}
use mathlib.Core.Path.{◌≡◌}
use mathlib.Core.List.{[], ◌∷◌}
use native.Mathlib.Omega.{arith}
use Rattle.fields.specs.Fields.{bytes_p, big_p}
use Rattle.std.specs.Prelude.{Ok}
use Rattle.fields.specs.Answers.{read}

-- the lowest byte first: 01 00 read as 1
pub little_endian : read (Ok (1, 2)) ≡ big_p 2 (1 ∷ 0 ∷ []) 0 → ⊥
unfolding big_p bytes_p
little_endian e = let z : ◌≡◌ {A = ℕ} 1 256 = cc in omega arith
