-- What `normalize_string` answers and what it leaves in the lent room. The normal form itself: Normal.antt; that no two answers say the
-- same: proofs/Pinned.antt.
use Rattle.std.specs.Prelude.{ℕ, cond, List, ◌++◌, length, drop, ltb, Option, Some, None}
use Rattle.text.specs.Normal.{normal}

-- the reply's number, and how many bytes were written
pub record Formed : Type 0 where
  pub number : ℕ
  pub bytes : ℕ

-- the number and the bytes of each case of the answer
abbrev pub form_of : Option ℕ → Formed
form_of (Some n) = record { number = 0; bytes = n }
form_of None = record { number = 10; bytes = 0 }

-- no room exactly where the room is shorter than the string
unfoldable pub normalized : List ℕ → List ℕ → Formed
normalized s out = cond (ltb (length out) (length s)) (record { number = 10; bytes = 0 }) (record { number = 0; bytes = length (normal s) })

-- the room as it is left: the normal form, and after it the bytes that were there
unfoldable pub written : List ℕ → List ℕ → List ℕ
written s out = cond (ltb (length out) (length s)) out (normal s ++ drop (length (normal s)) out)
