-- How far two strings go together, and how many spaces one begins with: for the private functions of src/values.rt. No contract of a
-- published function cites this page; the normal form that they are for: text/specs/Normal.antt.
use Rattle.std.specs.Prelude.{ℕ, not, ◌&&◌, List, eqb}
use Rattle.std.specs.List.{prefix_len, common_prefix_len}
use Rattle.text.specs.Bytes.{lowered}

-- the bytes before the first that is a space in the first string, or that differ when lowered
unfoldable pub together : List ℕ → List ℕ → ℕ
together a b = common_prefix_len (λ x y. not (eqb x 32) && eqb (lowered x) (lowered y)) a b

-- the bytes before the first that is not a space
unfoldable pub spaces : List ℕ → ℕ
spaces l = prefix_len (λ b. eqb b 32) l
