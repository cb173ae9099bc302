-- Wrong bodies of `push` and `take` refused: on two records what each would leave or hand out does not satisfy the contract. The walks of
-- the two fix every operand, so that an edit is refused there before what it promises is asked.
use mathlib.Core.List.{List, [], ◌∷◌}
use mathlib.Core.Path.{◌≡◌, ap}
use native.Mathlib.Omega.{arith}
use lib.ListN.{get_or, set}
use Rattle.reply.specs.Answer.{path_shown}
use Rattle.reply.specs.declared.path.Path.{Path}
use Rattle.stack.specs.Stacked.{blank}

-- the leaf alone
abbrev leaf : Path
leaf = path_shown (0 ∷ [])

-- put in the first record for the second
pub pushed_in_the_first : ¬ (set (blank ∷ blank ∷ []) 0 leaf ≡ set (blank ∷ blank ∷ []) 1 leaf)
unfolding path_shown
pushed_in_the_first e = omega (arith, ap (λ (l : List Path). (get_or l 0 blank).length) e)

-- not put at all
pub not_pushed : ¬ (blank ∷ blank ∷ [] ≡ set (blank ∷ blank ∷ []) 1 leaf)
unfolding path_shown
not_pushed e = omega (arith, ap (λ (l : List Path). (get_or l 1 blank).length) e)

-- taken from the first record for the second
pub taken_from_the_first : ¬ (get_or (blank ∷ leaf ∷ []) 0 blank ≡ get_or (blank ∷ leaf ∷ []) 1 blank)
unfolding path_shown
taken_from_the_first e = omega (arith, ap (λ (p : Path). p.length) e)

-- taken, and the record zeroed
pub zeroed_when_taken : ¬ (set (blank ∷ leaf ∷ []) 1 blank ≡ blank ∷ leaf ∷ [])
unfolding path_shown
zeroed_when_taken e = omega (arith, ap (λ (l : List Path). (get_or l 1 blank).length) e)
