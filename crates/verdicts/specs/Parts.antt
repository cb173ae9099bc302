-- What `any_above_yes` looks for, which is the code's affair. A verdict by itself: `verdict_p` of Verdicts.antt; that looking for such a
-- byte judges verdicts: proofs/Pass.antt.
use Rattle.std.specs.Prelude.{ℕ, Bool, false, ◌||◌, List, [], ◌∷◌, ltb}

-- some byte is more than a yes
unfoldable pub any_above_yes : List ℕ → Bool
any_above_yes [] = false
any_above_yes (b ∷ l) = ltb 1 b || any_above_yes l
