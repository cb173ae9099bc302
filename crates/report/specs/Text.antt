-- Words and numbers as bytes: a text, then a number in decimal. The words of the line: Lines.antt.
use Rattle.std.specs.Prelude.{cond, List, [], ◌∷◌, ◌++◌, ℕ, zero, suc, ◌+◌, ◌/◌, ◌%◌, ltb}
use Prim.Native.Char.{code}
use Prim.Native.String.{String}
use Prim.Native.String as string

-- a text's bytes
abbrev pub ascii : String → List ℕ
ascii string.[] = []
ascii (string.◌∷◌ c s) = code c ∷ ascii s

abbrev pub digit : ℕ → ℕ
digit d = 48 + d

-- a number in decimal, the highest digit first, where at most k digits stand before the last
unfoldable pub decimal_in : ℕ → ℕ → List ℕ
decimal_in zero n = digit n ∷ []
decimal_in (suc k) n = cond (ltb n 10) (digit n ∷ []) (decimal_in k (n / 10) ++ (digit (n % 10) ∷ []))

-- a number in decimal: n has fewer than n + 2 digits
unfoldable pub decimal : ℕ → List ℕ
decimal n = decimal_in n n
