-- A set of places as the bits of a number: one place, what makes a row of two, its lowest and highest place, the row of a test; then a
-- number for each place. The laws: proofs/Places.antt (membership), proofs/Upper.antt (the highest place), proofs/Listing.antt (the
-- numbers), proofs/Words.antt (the code's shifts and masks).
use Rattle.std.specs.Prelude.{Option, Some, None, ◌≡◌, ◌≤◌, ◌<◌, ℕ, zero, suc, ◌-◌, ◌/◌, ◌%◌, ◌^◌, Bool, cond, ◌&&◌, List, [], ◌∷◌, ◌++◌, replicate, eqb, ltb}
use Rattle.std.specs.Int.Bits.{bit_or, bit_and, bit_xor}
use Rattle.places.specs.Lowest.{seek}

-- place i stands in a row: bit i of the number, of 64
unfoldable pub has : ℕ → ℕ → Bool
has i row = ltb i 64 && eqb (row / 2 ^ i % 2) 1

-- a row with place i, where it is one of the 64
unfoldable pub joined : ℕ → ℕ → ℕ
joined row i = cond (ltb i 64) (bit_or row (2 ^ i)) row

-- the places of a row that are not in another
unfoldable pub left : ℕ → ℕ → ℕ
left row taken = bit_xor row (bit_and row taken)

-- the places that stand in both of two rows
unfoldable pub common : ℕ → ℕ → ℕ
common row other = bit_and row other

-- the places that stand in one of two rows, or in both
unfoldable pub either : ℕ → ℕ → ℕ
either row other = bit_or row other

unfoldable pub lowest : ℕ → ℕ
lowest row = seek (λ i. has i row) 0 64

-- the last number below n that passes a test; d where none does
unfoldable pub final : (ℕ → Bool) → ℕ → ℕ → ℕ
final test d zero = d
final test d (suc n) = cond (test n) n (final test d n)

unfoldable pub highest : ℕ → ℕ
highest row = final (λ i. has i row) 64 64

-- the row of the places below n, of 64
unfoldable pub below : ℕ → ℕ
below n = cond (ltb n 64) (2 ^ n - 1) (2 ^ 64 - 1)

-- the row of those places below n that pass a test
unfoldable pub row_of : (ℕ → Bool) → ℕ → ℕ
row_of test zero = 0
row_of test (suc n) = cond (test n) (joined (row_of test n) n) (row_of test n)

-- what comes next of the places that are left: the lowest, and then the others are left; nothing where there is none
abbrev pub Next : ℕ → Option ℕ → ℕ → Type 0
Next rest None after = 64 ≤ lowest rest
Next rest (Some i) after = (i ≡ lowest rest) × (i < 64) × (after ≡ left rest (joined 0 i))

-- ---- a number for each place

-- what f gives for the places below n, in their order
unfoldable pub up_to : (ℕ → ℕ) → ℕ → List ℕ
up_to f zero = []
up_to f (suc n) = up_to f n ++ f n ∷ []

-- the same, and 0 for each place from there to most
unfoldable pub listing : ℕ → ℕ → (ℕ → ℕ) → List ℕ
listing most n f = up_to f n ++ replicate (most - n) 0
