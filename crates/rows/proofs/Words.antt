-- What the code's shift, mask and count of zeros say of a row: for `has` (`has-masked`), `with` (`joined_shifted`) and `lowest`
-- (`lowest-zeros`). Those of `highest` and `below` are in Upper.antt; what a row's places are, in Places.antt.
use Prim.Native.Nat.{ℕ, zero, suc, ◌+◌, ◌*◌, ◌/◌, ◌%◌, ◌^◌, ◌≤◌, ◌<◌}
use mathlib.Core.Bool.{cond, not}
use mathlib.Core.Path.{◌≡◌, refl, sym, ap, ◌∙◌}
use native.Mathlib.Nat.{zero-add, one-mul, div-one, mod-lt}
use native.Mathlib.Omega.{arith}
use lib.Bits.{bit_or, bit_and, and_mask}
use lib.Count.{count_trailing_zeros, under, trailing_le}
use lib.Dec.{eqb, lit<}
use lib.Pow.{shr-shr, shl_exact}
use Rattle.places.specs.Lowest.{seek}
use Rattle.rows.specs.Rows.{has, joined, lowest}
use Rattle.rows.proofs.Places.{has-at, joined_at}

-- a digit is 1 where it is not 0
told : (d : ℕ) → d < 2 → not (eqb d 0) ≡ eqb d 1
told zero h = refl
told (suc zero) h = refl
told (suc (suc d)) h = absurd (omega arith)

pub has-masked : (i row : ℕ) → i < 64 → not (eqb (bit_and (row / 2 ^ i) 1) 0) ≡ has i row
has-masked i row h =
    ap (λ (x : ℕ). not (eqb x 0)) (and_mask (row / 2 ^ i) 1) ∙ told (row / 2 ^ i % 2) (mod-lt (row / 2 ^ i) (lit< tt)) ∙ sym (has-at i row h)

pub joined_shifted : (row i : ℕ) → i < 64 → bit_or row (1 * 2 ^ i % 2 ^ 64) ≡ joined row i
joined_shifted row i h = ap (bit_or row) (shl_exact 1 i 64 (lit< tt) (omega arith) ∙ one-mul (2 ^ i)) ∙ sym (joined_at row i h)

-- one digit: the place itself where it is set, and one more than what the digits above give where it is not
above : (i d t r : ℕ) → d < 2 → r ≡ i + 1 + t → cond (eqb d 1) i r ≡ i + under d t
above i zero t r h e = omega arith
above i (suc zero) t r h e = omega arith
above i (suc (suc d)) t r h e = absurd (omega arith)

seek-zeros : (row i k : ℕ) → i + k ≤ 64 → seek (λ j. has j row) i k ≡ i + count_trailing_zeros k (row / 2 ^ i)
unfolding seek count_trailing_zeros
seek-zeros row i zero h = omega arith
seek-zeros row i (suc k) h =
    rw (has-at i row (omega arith))
    (above i (row / 2 ^ i % 2) (count_trailing_zeros k (row / 2 ^ i / 2)) (seek (λ j. has j row) (i + 1) k)
    (mod-lt (row / 2 ^ i) (lit< tt))
    (seek-zeros row (i + 1) k (omega arith) ∙ ap (λ (x : ℕ). i + 1 + count_trailing_zeros k x) (sym (shr-shr row i 1))))

pub zeros_fit : (row : ℕ) → count_trailing_zeros 64 row < 2 ^ 8
zeros_fit row = omega (arith, trailing_le 64 row)

pub lowest-zeros : (row : ℕ) → count_trailing_zeros 64 row ≡ lowest row
unfolding lowest
lowest-zeros row = sym (seek-zeros row 0 64 (omega arith) ∙ zero-add (count_trailing_zeros 64 (row / 2 ^ 0)) ∙ ap (count_trailing_zeros 64) (div-one row))
