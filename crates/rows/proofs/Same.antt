-- `row_same`: a row is no more than its places. It is for a contract that says which places a row has: no other row meets it, as
-- policy/proofs/Qualifying.antt says of the seats. The places of a row: Places.antt.
use Prim.Native.Nat.{ℕ, zero, suc, ◌+◌, ◌*◌, ◌/◌, ◌%◌, ◌^◌, ◌<◌}
use mathlib.Core.Bool.{false≢true}
use mathlib.Core.Path.{◌≡◌, refl, sym, ap, ◌∙◌}
use native.Mathlib.Nat.{div-one, div-add-mod', div-lt_iff_lt-mul, div-div-eq-div-mul, mod-lt, pow-suc, pow-succ', pow-zero}
use native.Mathlib.Omega.{arith}
use lib.Dec.{eqb, lit<}
use Rattle.rows.specs.Rows.{has}
use Rattle.rows.proofs.Places.{has-at}

digit-same : (x y : ℕ) → x < 2 → y < 2 → eqb x 1 ≡ eqb y 1 → x ≡ y
digit-same zero zero h k e = refl
digit-same zero (suc zero) h k e = absurd (false≢true e)
digit-same (suc zero) zero h k e = absurd (false≢true (sym e))
digit-same (suc zero) (suc zero) h k e = refl
digit-same zero (suc (suc y)) h k e = absurd (omega arith)
digit-same (suc zero) (suc (suc y)) h k e = absurd (omega arith)
digit-same (suc (suc x)) y h k e = absurd (omega arith)

-- two numbers of k digits that have the same digits
digits_same : (k a b : ℕ) → a < 2 ^ k → b < 2 ^ k → ((i : ℕ) → i < k → eqb (a / 2 ^ i % 2) 1 ≡ eqb (b / 2 ^ i % 2) 1) → a ≡ b
digits_same zero a b h k same = omega arith
digits_same (suc k) a b h l same =
    sym (div-add-mod' a 2)
    ∙ ap (λ (x : ℕ). x * 2 + a % 2) (digits_same k (a / 2) (b / 2) (half a h) (half b l) (λ i m. above i a ∙ same (suc i) (omega arith) ∙ sym (above i b)))
    ∙ ap (λ (x : ℕ). b / 2 * 2 + x) lowest-same
    ∙ div-add-mod' b 2
  where
    half : (x : ℕ) → x < 2 ^ suc k → x / 2 < 2 ^ k
    half x m = (div-lt_iff_lt-mul (lit< tt)).1 (rw pow-suc at m)

    above : (i x : ℕ) → eqb (x / 2 / 2 ^ i % 2) 1 ≡ eqb (x / 2 ^ suc i % 2) 1
    above i x = ap (λ (y : ℕ). eqb (y % 2) 1) (div-div-eq-div-mul x 2 (2 ^ i) ∙ ap (λ (y : ℕ). x / y) (sym (pow-succ' 2 i)))

    first : (x : ℕ) → eqb (x / 2 ^ 0 % 2) 1 ≡ eqb (x % 2) 1
    first x = rw (pow-zero, div-one)

    lowest-same : a % 2 ≡ b % 2
    lowest-same = digit-same (a % 2) (b % 2) (mod-lt a (lit< tt)) (mod-lt b (lit< tt)) (sym (first a) ∙ same 0 (omega arith) ∙ first b)

pub row_same : (a b : ℕ) → a < 2 ^ 64 → b < 2 ^ 64 → ((i : ℕ) → has i a ≡ has i b) → a ≡ b
row_same a b h k same = digits_same 64 a b h k (λ i l. sym (has-at i a l) ∙ same i ∙ has-at i b l)
