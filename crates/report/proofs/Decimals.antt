-- A number in decimal: how many digits there are (`decimal_u8`, `decimal_u64`), and that `io::decimal` writes them (`fewest_decimal`). For
-- the proofs of the line's functions; decimals: specs/Text.antt.
use mathlib.Core.Bool.{Bool, true, false, cond}
use mathlib.Core.List.{List, [], ◌∷◌, ◌++◌}
use mathlib.Core.Path.{◌≡◌, refl, ap, sym}
use Prim.Native.Nat.{ℕ, zero, suc, ◌-◌, ◌*◌, ◌/◌, ◌%◌, ◌^◌, ◌≤◌, ◌<◌}
use native.Mathlib.Nat.{pow-suc, one-le-pow}
use native.Mathlib.Omega.{arith}
use borrow.Author.Tests.{ltb-true, ltb-false, lt-ltb, le-ltb}
use lib.Dec.{ltb}
use lib.ListN.{length, length-append}
use Rattle.io.specs.Digits.{last_digits, IsDigitCount}
use Rattle.report.specs.Text.{digit, decimal_in, decimal}

-- more divisions than are needed change nothing
enough : (k m n : ℕ) → n ≤ k → n ≤ m → decimal_in k n ≡ decimal_in m n
unfolding decimal_in
enough zero zero n h g = refl
enough zero (suc m) n h g = rw (lt-ltb n 10 (omega arith))
enough (suc k) zero n h g = rw (lt-ltb n 10 (omega arith))
enough (suc k) (suc m) n h g = by_size (ltb n 10) refl (λ l. enough k m (n / 10) (omega arith) (omega arith))
  where
    by_size : (b : Bool) → ltb n 10 ≡ b → (10 ≤ n → decimal_in k (n / 10) ≡ decimal_in m (n / 10))
        → cond b (digit n ∷ []) (decimal_in k (n / 10) ++ (digit (n % 10) ∷ [])) ≡ cond b (digit n ∷ []) (decimal_in m (n / 10) ++ (digit (n % 10) ∷ []))
    by_size true e r = refl
    by_size false e r = ap (λ (d : List ℕ). d ++ (digit (n % 10) ∷ [])) (r (ltb-false n 10 e))

decimal_one : (n : ℕ) → n < 10 → decimal n ≡ digit n ∷ []
unfolding decimal_in decimal
decimal_one zero h = refl
decimal_one (suc n) h = rw (lt-ltb (suc n) 10 h)

decimal-more : (n : ℕ) → 10 ≤ n → decimal n ≡ decimal (n / 10) ++ (digit (n % 10) ∷ [])
unfolding decimal_in decimal
decimal-more zero h = absurd (omega arith)
decimal-more (suc n) h =
    rw (le-ltb (suc n) 10 h)
    (ap (λ (d : List ℕ). d ++ (digit (suc n % 10) ∷ [])) (enough n (suc n / 10) (suc n / 10) (omega arith) (omega arith)))

-- a number below 10 ^ (k + 1) has at most k + 1 digits
decimal-length : (k n : ℕ) → n < 10 ^ suc k → length (decimal n) ≤ suc k
decimal-length zero n h = rw (decimal_one n h) (omega arith)
decimal-length (suc k) n h =
    let s : n < 10 ^ suc k * 10 = rw pow-suc at h in
    by_size (ltb n 10) refl (decimal-length k (n / 10) (omega arith))
  where
    by_size : (b : Bool) → ltb n 10 ≡ b → length (decimal (n / 10)) ≤ suc k → length (decimal n) ≤ suc (suc k)
    by_size true e r = rw (decimal_one n (ltb-true n 10 e)) (omega arith)
    by_size false e r = rw (decimal-more n (ltb-false n 10 e)) (simp length-append (omega arith))

pub decimal_u8 : (n : ℕ) → n < 256 → length (decimal n) ≤ 3
decimal_u8 n h = decimal-length 2 n (omega arith)

pub decimal_u64 : (n : ℕ) → n < 2 ^ 64 → length (decimal n) ≤ 20
decimal_u64 n h = decimal-length 19 n (omega arith)

-- the fewest digits that hold n are its decimal
pub fewest_decimal : (k n : ℕ) → IsDigitCount 10 1 n k → last_digits 10 k n ≡ decimal n
fewest_decimal zero n f = absurd (omega arith)
fewest_decimal (suc zero) n f =
    let l : n < 10 = f.1 in
    let e : n % 10 ≡ n = omega arith in
    rw (e, lt-ltb n 10 l) (sym (decimal_one n l))
fewest_decimal (suc (suc k)) n f =
    let p : 1 ≤ 10 ^ k = one-le-pow k 10 (omega arith) in
    let q : suc (suc k) - 1 ≡ suc k = omega arith in
    let least : 10 ^ k * 10 ≤ n = rw (q, pow-suc) at (f.2 (omega arith)) in
    let below : n < 10 ^ k * 10 * 10 = rw (pow-suc, pow-suc) at f.1 in
    let m : n % 10 < 10 = omega arith in
    let s : suc k - 1 ≡ k = omega arith in
    let rest : IsDigitCount 10 1 (n / 10) (suc k) = (omega arith, rw pow-suc (omega arith), λ i. rw s (omega arith)) in
    rw (decimal-more n (omega arith), lt-ltb (n % 10) 10 m)
    (ap (λ (d : List ℕ). d ++ (digit (n % 10) ∷ [])) (fewest_decimal (suc k) (n / 10) rest))
