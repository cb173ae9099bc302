-- The highest place of a row, and the row of the places below a number.
-- `highest-has`, `highest-above`: what the highest place says of a row; `highest-place`: a row that is not 0 has one; `has-below`. What the
-- code's words say of them: `highest_zero`, `highest-zeros`, `below-some`, `below_all`. The lowest place is in Places.antt.
use Prim.Native.Nat.{ℕ, zero, suc, ◌+◌, ◌-◌, ◌*◌, ◌/◌, ◌%◌, ◌^◌, ◌≤◌, ◌<◌}
use mathlib.Core.Bool.{Bool, true, false, cond, ◌&&◌, false≢true}
use mathlib.Core.Logic.{◌⊎◌, inl, inr, ⊎_elim}
use mathlib.Core.Path.{◌≡◌, refl, sym, ap, ◌∙◌, subst}
use native.Mathlib.Nat.{lt_of_lt_of_le, pow-suc, div-eq_of_lt, div-eq_of_lt-le, mul_comm, one-mul, eq-or-lt_of_le, le_of_suc-le-suc}
use native.Mathlib.Numerals.{add-one}
use native.Mathlib.Omega.{arith}
use borrow.Author.Tests.{ltb-true, ltb-false, lt-ltb, le-ltb}
use lib.Count.{count_leading_zeros, leading_top}
use lib.Dec.{eqb, ltb, lit<}
use lib.Pow.{pow_mono, ones_split, ones_lt, high, low, shl_exact}
use Rattle.rows.specs.Rows.{has, final, highest, below}
use Rattle.rows.proofs.Places.{has-at, has_past, has-none}

-- ---- the last that passes a test

-- r is the last number below n that passes a test
pub record Last (test : ℕ → Bool) (n r : ℕ) : Type 0 where
  pub within : r < n
  pub passes : test r ≡ true
  pub above : (i : ℕ) → r < i → i < n → test i ≡ false

final_cases : (test : ℕ → Bool) (d n : ℕ) → Last test n (final test d n) ⊎ ((final test d n ≡ d) × ((i : ℕ) → i < n → test i ≡ false))
unfolding final
final_cases test d zero = inr (refl, λ i h. absurd (omega arith))
final_cases test d (suc n) = go (test n) refl (final_cases test d n)
  where
    go : (b : Bool) → test n ≡ b → Last test n (final test d n) ⊎ ((final test d n ≡ d) × ((i : ℕ) → i < n → test i ≡ false))
        → Last test (suc n) (cond b n (final test d n)) ⊎ ((cond b n (final test d n) ≡ d) × ((i : ℕ) → i < suc n → test i ≡ false))
    go true e r = inl (record { within = omega arith; passes = e; above = λ i h k. absurd (omega arith) })
    go false e (inl l) = inl (record { within = omega (arith, l.within); passes = l.passes; above = λ i h k. ⊎_elim (λ q. ap test q ∙ e) (λ m. l.above i h m) (eq-or-lt_of_le (le_of_suc-le-suc k)) })
    go false e (inr (q, h)) = inr (q, λ i k. ⊎_elim (λ z. ap test z ∙ e) (λ m. h i m) (eq-or-lt_of_le (le_of_suc-le-suc k)))

-- ---- the highest place

has_within : (i row : ℕ) → has i row ≡ true → i < 64
has_within i row h = go (ltb i 64) refl
  where
    go : (b : Bool) → ltb i 64 ≡ b → i < 64
    go true e = ltb-true i 64 e
    go false e = absurd (false≢true (sym (has_past i row (ltb-false i 64 e)) ∙ h))

module _ (row : ℕ) where
  cases : Last (λ i. has i row) 64 (highest row) ⊎ ((highest row ≡ 64) × ((i : ℕ) → i < 64 → has i row ≡ false))
  unfolding highest
  cases = final_cases (λ i. has i row) 64 64

  beyond : (i : ℕ) → (i < 64 → has i row ≡ false) → has i row ≡ false
  beyond i h = go (ltb i 64) refl
    where
      go : (b : Bool) → ltb i 64 ≡ b → has i row ≡ false
      go true e = h (ltb-true i 64 e)
      go false e = has_past i row (ltb-false i 64 e)

  pub highest-has : highest row < 64 → has (highest row) row ≡ true
  highest-has h = ⊎_elim (λ l. l.passes) (λ (q, n). absurd (omega arith)) cases

  pub highest-above : highest row < 64 → (i : ℕ) → highest row < i → has i row ≡ false
  highest-above h i k = ⊎_elim (λ l. beyond i (λ m. l.above i k m)) (λ (q, n). absurd (omega arith)) cases

  highest-is : (i : ℕ) → has i row ≡ true → ((j : ℕ) → i < j → has j row ≡ false) → i ≡ highest row
  highest-is i y none = ⊎_elim
      (λ l.
      let a : ¬ (highest row < i) = λ k. false≢true (sym (l.above i k (has_within i row y)) ∙ y) in
      let b : ¬ (i < highest row) = λ k. false≢true (sym (none (highest row) k) ∙ l.passes) in
      omega arith)
      (λ (q, n). absurd (false≢true (sym (n i (has_within i row y)) ∙ y)))
      cases

  -- digit i is the number's highest
  digit-top : (i : ℕ) → i < 64 → 2 ^ i ≤ row → row < 2 ^ suc i → (has i row ≡ true) × ((j : ℕ) → i < j → has j row ≡ false)
  digit-top i h lo hi =
      let up : row < (1 + 1) * 2 ^ i = subst (λ (x : ℕ). row < x) (pow-suc 2 i ∙ mul_comm (2 ^ i) 2) hi in
      let lw : 1 * 2 ^ i ≤ row = rw one-mul lo in (
        has-at i row h ∙ ap (λ (x : ℕ). eqb (x % 2) 1) (div-eq_of_lt-le {k = 1} (2 ^ i) lw up),
        λ j b. beyond j (λ m. has-at j row m ∙ ap (λ (x : ℕ). eqb (x % 2) 1) (div-eq_of_lt (lt_of_lt_of_le hi (pow_mono b)))),
      )

  module _ (some : 0 < row) (fits : row < 2 ^ 64) where
    pub zeros_less : count_leading_zeros 64 row ≤ 63
    zeros_less = omega (arith, (leading_top 64 row some fits).1)

    pub highest-zeros : 63 - count_leading_zeros 64 row ≡ highest row
    highest-zeros =
        let t = leading_top 64 row some fits in
        let e : t.0 ≡ 63 - count_leading_zeros 64 row = omega (arith, t.1) in
        let d = digit-top t.0 (omega (arith, t.1)) t.2 t.3 in
        sym e ∙ highest-is t.0 d.0 d.1

    pub highest-place : highest row < 64
    highest-place = omega (arith, highest-zeros)

pub highest_zero : (row : ℕ) → row ≡ 0 → 64 ≡ highest row
highest_zero row z = ⊎_elim (λ l. absurd (false≢true (sym (ap (has (highest row)) z ∙ has-none (highest row)) ∙ l.passes))) (λ (q, n). sym q) (cases row)

-- ---- the places below a number

digit_ones : (j n : ℕ) → eqb ((2 ^ n - 1) / 2 ^ j % 2) 1 ≡ ltb j n
digit_ones j n = go (ltb j n) refl
  where
    odd : (m : ℕ) → (2 ^ suc m - 1) % 2 ≡ 1
    odd m = ap (λ (k : ℕ). (2 ^ k - 1) % 2) (sym (add-one m)) ∙ ap (λ (x : ℕ). x % 2) (ones_split m 1) ∙ low (2 ^ m - 1) 1 {lo = 1} (lit< tt)

    inside : (k : ℕ) → n ≡ suc k + j → eqb ((2 ^ n - 1) / 2 ^ j % 2) 1 ≡ true
    inside k q =
        let e : 2 ^ n - 1 ≡ (2 ^ suc k - 1) * 2 ^ j + (2 ^ j - 1) = ap (λ (x : ℕ). 2 ^ x - 1) q ∙ ones_split (suc k) j in
        ap (λ (x : ℕ). eqb (x % 2) 1) (ap (λ (x : ℕ). x / 2 ^ j) e ∙ high (2 ^ suc k - 1) j (ones_lt j)) ∙ ap (λ (x : ℕ). eqb x 1) (odd k)

    go : (b : Bool) → ltb j n ≡ b → eqb ((2 ^ n - 1) / 2 ^ j % 2) 1 ≡ b
    go true q = let l : j < n = ltb-true j n q in inside (n - j - 1) (omega arith)
    go false q = ap (λ (x : ℕ). eqb (x % 2) 1) (div-eq_of_lt (lt_of_lt_of_le (ones_lt n) (pow_mono (ltb-false j n q))))

shifted : (n : ℕ) → n < 64 → 1 * 2 ^ n % 2 ^ 64 ≡ 2 ^ n
shifted n h = shl_exact 1 n 64 (lit< tt) (omega arith) ∙ one-mul (2 ^ n)

pub shifted_some : (n : ℕ) → n < 64 → 1 ≤ 1 * 2 ^ n % 2 ^ 64
shifted_some n h = rw (shifted n h) (omega (arith, ones_lt n))

pub below-some : (n : ℕ) → n < 64 → 1 * 2 ^ n % 2 ^ 64 - 1 ≡ below n
unfolding below
below-some n h = rw (lt-ltb n 64 h) (ap (λ (x : ℕ). x - 1) (shifted n h))

pub below_all : (n : ℕ) → 64 ≤ n → 18446744073709551615 ≡ below n
unfolding below
below_all n h = rw (le-ltb n 64 h)

pub has-below : (j n : ℕ) → n ≤ 64 → has j (below n) ≡ ltb j n
unfolding below has
has-below j n h = ⊎_elim
    (λ e. rw (le-ltb n 64 (omega arith), digit_ones, e) (twice (ltb j 64)))
    (λ k. rw (lt-ltb n 64 k, digit_ones) (narrow (ltb j n) refl))
    (eq-or-lt_of_le h)
  where
    twice : (b : Bool) → b && b ≡ b
    twice true = refl
    twice false = refl

    narrow : (b : Bool) → ltb j n ≡ b → ltb j 64 && b ≡ b
    narrow true q = rw (lt-ltb j 64 (omega (arith, ltb-true j n q)))
    narrow false q = and_no (ltb j 64)
      where
        and_no : (t : Bool) → t && false ≡ false
        and_no true = refl
        and_no false = refl
