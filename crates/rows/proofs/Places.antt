-- What the places of a row are, for those who keep sets in rows: one place (`has-at`, `has_past`, `joined_at`, `joined_past`) and what
-- makes a row (`has-none`, `has-joined`, `has_left`, `has-common`, `has_either`); the row of a test (`has-row`; `row-none`, `row_more`,
-- `row_kept`); the lowest place (`lowest_least`); a place dropped (`has_dropped`).
-- Not here: a loop over the places (Taking.antt); the highest one (Upper.antt); equal rows (Same.antt); the code's words (Words.antt).
use Prim.Native.Nat.{ℕ, zero, suc, ◌+◌, ◌/◌, ◌%◌, ◌^◌, ◌≤◌, ◌<◌}
use mathlib.Core.Bool.{Bool, true, false, cond, not, ◌&&◌, ◌||◌, false≢true}
use mathlib.Core.Path.{◌≡◌, refl, sym, ap, ◌∙◌}
use native.Mathlib.Nat.{pow-zero, pow-suc, div-one, div-eq_of_lt, mul-div-mul_right, mul-mod_left, mod-lt, zero-div}
use native.Mathlib.Numerals.{add-one}
use native.Mathlib.Omega.{arith}
use borrow.Author.Tests.{ltb-true, ltb-false, eqb-true, lt-ltb, le-ltb, eq-eqb}
use lib.Bits.{bit_or, bit_and, bit_xor, or_shr, or_mod, xor_shr, xor_mod, and_shr, and_mod}
use lib.Dec.{eqb, ltb, lit<, eqb-zero-suc, eqb-suc-zero, eqb-suc-suc}
use lib.Pow.{pow-lt}
use Rattle.places.proofs.Lowest.{Least, seek_least}
use Rattle.rows.specs.Rows.{has, joined, left, common, either, lowest, row_of}

-- ---- a number's digits

or_two : (x y : ℕ) → x < 2 → y < 2 → eqb (bit_or x y) 1 ≡ eqb x 1 || eqb y 1
or_two zero zero h k = refl
or_two zero (suc zero) h k = refl
or_two (suc zero) zero h k = refl
or_two (suc zero) (suc zero) h k = refl
or_two zero (suc (suc y)) h k = absurd (omega arith)
or_two (suc zero) (suc (suc y)) h k = absurd (omega arith)
or_two (suc (suc x)) y h k = absurd (omega arith)

but_two : (x y : ℕ) → x < 2 → y < 2 → eqb (bit_xor x (bit_and x y)) 1 ≡ eqb x 1 && not (eqb y 1)
but_two zero zero h k = refl
but_two zero (suc zero) h k = refl
but_two (suc zero) zero h k = refl
but_two (suc zero) (suc zero) h k = refl
but_two zero (suc (suc y)) h k = absurd (omega arith)
but_two (suc zero) (suc (suc y)) h k = absurd (omega arith)
but_two (suc (suc x)) y h k = absurd (omega arith)

and_two : (x y : ℕ) → x < 2 → y < 2 → eqb (bit_and x y) 1 ≡ eqb x 1 && eqb y 1
and_two zero zero h k = refl
and_two zero (suc zero) h k = refl
and_two (suc zero) zero h k = refl
and_two (suc zero) (suc zero) h k = refl
and_two zero (suc (suc y)) h k = absurd (omega arith)
and_two (suc zero) (suc (suc y)) h k = absurd (omega arith)
and_two (suc (suc x)) y h k = absurd (omega arith)

-- digit i of a number is set
abbrev digit : ℕ → ℕ → Bool
digit i x = eqb (x / 2 ^ i % 2) 1

digit_or : (i a b : ℕ) → digit i (bit_or a b) ≡ digit i a || digit i b
digit_or i a b =
    ap (λ (x : ℕ). eqb (x % 2) 1) (or_shr a b i)
    ∙ ap (λ (x : ℕ). eqb x 1) (or_mod (a / 2 ^ i) (b / 2 ^ i) 1)
    ∙ or_two (a / 2 ^ i % 2) (b / 2 ^ i % 2) (mod-lt (a / 2 ^ i) (lit< tt)) (mod-lt (b / 2 ^ i) (lit< tt))

digit_and : (i a b : ℕ) → digit i (bit_and a b) ≡ digit i a && digit i b
digit_and i a b =
    ap (λ (x : ℕ). eqb (x % 2) 1) (and_shr a b i)
    ∙ ap (λ (x : ℕ). eqb x 1) (and_mod (a / 2 ^ i) (b / 2 ^ i) 1)
    ∙ and_two (a / 2 ^ i % 2) (b / 2 ^ i % 2) (mod-lt (a / 2 ^ i) (lit< tt)) (mod-lt (b / 2 ^ i) (lit< tt))

digit_but : (i a b : ℕ) → digit i (bit_xor a (bit_and a b)) ≡ digit i a && not (digit i b)
digit_but i a b =
    let x : ℕ = a / 2 ^ i in
    let y : ℕ = b / 2 ^ i in
    ap (λ (z : ℕ). eqb (z % 2) 1) (xor_shr a (bit_and a b) i ∙ ap (bit_xor x) (and_shr a b i))
    ∙ ap (λ (z : ℕ). eqb z 1) (xor_mod x (bit_and x y) 1 ∙ ap (bit_xor (x % 2)) (and_mod x y 1))
    ∙ but_two (x % 2) (y % 2) (mod-lt x (lit< tt)) (mod-lt y (lit< tt))

digit_pow : (i p : ℕ) → digit i (2 ^ p) ≡ eqb i p
digit_pow zero zero = refl
digit_pow zero (suc p) = rw (pow-suc, pow-zero, div-one, mul-mod_left) (sym (eqb-zero-suc p))
digit_pow (suc i) zero = rw (pow-zero, div-eq_of_lt (pow-lt {i = 0} {j = suc i} (omega arith)), eqb-suc-zero)
digit_pow (suc i) (suc p) = rw (pow-suc 2 p, pow-suc 2 i, mul-div-mul_right (2 ^ p) (2 ^ i) (lit< tt), eqb-suc-suc) (digit_pow i p)

-- ---- one place of a row

pub has-at : (i row : ℕ) → i < 64 → has i row ≡ eqb (row / 2 ^ i % 2) 1
unfolding has
has-at i row h = rw (lt-ltb i 64 h)

pub has_past : (i row : ℕ) → 64 ≤ i → has i row ≡ false
unfolding has
has_past i row h = rw (le-ltb i 64 h)

pub joined_at : (row i : ℕ) → i < 64 → joined row i ≡ bit_or row (2 ^ i)
unfolding joined
joined_at row i h = rw (lt-ltb i 64 h)

pub joined_past : (row i : ℕ) → 64 ≤ i → joined row i ≡ row
unfolding joined
joined_past row i h = rw (le-ltb i 64 h)

and_no : (t : Bool) → t && false ≡ false
and_no true = refl
and_no false = refl

or_no : (t : Bool) → t ≡ t || false
or_no true = refl
or_no false = refl

pub has-none : (i : ℕ) → has i 0 ≡ false
unfolding has
has-none i = rw zero-div (and_no (ltb i 64))

pub has-joined : (j row i : ℕ) → has j (joined row i) ≡ has j row || (ltb i 64 && eqb j i)
unfolding has joined
has-joined j row i = go (ltb i 64) refl
  where
    apart : (t s q : Bool) → (q ≡ true → t ≡ true) → t && (s || q) ≡ t && s || q
    apart true s q h = refl
    apart false s true h = h refl
    apart false s false h = refl

    go : (b : Bool) → ltb i 64 ≡ b → ltb j 64 && digit j (cond b (bit_or row (2 ^ i)) row) ≡ ltb j 64 && digit j row || (b && eqb j i)
    go true e =
        ap (λ (t : Bool). ltb j 64 && t) (digit_or j row (2 ^ i) ∙ ap (λ (t : Bool). digit j row || t) (digit_pow j i))
        ∙ apart (ltb j 64) (digit j row) (eqb j i) (λ q. rw (eqb-true j i q) e)
    go false e = or_no (ltb j 64 && digit j row)

pub has_left : (i row taken : ℕ) → has i (left row taken) ≡ has i row && not (has i taken)
unfolding has left
has_left i row taken = go (ltb i 64)
  where
    go : (t : Bool) → t && digit i (bit_xor row (bit_and row taken)) ≡ t && digit i row && not (t && digit i taken)
    go true = digit_but i row taken
    go false = refl

pub has-common : (i row other : ℕ) → has i (common row other) ≡ has i row && has i other
unfolding has common
has-common i row other = go (ltb i 64)
  where
    go : (t : Bool) → t && digit i (bit_and row other) ≡ (t && digit i row) && (t && digit i other)
    go true = digit_and i row other
    go false = refl

pub has_either : (i row other : ℕ) → has i (either row other) ≡ has i row || has i other
unfolding has either
has_either i row other = go (ltb i 64)
  where
    go : (t : Bool) → t && digit i (bit_or row other) ≡ (t && digit i row) || (t && digit i other)
    go true = digit_or i row other
    go false = refl

-- ---- the row of a test

module _ (test : ℕ → Bool) where
  pub row-none : row_of test 0 ≡ 0
  unfolding row_of
  row-none = refl

  row_next : (i : ℕ) → row_of test (i + 1) ≡ cond (test i) (joined (row_of test i) i) (row_of test i)
  unfolding row_of
  row_next i = ap (row_of test) (add-one i)

  pub row_more : (i : ℕ) → test i ≡ true → row_of test (i + 1) ≡ joined (row_of test i) i
  row_more i e = row_next i ∙ rw e

  pub row_kept : (i : ℕ) → test i ≡ false → row_of test (i + 1) ≡ row_of test i
  row_kept i e = row_next i ∙ rw e

  -- one place more, where it passes and where it does not
  wider : (n i : ℕ) → test n ≡ true → ltb i n && test i || eqb i n ≡ ltb i (suc n) && test i
  wider n i e = go (ltb i n) refl (eqb i n) refl
    where
      go : (b : Bool) → ltb i n ≡ b → (q : Bool) → eqb i n ≡ q → b && test i || q ≡ ltb i (suc n) && test i
      go b p true q = let k : i ≡ n = eqb-true i n q in rw (lt-ltb i (suc n) (omega arith), k, e) (all b)
        where
          all : (b : Bool) → b && true || true ≡ true
          all true = refl
          all false = refl
      go true p false q = rw (lt-ltb i (suc n) (omega (arith, ltb-true i n p))) (sym (or_no (test i)))
      go false p false q =
          let k : ¬ (i ≡ n) = λ k. false≢true (sym q ∙ eq-eqb i n k) in rw (le-ltb i (suc n) (omega (arith, ltb-false i n p)))

  same_width : (n i : ℕ) → test n ≡ false → ltb i n && test i ≡ ltb i (suc n) && test i
  same_width n i e = go (ltb i n) refl (eqb i n) refl
    where
      go : (b : Bool) → ltb i n ≡ b → (q : Bool) → eqb i n ≡ q → b && test i ≡ ltb i (suc n) && test i
      go b p true q = let k : i ≡ n = eqb-true i n q in rw (k, e) (and_no b ∙ sym (and_no (ltb n (suc n))))
      go true p false q = rw (lt-ltb i (suc n) (omega (arith, ltb-true i n p)))
      go false p false q =
          let k : ¬ (i ≡ n) = λ k. false≢true (sym q ∙ eq-eqb i n k) in rw (le-ltb i (suc n) (omega (arith, ltb-false i n p)))

  pub has-row : (n i : ℕ) → n ≤ 64 → has i (row_of test n) ≡ ltb i n && test i
  unfolding row_of
  has-row zero i h = has-none i ∙ rw (le-ltb i 0 (omega arith))
  has-row (suc n) i h = go (test n) refl (has-row n i (omega arith))
    where
      go : (b : Bool) → test n ≡ b → has i (row_of test n) ≡ ltb i n && test i
          → has i (cond b (joined (row_of test n) n) (row_of test n)) ≡ ltb i (suc n) && test i
      go true e r = has-joined i (row_of test n) n ∙ rw (r, lt-ltb n 64 (omega arith)) (wider n i e)
      go false e r = r ∙ same_width n i e

-- ---- the lowest place

pub lowest_least : (row : ℕ) → Least (λ i. has i row) 0 64 (lowest row)
unfolding lowest
lowest_least row = seek_least (λ i. has i row) 0 64

-- ---- a row without one of its places

pub has_dropped : (row i : ℕ) → i < 64 → (j : ℕ) → has j (left row (joined 0 i)) ≡ has j row && not (eqb j i)
has_dropped row i h j = has_left j row (joined 0 i) ∙ rw (has-joined j 0 i, has-none j, lt-ltb i 64 h)
