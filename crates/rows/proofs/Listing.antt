-- A loop that puts a number at each place: it begins with zeros (`listing_none`), each turn puts one more (`listing-next`), or nothing
-- where that is 0 (`listing-kept`), and what stands at a place is what was put there (`listing-at`). Zeros alone: `get_d_zeros`. For the
-- loops of issuing and policy; the sets themselves: Places.antt.
use Prim.Native.Nat.{ℕ, zero, suc, ◌+◌, ◌-◌, ◌<◌, ◌≤◌}
use mathlib.Core.Path.{◌≡◌, refl, sym, ap, ◌∙◌}
use mathlib.Core.Bool.{Bool, true, false, cond}
use mathlib.Core.List.{[], ◌∷◌, ◌++◌}
use native.Mathlib.Omega.{arith}
use native.Mathlib.Nat.{sub-zero}
use native.Mathlib.Numerals.{add-one}
use lib.Dec.{ltb}
use lib.ListN.{length, get_or, set, replicate, length-append, get_or-append}
use lib.Seq.{append_snoc, get_or_at, set_at, get_or-append-add}
use borrow.Author.Tests.{ltb-true, ltb-false}
use Rattle.rows.specs.Rows.{up_to, listing}

replicate-first : (n : ℕ) → 0 < n → replicate {A = ℕ} n 0 ≡ 0 ∷ replicate (n - 1) 0
replicate-first zero h = absurd (omega arith)
replicate-first (suc n) h = let k : suc n - 1 ≡ n = omega arith in rw k

pub get_d_zeros : (n i : ℕ) → get_or (replicate {A = ℕ} n 0) i 0 ≡ 0
get_d_zeros zero i = refl
get_d_zeros (suc n) zero = refl
get_d_zeros (suc n) (suc i) = get_d_zeros n i

module _ (f : ℕ → ℕ) where
  up_to-length : (n : ℕ) → length (up_to f n) ≡ n
  unfolding up_to
  up_to-length zero = refl
  up_to-length (suc n) = rw (length-append (up_to f n) (f n ∷ []), up_to-length n) (add-one n)

  -- the last of them, and those before it
  up_to-more : (n i : ℕ) → i < suc n → (i < n → get_or (up_to f n) i 0 ≡ f i) → (b : Bool) → ltb i n ≡ b
      → get_or (up_to f n ++ f n ∷ []) i 0 ≡ f i
  up_to-more n i h before true e =
      let l : i < n = ltb-true i n e in
      let k : i < length (up_to f n) = rw (up_to-length n) l in
      get_or-append (up_to f n) (f n ∷ []) 0 i k ∙ before l
  up_to-more n i h before false e =
      let l : n ≤ i = ltb-false i n e in
      let k : n ≡ i = omega arith in
      get_or_at (up_to f n) (f n) [] 0 i (up_to-length n ∙ k) ∙ ap f k

  up_to-at : (n i : ℕ) → i < n → get_or (up_to f n) i 0 ≡ f i
  unfolding up_to
  up_to-at zero i h = absurd (omega arith)
  up_to-at (suc n) i h = up_to-more n i h (up_to-at n i) (ltb i n) refl

  module _ (most : ℕ) where
    pub listing_none : listing most 0 f ≡ replicate most 0
    unfolding listing up_to
    listing_none = rw sub-zero

    pub listing-next : (i : ℕ) → i < most → set (listing most i f) i (f i) ≡ listing most (i + 1) f
    unfolding listing up_to
    listing-next i h =
        let less : most - i - 1 ≡ most - suc i = omega arith in
        rw (replicate-first (most - i) (omega arith), set_at (up_to f i) 0 (replicate (most - i - 1) 0) (f i) i (up_to-length i), add-one, less)
        (sym (append_snoc (up_to f i) (f i) (replicate (most - suc i) 0)))

    pub listing-kept : (i : ℕ) → i < most → f i ≡ 0 → listing most i f ≡ listing most (i + 1) f
    unfolding listing up_to
    listing-kept i h e =
        let less : most - i - 1 ≡ most - suc i = omega arith in
        rw (replicate-first (most - i) (omega arith), add-one, less)
        (ap (λ (x : ℕ). up_to f i ++ x ∷ replicate (most - suc i) 0) (sym e) ∙ sym (append_snoc (up_to f i) (f i) (replicate (most - suc i) 0)))

    pub listing-there : (n i : ℕ) → i < n → get_or (listing most n f) i 0 ≡ f i
    unfolding listing
    listing-there n i h =
        let k : i < length (up_to f n) = rw (up_to-length n) h in
        get_or-append (up_to f n) (replicate (most - n) 0) 0 i k ∙ up_to-at n i h

    listing_past : (n i : ℕ) → n ≤ i → get_or (listing most n f) i 0 ≡ 0
    unfolding listing
    listing_past n i h =
        let k : length (up_to f n) + (i - n) ≡ i = rw (up_to-length n) (omega arith) in
        ap (λ (j : ℕ). get_or (listing most n f) j 0) (sym k)
        ∙ get_or-append-add (up_to f n) (replicate (most - n) 0) (i - n) 0
        ∙ get_d_zeros (most - n) (i - n)

    pub listing-at : (n i : ℕ) → get_or (listing most n f) i 0 ≡ cond (ltb i n) (f i) 0
    listing-at n i = by_test (ltb i n) refl
      where
        by_test : (b : Bool) → ltb i n ≡ b → get_or (listing most n f) i 0 ≡ cond b (f i) 0
        by_test true e = listing-there n i (ltb-true i n e)
        by_test false e = listing_past n i (ltb-false i n e)
