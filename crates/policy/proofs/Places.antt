-- A loop that judges each place once: it begins with no place (`judging_starts`), and each turn puts a place's limit, and the place itself
-- where it is sound (`judging_turn`); a place that is not asked for is passed over (`judging_passes`); it ends with each place judged
-- (`judging_ends`). A row of some of the places that are judged, by their test or by their row (`row_of_judged`). For the proofs of
-- `places_judged` and `roots_above`.
use Prim.Native.Nat.{ℕ, zero, suc, ◌+◌, ◌<◌, ◌≤◌}
use mathlib.Core.Bool.{Bool, true, false, cond, ◌&&◌}
use mathlib.Core.List.{List}
use mathlib.Core.Path.{◌≡◌, refl, sym, ap, ◌∙◌}
use native.Mathlib.Omega.{arith}
use lib.ListN.{set, replicate}
use borrow.Author.Tests.{lt-ltb}
use Rattle.rows.specs.Rows.{has, row_of, joined, listing}
use Rattle.rows.proofs.Places.{row-none, row_more, row_kept, has-row}
use Rattle.rows.proofs.Listing.{listing_none, listing-next, listing-kept}

-- the places below i are judged
pub record Judging (test : ℕ → Bool) (limit : ℕ → ℕ) (most sound : ℕ) (limits : List ℕ) (i : ℕ) : Type 0 where
  pub row : sound ≡ row_of test i
  pub list : limits ≡ listing most i limit

module _ (test : ℕ → Bool) (limit : ℕ → ℕ) (most : ℕ) where
  pub judging_starts : Judging test limit most 0 (replicate most 0) 0
  judging_starts = record { row = sym (row-none test); list = sym (listing_none limit most) }

  pub judging_ends : (sound : ℕ) (limits : List ℕ) (i n size : ℕ) → Judging test limit most sound limits i → i ≤ n → n ≤ i → n ≡ size
      → (sound ≡ row_of test size) × (limits ≡ listing most size limit)
  judging_ends sound limits i n size j h k e =
      let q : i ≡ size = omega arith in (j.row ∙ ap (row_of test) q, j.list ∙ ap (λ m. listing most m limit) q)

  module _ (sound : ℕ) (limits : List ℕ) (i : ℕ) (j : Judging test limit most sound limits i) (room : i < most) where
    limit_put : (l : ℕ) → l ≡ limit i → set limits i l ≡ listing most (i + 1) limit
    limit_put l e = rw (e, j.list) (listing-next limit most i room)

    -- a place that fails and has no limit is passed over
    pub judging_passes : test i ≡ false → limit i ≡ 0 → Judging test limit most sound limits (i + 1)
    judging_passes t z = record { row = j.row ∙ sym (row_kept test i t); list = j.list ∙ listing-kept limit most i room z }

    pub judging_turn : (l r : ℕ) (b : Bool) → l ≡ limit i → test i ≡ b → r ≡ cond b (joined sound i) sound
        → Judging test limit most r (set limits i l) (i + 1)
    judging_turn l r true e t q = record { row = q ∙ ap (λ x. joined x i) j.row ∙ sym (row_more test i t); list = limit_put l e }
    judging_turn l r false e t q = record { row = q ∙ j.row ∙ sym (row_kept test i t); list = limit_put l e }

row_alike : (f g : ℕ → Bool) (n : ℕ) → ((i : ℕ) → i < n → f i ≡ g i) → row_of f n ≡ row_of g n
unfolding row_of
row_alike f g zero h = refl
row_alike f g (suc n) h = rw (h n (omega arith), row_alike f g n (λ i k. h i (omega arith)))

pub row_of_judged : (test other : ℕ → Bool) (n : ℕ) → n ≤ 64 → row_of (λ i. test i && other i) n ≡ row_of (λ i. has i (row_of test n) && other i) n
row_of_judged test other n h =
    row_alike _ _ n (λ i k. let e : has i (row_of test n) ≡ test i = has-row test n i h ∙ rw (lt-ltb i n k) in rw e)
