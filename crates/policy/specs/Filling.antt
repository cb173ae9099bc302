-- What filling the seats promises (src/seating.rt), of the places or of the roots alike: that each of a row has a limit, that each is in
-- the row of its limit, and the rows filled; then the rows of one kind among all. What the seats are: `Seated` of Standing.antt.
use Rattle.std.specs.Prelude.{ℕ, ◌+◌, ◌≤◌, ◌<◌, min, false, ◌&&◌, List, ◌≡◌, eqb, leb, length, get_or}
use Rattle.places.specs.Limits.{bundle_most}
use Rattle.rows.specs.Rows.{has}
use Rattle.policy.specs.Judging.{stands}

-- each of a row has a limit
pub record Limited (sound : ℕ) (limits : List ℕ) : Type 0 where
  pub few : length limits ≤ 64
  pub inside : (i : ℕ) → length limits ≤ i → has i sound ≡ false

-- each is in the row of its limit, or in the last row where its limit is past it
pub record Entered (last sound : ℕ) (limits rows : List ℕ) : Type 0 where
  pub size : length rows ≡ bundle_most
  pub put : (n i : ℕ) → n < bundle_most → has i (get_or rows n 0) ≡ has i sound && eqb (min (get_or limits i 0) last) n

-- row n, up to the last, has those that may stand above n certificates that count
pub record Filled (last sound : ℕ) (limits rows : List ℕ) : Type 0 where
  pub size : length rows ≡ bundle_most
  pub may : (n i : ℕ) → n < bundle_most → has i (get_or rows n 0) ≡ leb n last && stands sound limits n i

-- ---- among the rows of all kinds

-- there are the rows of a kind from there on, and they are zero
pub record Empty (from : ℕ) (rows : List ℕ) : Type 0 where
  pub room : from + bundle_most ≤ length rows
  pub zeros : (n : ℕ) → n < bundle_most → get_or rows (from + n) 0 ≡ 0

-- the rows of a kind are filled, and the others are as they were
pub record FilledFrom (from last sound : ℕ) (limits before rows : List ℕ) : Type 0 where
  pub size : length rows ≡ length before
  pub may : (n i : ℕ) → n < bundle_most → has i (get_or rows (from + n) 0) ≡ leb n last && stands sound limits n i
  pub lower : (k : ℕ) → k < from → get_or rows k 0 ≡ get_or before k 0
  pub upper : (k : ℕ) → from + bundle_most ≤ k → get_or rows k 0 ≡ get_or before k 0
