-- The seats, kind by kind: the rows of a kind lent to `fill` and put back among all (`kind_lent`, `kind_filled`); each of a row has a limit
-- (`limited`, `limited_common`, `limited_left`); the rows that are still zero (`unfilled_starts`, `unfilled_empty`, `unfilled_next`); with the
-- last kind filled they are the seats of what was judged (`seats-filled`). For src/seating.rt; how one kind is filled: Filling.antt; what is
-- promised: specs/Filling.antt, specs/Standing.antt.
use Prim.Native.Nat.{ℕ, ◌+◌, ◌-◌, ◌*◌, ◌≤◌, ◌<◌, min}
use mathlib.Core.Bool.{and-false}
use mathlib.Core.List.{List, ◌++◌}
use mathlib.Core.Logic.{◌≢◌}
use mathlib.Core.Path.{◌≡◌, refl, sym, ap, ◌∙◌}
use native.Mathlib.Omega.{arith}
use borrow.Author.Tests.{le-ltb, le-leb}
use lib.Dec.{leb}
use lib.ListN.{length, get_or, set, replicate, take, drop, length-append, length-drop, get_or-append}
use lib.Seq.{length-take-le, get_or-append-add, get_or-take, get_or-drop, get_or-set_same, get_or-set_other, ext_get_or}
use Rattle.places.specs.Limits.{roots_most, bundle_most}
use Rattle.rows.specs.Rows.{has, left, common, below}
use Rattle.rows.proofs.Listing.{get_d_zeros}
use Rattle.rows.proofs.Places.{has_left, has-common}
use Rattle.rows.proofs.Upper.{has-below}
use Rattle.policy.specs.Filling.{Limited, Filled, Empty, FilledFrom}
use Rattle.policy.specs.Standing.{Seated, seats_most, places_between}
use Rattle.policy.specs.declared.judged.Judged.{Judged}
use Rattle.policy.proofs.Filling.{min_up}

-- ---- one kind

-- lent where they begin, and put back
module _ (from : ℕ) (rows : List ℕ) (empty : Empty from rows) where
  pub kind_lent : take bundle_most (drop from rows) ≡ replicate bundle_most 0
  kind_lent =
      let room = empty.room in
      let long : length (drop from rows) ≡ length rows - from = length-drop from rows in
      let size : length (take bundle_most (drop from rows)) ≡ bundle_most = length-take-le bundle_most (drop from rows) (omega arith) in
      ext_get_or 0 _ _ size
      (λ i h. get_or-take bundle_most (drop from rows) i 0 (omega arith) ∙ get_or-drop from rows i 0 ∙ empty.zeros i (omega arith) ∙ sym (get_d_zeros bundle_most i))

  module _ (last sound : ℕ) (limits new : List ℕ) (filled : Filled last sound limits new) where
    abbrev rest : List ℕ
    rest = drop bundle_most (drop from rows)

    before : length (take from rows) ≡ from
    before = let room = empty.room in length-take-le from rows (omega arith)

    behind : (n : ℕ) → get_or (take from rows ++ (new ++ rest)) (from + n) 0 ≡ get_or (new ++ rest) n 0
    behind n = ap (λ (k : ℕ). get_or (take from rows ++ (new ++ rest)) (k + n) 0) (sym before) ∙ get_or-append-add (take from rows) (new ++ rest) n 0

    pub kind_filled : FilledFrom from last sound limits rows (take from rows ++ (new ++ rest))
    kind_filled =
        record {
          size =
              let room = empty.room in
              let all = length-append (take from rows) (new ++ rest) in
              let part = length-append new rest in
              let two = length-drop bundle_most (drop from rows) in
              let one = length-drop from rows in
              omega (arith, all, part, two, one, before, filled.size);
          may = λ n i h. ap (has i) (behind n ∙ get_or-append new rest 0 n (omega (arith, filled.size))) ∙ filled.may n i h;
          lower = λ k h. get_or-append (take from rows) (new ++ rest) 0 k (omega (arith, before)) ∙ get_or-take from rows k 0 h;
          upper = λ k h.
              let m : ℕ = k - from - bundle_most in
              let e : k ≡ from + (bundle_most + m) = omega arith in
              rw e (behind (bundle_most + m) ∙ ap (λ (j : ℕ). get_or (new ++ rest) (j + m) 0) (sym filled.size) ∙ get_or-append-add new rest m 0
              ∙ get_or-drop bundle_most (drop from rows) m 0 ∙ get_or-drop from rows (bundle_most + m) 0);
        }

-- ---- all kinds

-- those of a row below n have a limit where there are n
pub limited : (sound n : ℕ) (limits : List ℕ) → length limits ≡ n → n ≤ 64 → Limited (common sound (below n)) limits
limited sound n limits e h =
    record {
      few = omega arith;
      inside = λ i k. has-common i sound (below n) ∙ rw (has-below i n h, le-ltb i n (omega arith), and-false);
    }

-- of a row of which each has a limit, those in another row and those that are not
module _ (sound other : ℕ) (limits : List ℕ) (l : Limited sound limits) where
  pub limited_common : Limited (common sound other) limits
  limited_common = record { few = l.few; inside = λ i h. has-common i sound other ∙ rw (l.inside i h) }

  pub limited_left : Limited (left sound other) limits
  limited_left = record { few = l.few; inside = λ i h. has_left i sound other ∙ rw (l.inside i h) }

-- the rows from k on are zero
pub record Unfilled (k : ℕ) (rows : List ℕ) : Type 0 where
  pub size : length rows ≡ 3 * seats_most
  pub zeros : (n : ℕ) → k ≤ n → get_or rows n 0 ≡ 0

pub unfilled_starts : Unfilled 0 (replicate (3 * seats_most) 0)
unfilled_starts = record { size = refl; zeros = λ n h. get_d_zeros (3 * seats_most) n }

module _ (k : ℕ) (rows : List ℕ) (u : Unfilled k rows) (from : ℕ) where
  pub unfilled_empty : k ≤ from → from + bundle_most ≤ 3 * seats_most → Empty from rows
  unfilled_empty h room = record { room = omega (arith, u.size); zeros = λ n l. u.zeros (from + n) (omega arith) }

  pub unfilled_next : k ≤ from → (last sound : ℕ) (limits new : List ℕ) → FilledFrom from last sound limits rows new → Unfilled (from + bundle_most) new
  unfilled_next h last sound limits new f = record { size = f.size ∙ u.size; zeros = λ n l. f.upper n l ∙ u.zeros n (omega arith) }

-- up to the lesser of a number and the last row is up to that number, for a row that there is
up_to : (after n : ℕ) → n < bundle_most → leb n (min after (bundle_most - 1)) ≡ leb n after
up_to after n h = min_up n after (bundle_most - 1) ∙ rw (le-leb n (bundle_most - 1) (omega arith))

-- filled from the first kind to the last, and the leaves put before those that count
module _ (j : Judged) (after : ℕ) (last : ℕ) (is : last ≡ min after (bundle_most - 1)) (start one two three : List ℕ) (u : Unfilled 0 start) where
  abbrev leaf : ℕ
  leaf = seats_most + 1

  abbrev seats : List ℕ
  seats = set three leaf j.leaves

  pub seats-filled : FilledFrom 2 last (common j.above.sound (below roots_most)) j.above.limits start one
      → FilledFrom (seats_most + 2) last (common (places_between j) j.counted) j.between.limits one two
      → FilledFrom (2 * seats_most + 2) last (left (places_between j) j.counted) j.between.limits two three → Seated j after seats
  seats-filled p q r =
      record {
        none = elsewhere seats_most (λ e. omega (arith, e)) ∙ r.lower seats_most (omega arith) ∙ q.lower seats_most (omega arith) ∙ p.upper seats_most (omega arith) ∙ u.zeros seats_most (omega arith);
        leaves = get_or-set_same three leaf j.leaves 0 (omega (arith, r.size, q.size, p.size, u.size));
        bare = λ k h. record {
          roots = elsewhere k (λ e. omega (arith, e)) ∙ r.lower k (omega arith) ∙ q.lower k (omega arith) ∙ p.lower k (omega arith) ∙ u.zeros k (omega arith);
          others = elsewhere (2 * seats_most + k) (λ e. omega (arith, e)) ∙ r.lower (2 * seats_most + k) (omega arith) ∙ q.upper (2 * seats_most + k) (omega arith)
              ∙ p.upper (2 * seats_most + k) (omega arith) ∙ u.zeros (2 * seats_most + k) (omega arith);
        };
        places = λ n i h.
            let e : seats_most + (n + 2) ≡ seats_most + 2 + n = omega arith in
            ap (has i) (elsewhere (seats_most + (n + 2)) (λ e. omega (arith, e)) ∙ r.lower (seats_most + (n + 2)) (omega arith) ∙ ap (λ (k : ℕ). get_or two k 0) e)
            ∙ q.may n i h ∙ rw (is, up_to after n h);
        others = λ n i h.
            let e : 2 * seats_most + (n + 2) ≡ 2 * seats_most + 2 + n = omega arith in
            ap (has i) (elsewhere (2 * seats_most + (n + 2)) (λ e. omega (arith, e)) ∙ ap (λ (k : ℕ). get_or three k 0) e) ∙ r.may n i h ∙ rw (is, up_to after n h);
        roots = λ n i h.
            let e : n + 2 ≡ 2 + n = omega arith in
            ap (has i) (elsewhere (n + 2) (λ e. omega (arith, e)) ∙ r.lower (n + 2) (omega arith) ∙ q.lower (n + 2) (omega arith) ∙ ap (λ (k : ℕ). get_or one k 0) e)
            ∙ p.may n i h ∙ rw (is, up_to after n h);
      }
    where
      -- the other rows are as they were
      elsewhere : (k : ℕ) → k ≢ leaf → get_or seats k 0 ≡ get_or three k 0
      elsewhere k e = get_or-set_other three leaf k j.leaves 0 e
