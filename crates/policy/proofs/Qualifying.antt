-- What the seats are good for. The roots over a path are those by which it qualifies, as its certificates were judged (`roots_qualify`), so
-- that a search that begins a standing and adds places to it applies the policy. The contract of the seats names one array only
-- (`seats_pinned`). What a path that was judged so says of the card's content is in Qualified.antt; one place more, in Adding.antt.
use Prim.Native.Nat.{ℕ, zero, suc, ◌+◌, ◌-◌, ◌*◌, ◌^◌, ◌≤◌, ◌<◌}
use mathlib.Core.Bool.{Bool, true, false, cond, not, ◌&&◌, and_comm, and_assoc}
use mathlib.Core.List.{List, [], ◌∷◌}
use mathlib.Core.Path.{◌≡◌, refl, sym, ap, ◌∙◌}
use native.Mathlib.Omega.{arith}
use borrow.Author.Tests.{ltb-true, ltb-false, lt-ltb, le-leb}
use lib.Dec.{leb, ltb}
use lib.ListN.{length, get_or}
use lib.Seq.{ext_get_or}
use Rattle.places.specs.Limits.{roots_most, bundle_most}
use Rattle.rows.specs.Rows.{has, common, below}
use Rattle.rows.proofs.Places.{has-none, has-common, has_left}
use Rattle.rows.proofs.Same.{row_same}
use Rattle.rows.proofs.Upper.{has-below}
use Rattle.order.specs.Paths.{last}
use Rattle.policy.specs.Judging.{stands, adds, counting, all_stand, qualifies_by}
use Rattle.policy.specs.Standing.{Seated, seats_most, counted_at, others_at, roots_at, places_between, fresh-standing, begun, over, added, added_all, standing, roots_over}
use Rattle.policy.specs.declared.judged.Judged.{Judged}
use Rattle.policy.specs.declared.standing.Standing.{Standing}
use Rattle.policy.proofs.Adding.{added-counts, added_keeps, added_stops, over-there}

-- ---- how many count

-- no more than there are
pub counting-few : (counted n : ℕ) (l : List ℕ) → counting counted n l ≤ n + length l
unfolding counting
counting-few counted n [] = omega arith
counting-few counted n (i ∷ l) = let q = counting-few counted (n + adds counted i) l in let a = adds-few (has i counted) in omega (arith, q, a)
  where
    adds-few : (b : Bool) → cond b 1 0 ≤ 1
    adds-few true = omega arith
    adds-few false = omega arith

-- ---- the roots over a path

-- those of a row below m that may stand there
among : (sound m : ℕ) (limits : List ℕ) → m ≤ 64 → (n i : ℕ) → stands (common sound (below m)) limits n i ≡ ltb i m && stands sound limits n i
unfolding stands
among sound m limits h n i = rw (has-common, has-below i m h, and_comm (has i sound) (ltb i m)) (and_assoc (ltb i m) (has i sound) (leb n (get_or limits i 0)))

-- a row where b, and else none
pub has_where : (b : Bool) (r row : ℕ) → has r (cond b row 0) ≡ b && has r row
has_where true r row = refl
has_where false r row = has-none r

module _ (j : Judged) (after : ℕ) (seats : List ℕ) (seated : Seated j after seats) (few : after < bundle_most) where
  -- place i may stand above n certificates that count
  abbrev may : ℕ → ℕ → Bool
  may n i = ltb i bundle_most && stands j.between.sound j.between.limits n i

  -- of the rows of the places that may, the one has those that count, and the other the rest
  split : (row n i : ℕ) (b : Bool) → has i row ≡ has i (places_between j) && b → stands row j.between.limits n i ≡ may n i && b
  unfolding stands
  split row n i b e =
      rw e (moved (has i (places_between j)) b (leb n (get_or j.between.limits i 0)))
      ∙ ap (λ (a : Bool). a && b) (among j.between.sound bundle_most j.between.limits (omega arith) n i)
    where
      moved : (a b c : Bool) → a && b && c ≡ a && c && b
      moved true true true = refl
      moved true true false = refl
      moved true false true = refl
      moved true false false = refl
      moved false b c = refl

  counted_are : (n i : ℕ) → n ≤ after → has i (counted_at seats (n + 2)) ≡ may n i && has i j.counted
  counted_are n i h = seated.places n i (omega arith) ∙ rw (le-leb n after h) (split _ n i (has i j.counted) (has-common i (places_between j) j.counted))

  others_are : (n i : ℕ) → n ≤ after → has i (others_at seats (n + 2)) ≡ may n i && not (has i j.counted)
  others_are n i h = seated.others n i (omega arith) ∙ rw (le-leb n after h) (split _ n i (not (has i j.counted)) (has_left i (places_between j) j.counted))

  roots_are : (n r : ℕ) → n ≤ after → has r (roots_at seats (n + 2)) ≡ ltb r roots_most && stands j.above.sound j.above.limits n r
  roots_are n r h = seated.roots n r (omega arith) ∙ rw (le-leb n after h) (among j.above.sound roots_most j.above.limits (omega arith) n r)

  -- where one may not stand, no path stands after it
  stopped : (l : List ℕ) → added_all seats fresh-standing l ≡ fresh-standing
  unfolding added_all
  stopped [] = refl
  stopped (i ∷ l) =
      ap (λ (s : Standing). added_all seats s l)
      (sym (added_stops seats fresh-standing i (omega arith) (ap (has i) seated.none ∙ has-none i) (ap (has i) (seated.bare 0 (omega arith)).others ∙ has-none i)))
      ∙ stopped l

  -- a path of which n count goes on by these places
  stands_after : (n : ℕ) (l : List ℕ) → n + length l ≤ after
      → added_all seats (record { seat = n + 2 }) l
      ≡ cond (all_stand j.between.sound j.between.limits j.counted n l) (record { seat = counting j.counted n l + 2 }) fresh-standing
  unfolding added_all all_stand counting
  stands_after n [] h = refl
  stands_after n (i ∷ l) h = by_place (λ m k. stands_after m l k) (may n i) refl (has i j.counted) refl
    where
      by_place : ((m : ℕ) → m + length l ≤ after
          → added_all seats (record { seat = m + 2 }) l
          ≡ cond (all_stand j.between.sound j.between.limits j.counted m l) (record { seat = counting j.counted m l + 2 }) fresh-standing)
          → (m : Bool) → may n i ≡ m → (c : Bool) → has i j.counted ≡ c
          → added_all seats (added seats (record { seat = n + 2 }) i) l
          ≡ cond (m && all_stand j.between.sound j.between.limits j.counted (n + cond c 1 0) l) (record { seat = counting j.counted (n + cond c 1 0) l + 2 }) fresh-standing
      by_place again false e c f =
          ap (λ (s : Standing). added_all seats s l)
          (sym (added_stops seats (record { seat = n + 2 }) i (omega arith) (counted_are n i (omega arith) ∙ rw e) (others_are n i (omega arith) ∙ rw e)))
          ∙ stopped l
      by_place again true e true f =
          let up : n + 2 + 1 ≡ n + 1 + 2 = omega arith in
          ap (λ (s : Standing). added_all seats s l) (sym (added-counts seats (record { seat = n + 2 }) i (omega arith) (counted_are n i (omega arith) ∙ rw (e, f))))
          ∙ rw up (again (n + 1) (omega arith))
      by_place again true e false f =
          let z : n + 0 ≡ n = omega arith in
          ap (λ (s : Standing). added_all seats s l)
          (sym (added_keeps seats (record { seat = n + 2 }) i (omega arith) (counted_are n i (omega arith) ∙ rw (e, f)) (others_are n i (omega arith) ∙ rw (e, f))))
          ∙ rw z (again n (omega arith))

  -- from before the leaf on
  path-stands : (p : ℕ) (l : List ℕ) → length l ≤ after
      → standing seats (p ∷ l)
      ≡ cond (has p j.leaves && all_stand j.between.sound j.between.limits j.counted 0 l) (record { seat = counting j.counted 0 l + 2 }) fresh-standing
  unfolding added_all
  path-stands p l h = by_leaf (has p j.leaves) refl
    where
      by_leaf : (b : Bool) → has p j.leaves ≡ b
          → added_all seats (added seats begun p) l
          ≡ cond (b && all_stand j.between.sound j.between.limits j.counted 0 l) (record { seat = counting j.counted 0 l + 2 }) fresh-standing
      by_leaf true e =
          ap (λ (s : Standing). added_all seats s l) (sym (added-counts seats begun p (omega arith) (ap (has p) seated.leaves ∙ e)))
          ∙ stands_after 0 l (omega arith)
      by_leaf false e =
          ap (λ (s : Standing). added_all seats s l)
          (sym (added_stops seats begun p (omega arith) (ap (has p) seated.leaves ∙ e) (ap (has p) (seated.bare 1 (omega arith)).others ∙ has-none p)))
          ∙ stopped l

  over-has : (b : Bool) (n r : ℕ) → n ≤ after
      → has r (over seats (cond b (record { seat = n + 2 }) fresh-standing)) ≡ b && (ltb r roots_most && stands j.above.sound j.above.limits n r)
  over-has true n r h = ap (has r) (sym (over-there seats (record { seat = n + 2 }) (omega arith))) ∙ roots_are n r h
  over-has false n r h = ap (has r) (sym (over-there seats fresh-standing (omega arith)) ∙ (seated.bare 0 (omega arith)).roots) ∙ has-none r

  pub roots_qualify : (p : ℕ) (l : List ℕ) → last p l < bundle_most → length l ≤ after
      → (r : ℕ) → has r (roots_over j.issuing.roots seats (p ∷ l)) ≡ ltb r roots_most && qualifies_by j (p ∷ l) r
  unfolding roots_over qualifies_by
  roots_qualify p l place short r =
      let most = counting-few j.counted 0 l in
      has-common r (over seats (standing seats (p ∷ l))) (get_or j.issuing.roots (last p l) 0)
      ∙ rw (path-stands p l short, over-has (has p j.leaves && between) (counting j.counted 0 l) r (omega (arith, most)), lt-ltb (last p l) bundle_most place)
      (sorted (has p j.leaves && between) (ltb r roots_most) (stands j.above.sound j.above.limits (counting j.counted 0 l) r)
      (has r (get_or j.issuing.roots (last p l) 0)))
    where
      between : Bool
      between = all_stand j.between.sound j.between.limits j.counted 0 l

      sorted : (a t s i : Bool) → a && (t && s) && i ≡ t && (a && (i && s))
      sorted true true s i = and_comm s i
      sorted true false s i = refl
      sorted false true s i = refl
      sorted false false s i = refl

-- ---- one array only

pub seats_pinned : (j : Judged) (after : ℕ) (a b : List ℕ) → length a ≡ 3 * seats_most → length b ≡ 3 * seats_most
    → ((n : ℕ) → get_or a n 0 < 2 ^ 64) → ((n : ℕ) → get_or b n 0 < 2 ^ 64) → Seated j after a → Seated j after b → a ≡ b
seats_pinned j after a b la lb fa fb sa sb = ext_get_or 0 a b (la ∙ sym lb) (λ n h. go n (omega arith) (ltb n seats_most) refl (ltb n (2 * seats_most)) refl)
  where
    -- the rows of a kind are the same if the first two are and the others have the same places
    kind : (at : ℕ → ℕ) → ((k : ℕ) → k < 2 → get_or a (at k) 0 ≡ get_or b (at k) 0)
        → ((n i : ℕ) → n < bundle_most → has i (get_or a (at (n + 2)) 0) ≡ has i (get_or b (at (n + 2)) 0))
        → (m : ℕ) → m < seats_most → get_or a (at m) 0 ≡ get_or b (at m) 0
    kind at first more zero h = first 0 (omega arith)
    kind at first more (suc zero) h = first 1 (omega arith)
    kind at first more (suc (suc n)) h =
        let e : suc (suc n) ≡ n + 2 = omega arith in
        rw e (row_same (get_or a (at (n + 2)) 0) (get_or b (at (n + 2)) 0) (fa (at (n + 2))) (fb (at (n + 2))) (λ i. more n i (omega arith)))

    leaf : (k : ℕ) → k < 2 → counted_at a k ≡ counted_at b k
    leaf zero h = sa.none ∙ sym sb.none
    leaf (suc zero) h = sa.leaves ∙ sym sb.leaves
    leaf (suc (suc k)) h = absurd (omega arith)

    go : (n : ℕ) → n < 3 * seats_most → (t : Bool) → ltb n seats_most ≡ t → (u : Bool) → ltb n (2 * seats_most) ≡ u → get_or a n 0 ≡ get_or b n 0
    go n h true e u f = kind (λ m. m) (λ k l. (sa.bare k l).roots ∙ sym (sb.bare k l).roots) (λ m i k. sa.roots m i k ∙ sym (sb.roots m i k)) n (ltb-true n seats_most e)
    go n h false e true f =
        let k = ltb-false n seats_most e in
        let l = ltb-true n (2 * seats_most) f in
        let q : seats_most + (n - seats_most) ≡ n = omega arith in
        rw q at (kind (λ m. seats_most + m) leaf (λ m i k. sa.places m i k ∙ sym (sb.places m i k)) (n - seats_most) (omega arith))
    go n h false e false f =
        let l = ltb-false n (2 * seats_most) f in
        let q : 2 * seats_most + (n - 2 * seats_most) ≡ n = omega arith in
        rw q at (kind (λ m. 2 * seats_most + m) (λ k l. (sa.bare k l).others ∙ sym (sb.bare k l).others) (λ m i k. sa.others m i k ∙ sym (sb.others m i k)) (n - 2 * seats_most) (omega arith))
