-- Filling the seats: each is put in the row of its limit (`entering_starts`, `entering_turn`, `entering_ends`), then each row is handed on
-- to the one before it (`handing_starts`, `handing_turn`, `handing_ends`). For src/seating.rt; the rows of each kind among all: ByKind.antt;
-- what is promised: specs/Filling.antt; what the seats are good for: Qualifying.antt.
use Prim.Native.Nat.{ℕ, ◌-◌, ◌≤◌, ◌<◌, min}
use mathlib.Core.Bool.{Bool, true, false, cond, not, ◌&&◌, ◌||◌, and-true, and-false, and-not_self, or-false, false≢true}
use mathlib.Core.List.{List}
use mathlib.Core.Path.{◌≡◌, refl, sym, ap, ◌∙◌}
use native.Mathlib.Nat.{min-le_right}
use native.Mathlib.Omega.{arith}
use borrow.Author.Tests.{ltb-true, ltb-false, eqb-true, eqb-false, leb-true, leb-false, lt-ltb, le-leb, lt-leb, eq-eqb, ne_eqb}
use lib.Dec.{eqb, leb, ltb}
use lib.ListN.{length, get_or, set, replicate, length-set}
use lib.Seq.{get_or-set_same, get_or-set_other}
use Rattle.places.specs.Limits.{bundle_most}
use Rattle.rows.specs.Rows.{has, joined, left, either, lowest}
use Rattle.rows.proofs.Listing.{get_d_zeros}
use Rattle.rows.proofs.Places.{has-none, has-joined, has_left, has_either, has_dropped, lowest_least}
use Rattle.rows.proofs.Taking.{lowest-there}
use Rattle.policy.specs.Filling.{Limited, Entered, Filled}
use Rattle.policy.specs.Judging.{stands}
use Rattle.std.specs.Ordering.{ord_min, nat_cmp}
use Rattle.std.proofs.lemmas.Grind.{common_steps}
use Rattle.std.proofs.lemmas.Bool.Decides.{nat_tests}

-- the lesser of two numbers, as the library says it
pub lesser : (a b : ℕ) → ord_min nat_cmp a b ≡ min a b
lesser a b = grind (arith, common_steps, nat_tests)

-- ---- each in the row of its limit

-- those that are not among the rest are in their row
pub record Entering (last sound : ℕ) (limits : List ℕ) (rest : ℕ) (rows : List ℕ) : Type 0 where
  pub size : length rows ≡ bundle_most
  pub kept : (j : ℕ) → has j rest ≡ true → has j sound ≡ true
  pub put : (n j : ℕ) → n < bundle_most → has j (get_or rows n 0) ≡ has j sound && not (has j rest) && eqb (min (get_or limits j 0) last) n

module _ (last sound : ℕ) (limits : List ℕ) where
  pub entering_starts : (rows : List ℕ) → rows ≡ replicate bundle_most 0 → Entering last sound limits sound rows
  entering_starts rows e =
      rw e
      (record {
        size = refl;
        kept = λ j h. h;
        put = λ n j h. ap (has j) (get_d_zeros bundle_most n) ∙ has-none j ∙ rw and-not_self;
      })

  module _ (rest : ℕ) (rows : List ℕ) (m : Entering last sound limits rest rows) where
    pub entering_ends : Limited sound limits → length limits ≤ lowest rest → Entered last sound limits rows
    entering_ends l h = record { size = m.size; put = λ n i k. m.put n i k ∙ rw (none i, and-true) }
      where
        -- nothing is left: it would be among the places that have a limit, and below the lowest
        none : (j : ℕ) → has j rest ≡ false
        none j = go (has j rest) refl (ltb j (length limits)) refl
          where
            go : (b : Bool) → has j rest ≡ b → (t : Bool) → ltb j (length limits) ≡ t → has j rest ≡ false
            go false e t f = e
            go true e true f = let k = ltb-true j (length limits) f in (lowest_least rest).below j (omega arith) (omega arith)
            go true e false f = absurd (false≢true (sym (l.inside j (ltb-false j (length limits) f)) ∙ m.kept j e))

    -- the lowest of the rest has a limit
    pub entering_inside : Limited sound limits → (i : ℕ) → i ≡ lowest rest → i < 64 → i < length limits
    entering_inside l i first place =
        let h : ¬ (length limits ≤ i) = λ h. false≢true (sym (l.inside i h) ∙ m.kept i (lowest-there rest i first place)) in
        omega arith

    module _ (i : ℕ) (first : i ≡ lowest rest) (place : i < 64) where
      abbrev row : ℕ
      row = min (get_or limits i 0) last

      -- those that are in their row, and i where it is to be
      entered_more : (n j : ℕ) → has j sound && not (has j rest) && eqb (min (get_or limits j 0) last) n || (eqb j i && eqb row n)
          ≡ has j sound && not (has j (left rest (joined 0 i))) && eqb (min (get_or limits j 0) last) n
      entered_more n j = rw (has_dropped rest i place j) (go (eqb j i) refl)
        where
          go : (q : Bool) → eqb j i ≡ q → has j sound && not (has j rest) && eqb (min (get_or limits j 0) last) n || (q && eqb row n)
              ≡ has j sound && not (has j rest && not q) && eqb (min (get_or limits j 0) last) n
          go true e = let k : j ≡ i = eqb-true j i e in let left_there = lowest-there rest i first place in rw (k, left_there, m.kept i left_there)
          go false e = rw (and-true, or-false)

      still_kept : (j : ℕ) → has j (left rest (joined 0 i)) ≡ true → has j sound ≡ true
      still_kept j h = m.kept j (go (has j rest) (has j (joined 0 i)) (sym (has_left j rest (joined 0 i)) ∙ h))
        where
          go : (a b : Bool) → a && not b ≡ true → a ≡ true
          go true b e = refl
          go false b e = e

      pub entering_turn : row < bundle_most → Entering last sound limits (left rest (joined 0 i)) (set rows row (joined (get_or rows row 0) i))
      entering_turn h =
          record {
            size = simp length-set m.size;
            kept = still_kept;
            put = λ n j k. there n j (eqb row n) refl ∙ ap (λ (b : Bool). b || (eqb j i && eqb row n)) (m.put n j k) ∙ entered_more n j;
          }
        where
          there : (n j : ℕ) (b : Bool) → eqb row n ≡ b
              → has j (get_or (set rows row (joined (get_or rows row 0) i)) n 0) ≡ has j (get_or rows n 0) || (eqb j i && b)
          there n j true e =
              let k : n ≡ row = sym (eqb-true row n e) in
              rw (k, get_or-set_same rows row (joined (get_or rows row 0) i) 0 (omega (arith, m.size)), has-joined, lt-ltb i 64 place, and-true)
          there n j false e =
              rw (get_or-set_other rows row n (joined (get_or rows row 0) i) 0 (λ q. eqb-false row n e (sym q)), and-false, or-false)

-- ---- each in the rows before it too

-- up to the lesser of two is up to both
pub min_up : (n a b : ℕ) → leb n (min a b) ≡ leb n b && leb n a
min_up n a b = go (leb n b) refl (leb n a) refl
  where
    go : (t : Bool) → leb n b ≡ t → (u : Bool) → leb n a ≡ u → leb n (min a b) ≡ t && u
    go true e true f = le-leb n (min a b) (omega (arith, leb-true n b e, leb-true n a f))
    go true e false f = lt-leb n (min a b) (omega (arith, leb-false n a f))
    go false e u f = lt-leb n (min a b) (omega (arith, leb-false n b e))

-- one whose row is m is in row n, where the rows from k on were handed what is past them
unfoldable pub in_row : ℕ → ℕ → ℕ → Bool
in_row k n m = cond (leb k n) (leb n m) (eqb m n)

in_last : (k n m : ℕ) → m ≤ k → eqb m n ≡ in_row k n m
unfolding in_row
in_last k n m h = go (leb k n) refl
  where
    go : (t : Bool) → leb k n ≡ t → eqb m n ≡ cond t (leb n m) (eqb m n)
    go false e = refl
    go true e = let l = leb-true k n e in same (leb n m) refl l
      where
        same : (t : Bool) → leb n m ≡ t → k ≤ n → eqb m n ≡ t
        same true f l = let q = leb-true n m f in eq-eqb m n (omega arith)
        same false f l = let q = leb-false n m f in ne_eqb m n (λ e. omega arith)

in_next : (k m : ℕ) → 0 < k → in_row k (k - 1) m || in_row k k m ≡ in_row (k - 1) (k - 1) m
unfolding in_row
in_next k m h = rw (lt-leb k (k - 1) (omega arith), le-leb k k (omega arith), le-leb (k - 1) (k - 1) (omega arith)) (go (eqb m (k - 1)) refl (leb k m) refl)
  where
    go : (t : Bool) → eqb m (k - 1) ≡ t → (u : Bool) → leb k m ≡ u → t || u ≡ leb (k - 1) m
    go true e u f = let q = eqb-true m (k - 1) e in sym (le-leb (k - 1) m (omega arith))
    go false e true f = let q = leb-true k m f in sym (le-leb (k - 1) m (omega arith))
    go false e false f =
        let q = leb-false k m f in
        let l : ¬ (m ≡ k - 1) = eqb-false m (k - 1) e in
        sym (lt-leb (k - 1) m (omega arith))

in_other : (k n m : ℕ) → 0 < k → ¬ (n ≡ k - 1) → in_row k n m ≡ in_row (k - 1) n m
unfolding in_row
in_other k n m h o = go (leb k n) refl
  where
    go : (t : Bool) → leb k n ≡ t → cond t (leb n m) (eqb m n) ≡ cond (leb (k - 1) n) (leb n m) (eqb m n)
    go true e = let q = leb-true k n e in rw (le-leb (k - 1) n (omega arith))
    go false e = let q = leb-false k n e in rw (lt-leb (k - 1) n (omega arith))

-- the rows from k on were handed what is past them, those before k not yet
pub record Handing (last : ℕ) (before : List ℕ) (k : ℕ) (rows : List ℕ) : Type 0 where
  pub size : length rows ≡ bundle_most
  pub within : k < bundle_most
  pub handed : (sound : ℕ) (limits : List ℕ) → Entered last sound limits before
      → (n i : ℕ) → n < bundle_most → has i (get_or rows n 0) ≡ has i sound && in_row k n (min (get_or limits i 0) last)

module _ (last : ℕ) (before : List ℕ) where
  pub handing_starts : length before ≡ bundle_most → last < bundle_most → Handing last before last before
  handing_starts size h =
      record {
        size = size;
        within = h;
        handed = λ sound limits e n i k. e.put n i k ∙ ap (λ (b : Bool). has i sound && b) (in_last last n _ (min-le_right (get_or limits i 0) last));
      }

  module _ (k : ℕ) (rows : List ℕ) (m : Handing last before k rows) where
    pub handing_turn : 0 < k → Handing last before (k - 1) (set rows (k - 1) (either (get_or rows (k - 1) 0) (get_or rows k 0)))
    handing_turn h = record { size = simp length-set m.size; within = let w = m.within in omega arith; handed = handed }
      where
        handed : (sound : ℕ) (limits : List ℕ) → Entered last sound limits before → (n i : ℕ) → n < bundle_most
            → has i (get_or (set rows (k - 1) (either (get_or rows (k - 1) 0) (get_or rows k 0))) n 0) ≡ has i sound && in_row (k - 1) n (min (get_or limits i 0) last)
        handed sound limits e n i l = go (eqb n (k - 1)) refl
          where
            row : ℕ
            row = min (get_or limits i 0) last

            go : (b : Bool) → eqb n (k - 1) ≡ b → has i (get_or (set rows (k - 1) (either (get_or rows (k - 1) 0) (get_or rows k 0))) n 0) ≡ has i sound && in_row (k - 1) n row
            go true f =
                let w = m.within in
                rw (
                  eqb-true n (k - 1) f,
                  get_or-set_same rows (k - 1) (either (get_or rows (k - 1) 0) (get_or rows k 0)) 0 (omega (arith, m.size)),
                  has_either,
                  m.handed sound limits e (k - 1) i (omega arith),
                  m.handed sound limits e k i w,
                  ← in_next k row h,
                )
                (both (has i sound) (in_row k (k - 1) row) (in_row k k row))
              where
                both : (s a b : Bool) → s && a || (s && b) ≡ s && (a || b)
                both true a b = refl
                both false a b = refl
            go false f =
                let o : ¬ (n ≡ k - 1) = eqb-false n (k - 1) f in
                rw (get_or-set_other rows (k - 1) n (either (get_or rows (k - 1) 0) (get_or rows k 0)) 0 o, m.handed sound limits e n i l, in_other k n row h o)

    pub handing_ends : k ≤ 0 → (sound : ℕ) (limits : List ℕ) → Entered last sound limits before → Filled last sound limits rows
    unfolding stands in_row
    handing_ends h sound limits e =
        let z : k ≡ 0 = omega arith in
        record {
          size = m.size;
          may = λ n i l. m.handed sound limits e n i l
              ∙ rw (z, le-leb 0 n (omega arith), min_up n (get_or limits i 0) last) (turned (has i sound) (leb n last) (leb n (get_or limits i 0)));
        }
      where
        turned : (s a b : Bool) → s && (a && b) ≡ a && (s && b)
        turned true a b = refl
        turned false true b = refl
        turned false false b = refl
