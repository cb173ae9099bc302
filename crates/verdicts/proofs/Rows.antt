-- What verdicts that were read say: they are as many as so many roots and so large a bundle ask (`rows_read`), and each is the byte where
-- it stands (`verdict_byte`). For card/proofs/Sections.antt and card/proofs/Signed.antt; where they stand: specs/Grid.antt.
use Prim.Native.Nat.{ℕ, zero, suc, ◌+◌, ◌*◌, ◌<◌}
use mathlib.Core.Path.{◌≡◌, refl, sym, ap, ◌∙◌}
use mathlib.Core.List.{List, ◌∷◌}
use native.Mathlib.Omega.{arith}
use native.Mathlib.Nat.{add-zero}
use lib.Dec.{eqb, leb}
use lib.ListN.{length, get_or}
use borrow.Author.Tests.{eqb-true}
use Rattle.fields.specs.Fields.{Parsed, got, big_p, many, byte_p}
use Rattle.fields.proofs.After.{after-got, judged_got, got-is}
use Rattle.fields.proofs.Counts.{count_read}
use Rattle.fields.proofs.Many.{many-length}
use Rattle.verdicts.specs.Verdicts.{verdict_p}
use Rattle.verdicts.specs.Grid.{grid_p}
use Rattle.verdicts.specs.declared.Verdicts.{Verdicts}

-- ---- as many as are asked

-- as many verdicts as so many roots and so large a bundle ask were read, and e is the place past them
pub record RowsRead (roots bundle : ℕ) (s : List ℕ) (v : Verdicts) (e : ℕ) : Type 0 where
  pub list : List ℕ
  pub roots_are : v.roots ≡ roots
  pub bundle_are : v.bundle ≡ bundle
  pub are : many verdict_p ((v.roots + v.bundle) * v.bundle) s v.first ≡ got list e
  pub as_many : length list ≡ (v.roots + v.bundle) * v.bundle

module _ (roots bundle : ℕ) (s : List ℕ) (at : ℕ) (v : Verdicts) (e : ℕ) where
  pub rows_read : grid_p roots bundle s at ≡ got v e → RowsRead roots bundle s v e
  unfolding grid_p
  rows_read h =
      let count = after-got (big_p 2 s at) _ h in
      let judged = judged_got (eqb count.value ((roots + bundle) * bundle)) _ 7 count.next in
      let read = after-got (many verdict_p count.value s count.place) _ judged.1 in
      let asked = eqb-true count.value ((roots + bundle) * bundle) judged.0 in
      got-is (RowsRead roots bundle s) read.next
      (record {
        list = read.value;
        roots_are = refl;
        bundle_are = refl;
        are = ap (λ n. many verdict_p n s count.place) (sym asked) ∙ read.first;
        as_many = many-length verdict_p s _ _ _ _ read.first ∙ asked;
      })

-- ---- by their bytes

-- the byte at a place was read
pub record OneByte (s : List ℕ) (at v e : ℕ) : Type 0 where
  pub is : v ≡ get_or s at 0
  pub past : e ≡ at + 1

byte_one : (s : List ℕ) (at v e : ℕ) → byte_p s at ≡ got v e → OneByte s at v e
unfolding byte_p
byte_one s at v e h = let r = count_read 0 255 s at v e h in record { is = r.is; past = r.past }

verdict_one : (s : List ℕ) (at v e : ℕ) → verdict_p s at ≡ got v e → OneByte s at v e
unfolding verdict_p
verdict_one s at v e h =
    let byte = after-got (byte_p s at) _ h in
    let judged = judged_got (leb byte.value 1) _ 8 byte.next in
    got-is (OneByte s at) judged.1 (byte_one s at byte.value byte.place byte.first)

-- things of one byte each, in a row: the i-th is the i-th byte
module _ (p : List ℕ → ℕ → Parsed ℕ) (s : List ℕ) (one : (at v e : ℕ) → p s at ≡ got v e → OneByte s at v e) where
  row_byte : (n at : ℕ) (l : List ℕ) (e : ℕ) → many p n s at ≡ got l e → (i : ℕ) → i < n → get_or l i 0 ≡ get_or s (at + i) 0
  unfolding many
  row_byte zero at l e h = λ i w. absurd (omega arith)
  row_byte (suc n) at l e h =
      let first = after-got (p s at) _ h in
      let rest = after-got (many p n s first.place) _ first.next in
      let byte = one at first.value first.place first.first in
      got-is (λ (l : List ℕ) _. (i : ℕ) → i < suc n → get_or l i 0 ≡ get_or s (at + i) 0) rest.next
      (by_place first.value first.place byte rest.value (row_byte n first.place rest.value rest.place rest.first))
    where
      by_place : (v m : ℕ) → OneByte s at v m → (l : List ℕ) → ((i : ℕ) → i < n → get_or l i 0 ≡ get_or s (m + i) 0)
          → (i : ℕ) → i < suc n → get_or (v ∷ l) i 0 ≡ get_or s (at + i) 0
      by_place v m b l k zero w = rw add-zero b.is
      by_place v m b l k (suc i) w =
          let next : m + i ≡ at + suc i = omega (arith, b.past) in
          rw (← next) (k i (omega arith))

module _ (roots bundle : ℕ) (s : List ℕ) (v : Verdicts) (e : ℕ) (t : RowsRead roots bundle s v e) where
  pub verdict_byte : (k : ℕ) → k < (v.roots + v.bundle) * v.bundle → get_or s (v.first + k) 0 ≡ get_or t.list k 0
  verdict_byte k h = sym (row_byte verdict_p s (verdict_one s) _ _ _ _ t.are k h)
