-- A count by its byte and its range: one that is cut short (`count_cut`), one that is right (`count-got`), and what a count that was read
-- tells (`count_read`, `byte_few`). The count itself: `count_p` of specs/Fields.antt.
use Prim.Native.Nat.{ℕ, ◌+◌, ◌<◌, ◌≤◌}
use mathlib.Core.Path.{◌≡◌, refl}
use mathlib.Core.Bool.{Bool, true, false, cond, ◌&&◌}
use mathlib.Core.List.{List}
use native.Mathlib.Omega.{arith}
use lib.ListN.{length, get_or}
use lib.Dec.{ltb, leb}
use borrow.Author.Tests.{ltb-true, leb-true, lt-ltb, le-ltb, le-leb}
use Rattle.fields.specs.Fields.{got, stop, count_p, byte_p}

module _ (least most : ℕ) (s : List ℕ) (at : ℕ) where
  pub count_cut : length s ≤ at → count_p least most s at ≡ stop 6
  unfolding count_p
  count_cut h = rw (le-ltb at (length s) h)

  pub count-got : at < length s → least ≤ get_or s at 0 → get_or s at 0 ≤ most → count_p least most s at ≡ got (get_or s at 0) (at + 1)
  unfolding count_p
  count-got h l m = rw (lt-ltb at (length s) h, le-leb least (get_or s at 0) l, le-leb (get_or s at 0) most m)

-- a count n was read, and e is the place past it
pub record CountRead (least most : ℕ) (s : List ℕ) (at n e : ℕ) : Type 0 where
  pub there : at < length s
  pub is : n ≡ get_or s at 0
  pub enough : least ≤ n
  pub few : n ≤ most
  pub past : e ≡ at + 1

module _ (least most : ℕ) (s : List ℕ) (at n e : ℕ) where
  by_tests : (there low high : Bool) → ltb at (length s) ≡ there → leb least (get_or s at 0) ≡ low → leb (get_or s at 0) most ≡ high
      → cond there (cond (low && high) (got (get_or s at 0) (at + 1)) (stop 7)) (stop 6) ≡ got n e → CountRead least most s at n e
  by_tests true true true t l m h =
      let is : n ≡ get_or s at 0 = cc in
      let past : e ≡ at + 1 = cc in
      record {
        there = ltb-true _ _ t;
        is = is;
        enough = omega (arith, leb-true);
        few = omega (arith, leb-true);
        past = past;
      }
  by_tests true true false t l m h = let z : ◌≡◌ {A = ℕ} 0 1 = cc in absurd (omega arith)
  by_tests true false high t l m h = let z : ◌≡◌ {A = ℕ} 0 1 = cc in absurd (omega arith)
  by_tests false low high t l m h = let z : ◌≡◌ {A = ℕ} 0 1 = cc in absurd (omega arith)

  pub count_read : count_p least most s at ≡ got n e → CountRead least most s at n e
  unfolding count_p
  count_read h = by_tests _ _ _ refl refl refl h

pub byte_few : (s : List ℕ) (at n e : ℕ) → byte_p s at ≡ got n e → n ≤ 255
unfolding byte_p
byte_few s at n e h = (count_read 0 255 s at n e h).few
