-- Rows with their counts before them: what a row that was read holds (`row_read`, and by the place past it `row_past`), one that can't be
-- read (`row_stops`), and another row walked beside what stands in it (`standing_walked`). For `matched_walk` and subtree; a row up to the
-- first thing that can't be read: Standing.antt.
use Prim.Native.Nat.{ℕ}
use mathlib.Core.Path.{◌≡◌, refl, ◌∙◌}
use mathlib.Core.Bool.{Bool}
use mathlib.Core.List.{List}
use native.Mathlib.Omega.{arith}
use lib.ListN.{length}
use Rattle.std.specs.Prelude.{Option}
use Rattle.fields.specs.Fields.{Parsed, got, stop, count_p, many, counted_p}
use Rattle.fields.specs.Answers.{passing}
use Rattle.fields.proofs.Ends.{passing_stops}
use Rattle.fields.proofs.Many.{many-length}
use Rattle.same.specs.Rows.{Fine, standing}
use Rattle.same.specs.Walks.{walk}
use Rattle.same.proofs.Standing.{standing-whole}

-- ---- what the place past a thing tells of the thing

passing_fine : {A : Type 0} (x : Parsed A) (e : ℕ) → passing x ≡ got tt e → Fine x
passing_fine (got a f) e h = tt
passing_fine (stop r) e h = let z : ◌≡◌ {A = ℕ} 0 1 = cc in omega arith

-- ---- a row that was read

module _ {A : Type 0} (least most : ℕ) (p : List ℕ → ℕ → Parsed A) (s : List ℕ) (at : ℕ) where
  -- n things from f on
  pub record Row (n f : ℕ) : Type 0 where
    pub things : List A
    pub end : ℕ
    pub whole : counted_p least most p s at ≡ got things end
    pub read : many p n s f ≡ got things end
    pub stand : standing p n s f ≡ things
    pub count : length things ≡ n

  row_of : (n f : ℕ) → counted_p least most p s at ≡ many p n s f → (x : Parsed (List A)) → many p n s f ≡ x → Fine x → Row n f
  row_of n f c (got l e) m h =
      record {
        things = l;
        end = e;
        whole = c ∙ m;
        read = m;
        stand = standing-whole p s n f l e m;
        count = many-length p s n f l e m;
      }
  row_of n f c (stop r) m h = absurd h

  pub row_read : (n f : ℕ) → count_p least most s at ≡ got n f → Fine (counted_p least most p s at) → Row n f
  unfolding counted_p
  row_read n f c h = row_of n f (rw c) (many p n s f) refl (rw c at h)

  -- ---- by the place past it

  from_count : (n f : ℕ) → count_p least most s at ≡ got n f → counted_p least most p s at ≡ many p n s f
  unfolding counted_p
  from_count n f h = rw h

  pub row_past : (n f e : ℕ) → count_p least most s at ≡ got n f → passing (many p n s f) ≡ got tt e → Row n f
  row_past n f e c h = row_of n f (from_count n f c) (many p n s f) refl (passing_fine (many p n s f) e h)

  pub row_stops : (n f r : ℕ) → count_p least most s at ≡ got n f → passing (many p n s f) ≡ stop r → counted_p least most p s at ≡ stop r
  row_stops n f r c h = from_count n f c ∙ passing_stops (many p n s f) r h

-- ---- two rows

-- the first walked from the place past its count on, beside what stands in the second
pub standing_walked : {A : Type 0} {least most : ℕ} {p : List ℕ → ℕ → Parsed A} {t : List ℕ} {bt m g : ℕ} → Row least most p t bt m g
    → (q : List A → List A → Bool) (r : Option (ℕ × ℕ)) (s : List ℕ) (at n f i : ℕ) → count_p least most s at ≡ got n f
    → passing (many p m t g) ≡ got tt i → r ≡ walk q (many p n s f) (got (standing p m t g) i)
    → r ≡ walk q (counted_p least most p s at) (counted_p least most p t bt)
standing_walked {least} {most} {p} y q r s at n f i c v w =
    let k : y.end ≡ i = cc y.read in
    w ∙ rw (y.whole, y.stand, k, from_count least most p s at n f c)
