-- A loop that reads so many of a thing into places that are at first all the same, for any thing and any number of places: its beginning
-- (`filling_starts`), a turn that fills a place (`filling_goes_on`), a turn that stops (`filling_stops`), and its end (`filling_ends`). For
-- the records of certificates; a loop that keeps nothing: Many.antt.
use Prim.Native.Nat.{ℕ, zero, suc, ◌+◌, ◌-◌, ◌<◌, ◌≤◌}
use mathlib.Core.Path.{◌≡◌, refl, sym, ap, ◌∙◌}
use mathlib.Core.List.{List, [], ◌∷◌, ◌++◌, append-nil}
use native.Mathlib.Omega.{arith}
use native.Mathlib.Nat.{sub-zero}
use native.Mathlib.Numerals.{add-one}
use lib.ListN.{length, take, drop, set, replicate, length-set, length-replicate, take-append-drop}
use lib.Seq.{append_snoc, drop-drop, drop-set-lt, length-take-le, take-suc-set}
use Rattle.fields.specs.Fields.{Parsed, got, stop, after, many}

-- what was read before, in front of what is read
abbrev prepended : {A : Type 0} → List A → Parsed (List A) → Parsed (List A)
prepended l x = after x (λ m e. got (l ++ m) e)

prepended_none : {A : Type 0} (x : Parsed (List A)) → x ≡ prepended [] x
prepended_none (got m e) = refl
prepended_none (stop r) = refl

prepended_one : {A : Type 0} (l : List A) (a : A) (x : Parsed (List A))
    → prepended l (after x (λ m e. got (a ∷ m) e)) ≡ prepended (l ++ (a ∷ [])) x
prepended_one l a (got m e) = rw append_snoc
prepended_one l a (stop r) = refl

drop-replicate : {A : Type 0} (n : ℕ) (d : A) → drop 1 (replicate n d) ≡ replicate (n - 1) d
drop-replicate zero d = refl
drop-replicate (suc n) d = let k : suc n - 1 ≡ n = omega arith in rw k

-- places that are all the same from i on are so from the next one on
same_past : {A : Type 0} (l : List A) (i m : ℕ) (d : A) → drop i l ≡ replicate m d → drop (i + 1) l ≡ replicate (m - 1) d
same_past l i m d h = sym (drop-drop 1 i l) ∙ ap (drop 1) h ∙ drop-replicate m d

module _ {A : Type 0} (p : List ℕ → ℕ → Parsed A) (s : List ℕ) where
  -- a row by its first thing, and a row of none
  row_first : (n at : ℕ) → 0 < n → many p n s at ≡ after (p s at) (λ a e. after (many p (n - 1) s e) (λ l f. got (a ∷ l) f))
  unfolding many
  row_first zero at h = absurd (omega arith)
  row_first (suc n) at h = let k : suc n - 1 ≡ n = omega arith in rw k

  row-none : (n at : ℕ) → n ≤ 0 → many p n s at ≡ got [] at
  unfolding many
  row-none zero at h = refl
  row-none (suc n) at h = absurd (omega arith)

  -- the first i places hold what was read, the next thing is at a place of the file, and the other places are as they were
  pub record Filling (most : ℕ) (d : A) (first n : ℕ) (places : List A) (at i : ℕ) : Type 0 where
    pub whole : many p n s first ≡ prepended (take i places) (many p (n - i) s at)
    pub kept : drop i places ≡ replicate (most - i) d
    pub long : length places ≡ most
    pub within : i ≤ n
    pub room : n ≤ most

  -- all are read: they stand in front of the places that are as they were
  pub record Filled (most : ℕ) (d : A) (first n : ℕ) (places : List A) (at : ℕ) : Type 0 where
    pub front : List A
    pub read : many p n s first ≡ got front at
    pub full : front ++ replicate (most - length front) d ≡ places

  module _ (most : ℕ) (d : A) (first n : ℕ) where
    pub filling_starts : n ≤ most → Filling most d first n (replicate most d) first 0
    filling_starts h =
        record {
          whole = prepended_none (many p n s first) ∙ rw sub-zero;
          kept = rw sub-zero;
          long = length-replicate most d;
          within = omega arith;
          room = h;
        }

    module _ (places : List A) (at i : ℕ) (f : Filling most d first n places at i) where
      -- what is read when it is the turn of the thing at this place
      next : i < n → many p n s first
          ≡ prepended (take i places) (after (p s at) (λ a e. after (many p (n - i - 1) s e) (λ l g. got (a ∷ l) g)))
      next h = f.whole ∙ ap (prepended (take i places)) (row_first (n - i) at (omega arith))

      pub filling_goes_on : (a : A) (e : ℕ) → i < n → p s at ≡ got a e → Filling most d first n (set places i a) e (i + 1)
      filling_goes_on a e h q =
          let fits : i < length places = omega arith in
          let less : n - i - 1 ≡ n - (i + 1) = omega arith in
          let fewer : most - i - 1 ≡ most - (i + 1) = omega arith in
          let filled : take (i + 1) (set places i a) ≡ take i places ++ (a ∷ []) = rw (add-one, take-suc-set places i a fits) in
          record {
            whole = next h ∙ rw (q, prepended_one (take i places) a (many p (n - i - 1) s e), less, filled);
            kept = drop-set-lt (i + 1) places i a (omega arith) ∙ same_past places i (most - i) d f.kept ∙ rw fewer;
            long = length-set places i a ∙ f.long;
            within = omega arith;
            room = f.room;
          }

      pub filling_stops : (r : ℕ) → i < n → p s at ≡ stop r → many p n s first ≡ stop r
      filling_stops r h q = next h ∙ rw q

      pub filling_ends : n ≤ i → Filled most d first n places at
      filling_ends h =
          let fits : i ≤ length places = omega arith in
          let all : length (take i places) ≡ i = length-take-le i places fits in
          record {
            front = take i places;
            read = f.whole ∙ rw (row-none (n - i) at (omega arith), append-nil);
            full = rw (all, ← f.kept) (take-append-drop i places);
          }
