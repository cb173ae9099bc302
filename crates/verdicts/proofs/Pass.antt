-- Verdicts judged in one pass over their bytes: what `any_above_yes` folds (`folded`), where n verdicts end
-- (`rows_judged`), and one law for each answer of `verdicts_past` (`rows_bad`, `rows_cut`, `rows-got`). A verdict: specs/Verdicts.antt; the
-- pass: specs/Parts.antt.
use Prim.Native.Nat.{ℕ, zero, suc, ◌+◌, ◌-◌, ◌<◌, ◌≤◌}
use mathlib.Core.Path.{◌≡◌, refl, sym, ap, ◌∙◌}
use mathlib.Core.Bool.{Bool, true, false, cond, ◌||◌, or-false, or_assoc}
use mathlib.Core.List.{List, [], ◌∷◌}
use Rattle.std.specs.List.{fold}
use native.Mathlib.Nat.{add-zero}
use native.Mathlib.Numerals.{add-one}
use native.Mathlib.Omega.{arith}
use lib.Dec.{ltb, leb}
use lib.ListN.{length, get_or, take, drop, length-drop, drop_of_length-le}
use lib.Seq.{drop-cons, take_all}
use borrow.Author.Tests.{ltb-true, ltb-false, lt-ltb, le-ltb, le-leb, lt-leb}
use Rattle.fields.specs.Fields.{Parsed, got, stop, after, many, byte_p}
use Rattle.fields.specs.Answers.{passing}
use Rattle.fields.proofs.Counts.{count_cut, count-got}
use Rattle.fields.proofs.Many.{many-none, many-some}
use Rattle.verdicts.specs.Verdicts.{verdict_p}
use Rattle.verdicts.specs.Parts.{any_above_yes}

-- ---- the pass

folded_from : (bad : Bool) (l : List ℕ) → fold (λ bad b. bad || ltb 1 b) bad l ≡ (bad || any_above_yes l)
unfolding any_above_yes
folded_from bad [] = sym (or-false bad)
folded_from bad (b ∷ l) = folded_from (bad || ltb 1 b) l ∙ or_assoc bad _ _

-- the pass keeps whether a byte was above yes so far
pub folded : (l : List ℕ) → fold (λ bad b. bad || ltb 1 b) false l ≡ any_above_yes l
folded l = folded_from false l

-- ---- n verdicts from a place on

module _ (s : List ℕ) where
  -- where n verdicts end, by their bytes and the file's length
  abbrev Judged : ℕ → ℕ → Parsed (Unit {0})
  Judged n at = cond (any_above_yes (take n (drop at s))) (stop 8) (cond (leb (at + n) (length s)) (got tt (at + n)) (stop 6))

  rows_next : (n at : ℕ) → passing (many verdict_p (suc n) s at) ≡ after (passing (verdict_p s at)) (λ _ e. passing (many verdict_p n s e))
  rows_next n at = let k : suc n - 1 ≡ n = omega arith in rw k at (many-some verdict_p s (suc n) at (omega arith))

  module _ (n at : ℕ) where
    first_cut : length s ≤ at → passing (many verdict_p (suc n) s at) ≡ Judged (suc n) at
    unfolding verdict_p byte_p any_above_yes
    first_cut h =
        let cut = count_cut 0 255 s at h in
        rows_next n at ∙ rw (cut, drop_of_length-le s h, lt-leb (at + suc n) (length s) (omega arith))

    module _ (there : at < length s) (byte : get_or s at 0 < 256) where
      first_bad : 1 < get_or s at 0 → passing (many verdict_p (suc n) s at) ≡ Judged (suc n) at
      unfolding verdict_p byte_p any_above_yes
      first_bad h =
          let read = count-got 0 255 s at there (omega arith) (omega arith) in
          rows_next n at ∙ rw (read, lt-leb (get_or s at 0) 1 h, drop-cons s at 0 there, lt-ltb 1 (get_or s at 0) h)

      first_good : get_or s at 0 ≤ 1 → passing (many verdict_p n s (at + 1)) ≡ Judged n (at + 1)
          → passing (many verdict_p (suc n) s at) ≡ Judged (suc n) at
      unfolding verdict_p byte_p any_above_yes
      first_good h rest =
          let read = count-got 0 255 s at there (omega arith) (omega arith) in
          let k : at + suc n ≡ at + 1 + n = omega arith in
          rows_next n at ∙ rw (read, le-leb (get_or s at 0) 1 h, rest, drop-cons s at 0 there, le-ltb 1 (get_or s at 0) h, k, add-one)

  module _ (bytes : (i : ℕ) → get_or s i 0 < 256) where
    rows_judged : (n at : ℕ) → at ≤ length s → passing (many verdict_p n s at) ≡ Judged n at
    unfolding any_above_yes
    rows_judged zero at h = many-none verdict_p s 0 at (omega arith) ∙ rw (add-zero, le-leb at (length s) h)
    rows_judged (suc n) at h =
        by_tests (ltb at (length s)) (ltb 1 (get_or s at 0)) refl refl (rows_judged n (at + 1))
      where
        by_tests : (there bad : Bool) → ltb at (length s) ≡ there → ltb 1 (get_or s at 0) ≡ bad
            → (at + 1 ≤ length s → passing (many verdict_p n s (at + 1)) ≡ Judged n (at + 1))
            → passing (many verdict_p (suc n) s at) ≡ Judged (suc n) at
        by_tests false bad t b rest = first_cut n at (ltb-false _ _ t)
        by_tests true true t b rest = first_bad n at (ltb-true _ _ t) (bytes at) (ltb-true _ _ b)
        by_tests true false t b rest =
            first_good n at (ltb-true _ _ t) (bytes at) (ltb-false _ _ b) (rest (omega (arith, ltb-true)))

-- ---- the answers of `verdicts_past`

-- the bytes of a file, and n verdicts from a place on, or as many as are there
module _ (s : List ℕ) (bytes : (i : ℕ) → get_or s i 0 < 256) (first n : ℕ) where
  abbrev pub front : List ℕ
  front = take n (take (length s - first) (drop first s))

  front_is : front ≡ take n (drop first s)
  front_is = ap (take n) (take_all (length s - first) (drop first s) (simp length-drop (omega arith)))

  pub rows_bad : first ≤ length s → any_above_yes front ≡ true → stop 8 ≡ passing (many verdict_p n s first)
  rows_bad h e = sym (rows_judged s bytes n first h ∙ rw (rw front_is at e))

  pub rows_cut : first ≤ length s → length s < first + n → any_above_yes front ≡ false → stop 6 ≡ passing (many verdict_p n s first)
  rows_cut h few e = sym (rows_judged s bytes n first h ∙ rw (rw front_is at e, lt-leb (first + n) (length s) few))

  pub rows-got : first + n ≤ length s → any_above_yes front ≡ false → got tt (first + n) ≡ passing (many verdict_p n s first)
  rows-got all e = sym (rows_judged s bytes n first (omega arith) ∙ rw (rw front_is at e, le-leb (first + n) (length s) all))
