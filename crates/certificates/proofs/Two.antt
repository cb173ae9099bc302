-- Two places stay two: of roots or a bundle that were read no two places hold the same record, since each record has its names at a place
-- of its own (`two_places`, for card/proofs/Two.antt). With equal bytes at root places 0 and 1 the certificates there are equal; the
-- records are not, and the places are two.
use Prim.Native.Nat.{ℕ, zero, suc, ◌+◌, ◌<◌, ◌≤◌}
use mathlib.Core.Path.{◌≡◌, refl, sym, ap, ◌∙◌}
use mathlib.Core.Bool.{Bool, true, false}
use mathlib.Core.List.{List, ◌∷◌}
use native.Mathlib.Omega.{arith}
use lib.Dec.{ltb}
use lib.ListN.{length, get_or}
use borrow.Author.Tests.{ltb-true, ltb-false}
use Rattle.fields.specs.Fields.{Parsed, got, many}
use Rattle.fields.proofs.After.{after-got, got-is}
use Rattle.record.specs.Record.{place_most, record_p}
use Rattle.record.specs.Fresh.{fresh}
use Rattle.record.specs.declared.Record.{Record}
use Rattle.certificates.specs.Certificates.{record_of}
use Rattle.certificates.proofs.Standing.{RecordsRead, record_of_lem}
use Rattle.record.proofs.Onward.{name_onward, strings_onward, extensions_onward}
use Rattle.record.proofs.Meaning.{record_read, record_begins}

-- ---- things in a row, each with a mark of its own

-- a mark between the place where a thing begins and the place past it
pub record Inside (at mark e : ℕ) : Type 0 where
  pub past : at < mark
  pub before : mark < e

module _ {A : Type 0} (p : List ℕ → ℕ → Parsed A) (s : List ℕ) (d : A) (mark : A → ℕ)
    (inside : (at : ℕ) (a : A) (e : ℕ) → p s at ≡ got a e → Inside at (mark a) e)
  where
    -- every mark lies past the beginning of the row
    marks_past : (n at : ℕ) (l : List A) (e : ℕ) → many p n s at ≡ got l e → (i : ℕ) → i < n → at < mark (get_or l i d)
    unfolding many
    marks_past zero at l e h = λ i w. absurd (omega arith)
    marks_past (suc n) at l e h =
        let first = after-got (p s at) _ h in
        let rest = after-got (many p n s first.place) _ first.next in
        got-is (λ (l : List A) _. (i : ℕ) → i < suc n → at < mark (get_or l i d)) rest.next
        (by_place first.value first.place (inside at first.value first.place first.first) rest.value
        (marks_past n first.place rest.value rest.place rest.first))
      where
        by_place : (a : A) (m : ℕ) → Inside at (mark a) m → (l : List A) → ((i : ℕ) → i < n → m < mark (get_or l i d))
            → (i : ℕ) → i < suc n → at < mark (get_or (a ∷ l) i d)
        by_place a m h l k zero w = h.past
        by_place a m h l k (suc i) w = omega (arith, h.past, h.before, k i (omega arith))

    -- marks grow along the row
    marks_grow : (n at : ℕ) (l : List A) (e : ℕ) → many p n s at ≡ got l e → (i j : ℕ) → i < j → j < n → mark (get_or l i d) < mark (get_or l j d)
    unfolding many
    marks_grow zero at l e h = λ i j v w. absurd (omega arith)
    marks_grow (suc n) at l e h =
        let first = after-got (p s at) _ h in
        let rest = after-got (many p n s first.place) _ first.next in
        got-is (λ (l : List A) _. (i j : ℕ) → i < j → j < suc n → mark (get_or l i d) < mark (get_or l j d)) rest.next
        (by_places first.value first.place (inside at first.value first.place first.first) rest.value
        (marks_past n first.place rest.value rest.place rest.first)
        (marks_grow n first.place rest.value rest.place rest.first))
      where
        by_places : (a : A) (m : ℕ) → Inside at (mark a) m → (l : List A) → ((i : ℕ) → i < n → m < mark (get_or l i d))
            → ((i j : ℕ) → i < j → j < n → mark (get_or l i d) < mark (get_or l j d))
            → (i j : ℕ) → i < j → j < suc n → mark (get_or (a ∷ l) i d) < mark (get_or (a ∷ l) j d)
        by_places a m h l k g i zero v w = absurd (omega arith)
        by_places a m h l k g zero (suc j) v w = omega (arith, h.before, k j (omega arith))
        by_places a m h l k g (suc i) (suc j) v w = g i j (omega arith) (omega arith)

    marks_apart : (n at : ℕ) (l : List A) (e : ℕ) → many p n s at ≡ got l e → (i j : ℕ) → i < n → j < n
        → mark (get_or l i d) ≡ mark (get_or l j d) → i ≡ j
    marks_apart n at l e h i j v w q = by_order (ltb i j) (ltb j i) refl refl
      where
        by_order : (a b : Bool) → ltb i j ≡ a → ltb j i ≡ b → i ≡ j
        by_order true b x y = absurd (omega (arith, marks_grow n at l e h i j (ltb-true i j x) w))
        by_order false true x y = absurd (omega (arith, marks_grow n at l e h j i (ltb-true j i y) v))
        by_order false false x y = omega (arith, ltb-false i j x, ltb-false j i y)

-- ---- a record's names

record_inside : (s : List ℕ) → length s ≤ place_most → (at : ℕ) (r : Record) (e : ℕ) → record_p s at ≡ got r e → Inside at r.issuer e
record_inside s few at r e h =
    let t = record_read s few at r e h in
    let begins = record_begins s few at r e h in
    let a = (strings_onward s (r.start + 18)).ends t.strings_are r.issuer t.strings in
    let b = (name_onward s r.issuer).ends t.issuer_name r.subject t.issuer in
    let c = (name_onward s r.subject).ends t.subject_name r.rest t.subject in
    let d = (extensions_onward s t.head_is.flags r.rest).ends t.extensions_are e t.extensions in
    record { past = omega arith; before = omega arith }

-- ---- places

module _ (most : ℕ) (s : List ℕ) (count : ℕ) (records : List Record) (e : ℕ) (t : RecordsRead most s count records e) where
  pub two_places : length s ≤ place_most → (i j : ℕ) → i < count → j < count → record_of count records i ≡ record_of count records j → i ≡ j
  two_places few i j v w same =
      let there : i < length t.front = omega (arith, t.counted) in
      let here : j < length t.front = omega (arith, t.counted) in
      let read = sym (record_of_lem most s count records e t i v) ∙ same ∙ record_of_lem most s count records e t j w in
      marks_apart record_p s fresh (λ r. r.issuer) (record_inside s few) (length t.front) t.first t.front e t.are i j there here
      (ap (λ (r : Record). r.issuer) read)
