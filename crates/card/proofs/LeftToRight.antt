-- A card file is judged from left to right (docs/CARD-FILE.md, "Order of judging"), by the five ways of a file (`way`). A fault that a byte
-- shows is met with that byte, whatever stands behind it (`first_fault`). A file that is cut short is so at its end alone: so is each
-- beginning of it (`cut_short`), and a longer file meets its fault only behind it (`fault_behind`). Each proper beginning of a file that is
-- read is cut short (`beginning_cut`), and bytes are left over behind such a file (`read_whole`) and nowhere else (`left_over`).
use Prim.Native.Nat.{ℕ, ◌<◌, ◌≤◌}
use mathlib.Core.Path.{◌≡◌, refl, sym, ◌∙◌}
use mathlib.Core.Logic.{◌≢◌}
use mathlib.Core.Bool.{Bool, true, false, cond}
use mathlib.Core.List.{List, ◌++◌}
use native.Mathlib.Omega.{arith}
use lib.ListN.{length, take, drop, length-take, length-append, take-append-drop}
use lib.Dec.{leb, ltb}
use lib.Seq.{length-take-le, take_all, take-length, take-append-le, take_at, take-take}
use borrow.Author.Tests.{ltb-true, ltb-false, leb-true, leb-false, le-leb, lt-leb, lt-ltb, le-ltb}
use Rattle.fields.specs.Fields.{Parsed, got, stop, after, whole}
use Rattle.fields.proofs.Forward.{Settled, Forwards, found, fault, short, Shown, edition, count, value}
use Rattle.card.specs.Content.{Content, sections_p, file_most, content_p}
use Rattle.card.proofs.Forward.{sections_forward}

-- the fault r is met with the byte before `place`: with fewer bytes the file is cut short, and what stands behind them changes nothing
pub record Met (s : List ℕ) (r : ℕ) : Type 0 where
  pub place : ℕ
  pub within : place ≤ length s
  pub behind : (t : List ℕ) → length (take place s ++ t) ≤ file_most → content_p (take place s ++ t) ≡ stop r
  pub before : (i : ℕ) → i < place → content_p (take i s) ≡ stop 6

-- the file is read to its last byte: with fewer bytes it is cut short, and bytes behind it are left over
pub record ReadWhole (s : List ℕ) : Type 0 where
  pub behind : (t : List ℕ) → 0 < length t → length (s ++ t) ≤ file_most → content_p (s ++ t) ≡ stop 9
  pub before : (i : ℕ) → i < length s → content_p (take i s) ≡ stop 6

-- a file begins with one that is read, and goes on
pub record Continued (s : List ℕ) : Type 0 where
  pub place : ℕ
  pub within : place < length s
  pub content : Content
  pub is : content_p (take place s) ≡ got content place

-- the five ways of a file: too long, cut short as its beginnings are, stopped by a byte, read, or read with bytes left over
pub data Way (s : List ℕ) : Parsed Content → Type 0 where
  long : file_most < length s → Way s (stop 5)
  cut : ((i : ℕ) → content_p (take i s) ≡ stop 6) → Way s (stop 6)
  stopped : (r : ℕ) → Shown r → Met s r → Way s (stop r)
  read : (c : Content) → ReadWhole s → Way s (got c (length s))
  over : Continued s → Way s (stop 9)

-- ---- a file by its sections

-- bytes behind the sections are left over
abbrev ended : List ℕ → Parsed Content → Parsed Content
ended s x = after x (λ c e. cond (ltb e (length s)) (stop 9) (got c e))

by_sections : (s : List ℕ) → length s ≤ file_most → (x : Parsed Content) → sections_p s 0 ≡ x → content_p s ≡ ended s x
unfolding content_p whole
by_sections s h x e = rw (le-leb (length s) file_most h, e)

too_long : (s : List ℕ) → file_most < length s → content_p s ≡ stop 5
unfolding content_p
too_long s h = rw (lt-leb (length s) file_most h)

module _ (s : List ℕ) (fits : length s ≤ file_most) where
  beginning : (i : ℕ) (x : Parsed Content) → sections_p (take i s) 0 ≡ x → content_p (take i s) ≡ ended (take i s) x
  beginning i x e = by_sections (take i s) (omega (arith, length-take i s)) x e

  met : (r e : ℕ) → Settled sections_p s 0 (stop r) e → Met s r
  met r e z =
      let all : length (take e s) ≡ e = length-take-le e s z.within in
      record {
        place = e;
        within = z.within;
        behind = λ t k. by_sections (take e s ++ t) k (stop r) (z.same (take e s ++ t) (take_at (take e s) t e all));
        before = λ i k. beginning i (stop 6) (z.less i (omega arith) k);
      }

  cut_all : ((i : ℕ) → 0 ≤ i → i ≤ length s → sections_p (take i s) 0 ≡ stop 6) → (i : ℕ) → content_p (take i s) ≡ stop 6
  cut_all w i = by_place (ltb (length s) i) refl
    where
      by_place : (b : Bool) → ltb (length s) i ≡ b → content_p (take i s) ≡ stop 6
      by_place true e =
          let k = ltb-true (length s) i e in
          let all : take i s ≡ take (length s) s = take_all i s (omega arith) ∙ sym (take-length s) in
          rw all (beginning (length s) (stop 6) (w (length s) (omega arith) (omega arith)))
      by_place false e = beginning i (stop 6) (w i (omega arith) (ltb-false (length s) i e))

  read_to : (c : Content) (e : ℕ) → Settled sections_p s 0 (got c e) e → e ≡ length s → ReadWhole s
  read_to c e z end =
      record {
        behind =
            λ t some k.
            let same : take e (s ++ t) ≡ take e s = take-append-le e s t z.within in
            let inside : e < length (s ++ t) = rw length-append (omega arith) in
            by_sections (s ++ t) k (got c e) (z.same (s ++ t) same) ∙ rw (lt-ltb e (length (s ++ t)) inside);
        before = λ i k. beginning i (stop 6) (z.less i (omega arith) (omega arith));
      }

  read_or_over : (c : Content) (e : ℕ) → Settled sections_p s 0 (got c e) e → (b : Bool) → ltb e (length s) ≡ b
      → Way s (cond b (stop 9) (got c e))
  read_or_over c e z true t =
      let all : length (take e s) ≡ e = length-take-le e s z.within in
      let read : sections_p (take e s) 0 ≡ got c e = z.same (take e s) (take-take e e s (omega arith)) in
      over
      (record {
        place = e;
        within = ltb-true e (length s) t;
        content = c;
        is = beginning e (got c e) read ∙ rw (all, le-ltb e e (omega arith));
      })
  read_or_over c e z false t =
      let end : e ≡ length s = omega (arith, ltb-false, z.within) in
      rw end (read c (read_to c e z end))

  by_way : {x : Parsed Content} → Forwards sections_p s 0 x → Way s (ended s x)
  by_way (found c e z) = read_or_over c e z (ltb e (length s)) refl
  by_way (fault r e f z) = stopped r f (met r e z)
  by_way (short w) = cut (cut_all w)

pub way : (s : List ℕ) → Way s (content_p s)
way s = by_length (leb (length s) file_most) refl
  where
    by_length : (b : Bool) → leb (length s) file_most ≡ b → Way s (content_p s)
    by_length true e =
        let fits = leb-true (length s) file_most e in
        rw (by_sections s fits (sections_p s 0) refl) (by_way s fits (sections_forward.from s 0 (omega arith)))
    by_length false e =
        let over = leb-false (length s) file_most e in
        rw (too_long s over) (long over)

-- ---- what follows

shown_apart : {r : ℕ} → Shown r → (r ≢ 6) × (r ≢ 9)
shown_apart edition = (λ e. omega arith, λ e. omega arith)
shown_apart count = (λ e. omega arith, λ e. omega arith)
shown_apart value = (λ e. omega arith, λ e. omega arith)

module _ (s : List ℕ) where
  if_stopped : {r : ℕ} → Way s (stop r) → r ≢ 5 → r ≢ 6 → r ≢ 9 → Met s r
  if_stopped (long _) l c o = absurd (l refl)
  if_stopped (cut _) l c o = absurd (c refl)
  if_stopped (stopped r f m) l c o = m
  if_stopped (over _) l c o = absurd (o refl)

  if_cut : Way s (stop 6) → (i : ℕ) → content_p (take i s) ≡ stop 6
  if_cut (cut w) = w
  if_cut (stopped r f m) = absurd ((shown_apart f).0 refl)

  if_read : {c : Content} {e : ℕ} → Way s (got c e) → ReadWhole s
  if_read (read c w) = w

  if_over : Way s (stop 9) → Continued s
  if_over (over w) = w
  if_over (stopped r f m) = absurd ((shown_apart f).1 refl)

  pub first_fault : (r : ℕ) → content_p s ≡ stop r → r ≢ 5 → r ≢ 6 → r ≢ 9 → Met s r
  first_fault r h = if_stopped (rw h at (way s))

  pub cut_short : content_p s ≡ stop 6 → (i : ℕ) → content_p (take i s) ≡ stop 6
  cut_short h = if_cut (rw h at (way s))

  pub read_whole : (c : Content) (e : ℕ) → content_p s ≡ got c e → ReadWhole s
  read_whole c e h = if_read (rw h at (way s))

  pub beginning_cut : (c : Content) (e : ℕ) → content_p s ≡ got c e → (i : ℕ) → i < length s → content_p (take i s) ≡ stop 6
  beginning_cut c e h = (read_whole c e h).before

  pub left_over : content_p s ≡ stop 9 → Continued s
  left_over h = if_over (rw h at (way s))

-- a file that is cut short is not too long
cut_fits : (s : List ℕ) → content_p s ≡ stop 6 → length s ≤ file_most
cut_fits s h = by_length (leb (length s) file_most) refl
  where
    by_length : (b : Bool) → leb (length s) file_most ≡ b → length s ≤ file_most
    by_length true e = leb-true (length s) file_most e
    by_length false e =
        let k = too_long s (leb-false (length s) file_most e) in
        let z : ◌≡◌ {A = ℕ} 0 1 = cc in
        absurd (omega arith)

-- no byte of a file that is cut short shows a fault: a longer file meets it behind them
pub fault_behind : (s t : List ℕ) (r : ℕ) → content_p s ≡ stop 6 → r ≢ 6 → (m : Met (s ++ t) r) → length s < m.place
fault_behind s t r h n m = by_place (ltb (length s) m.place) refl
  where
    by_place : (b : Bool) → ltb (length s) m.place ≡ b → length s < m.place
    by_place true e = ltb-true (length s) m.place e
    by_place false e =
        let p = m.place in
        let same : take p (s ++ t) ++ drop p s ≡ s = rw (take-append-le p s t (ltb-false (length s) p e)) (take-append-drop p s) in
        let k : content_p s ≡ stop r = rw same at (m.behind (drop p s) (rw same (cut_fits s h))) in
        let z : r ≡ 6 = cc in
        absurd (n z)
