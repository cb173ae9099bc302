-- The readers of specs/Fields.antt go from left to right: a count (`count_forward`) and bytes (`bytes_forward`) by what they are, the
-- others as readers one after another. What that means: Forward.antt; the readers made of these: the Forward.antt of names, lists, record,
-- verdicts, task and card.
use Prim.Native.Nat.{ℕ, zero, suc, ◌+◌, ◌<◌, ◌≤◌}
use mathlib.Core.Path.{◌≡◌, refl, sym, ap, ◌∙◌}
use mathlib.Core.Bool.{Bool, true, false, cond, ◌&&◌}
use mathlib.Core.List.{List, [], ◌∷◌}
use mathlib.Core.Option.{none, some}
use native.Mathlib.Omega.{arith}
use lib.ListN.{length, get_or, take, drop, length-take}
use lib.Dec.{ltb, leb}
use lib.Seq.{length-take-le, get_or-take, take-add, drop_at}
use borrow.Author.Tests.{ltb-true, ltb-false, leb-true, leb-false, lt-ltb, le-leb, lt-leb}
use Rattle.fields.specs.Fields.{Parsed, got, stop, count_p, byte_p, bytes_p, string_p, big_endian, big_p, optional_p, many, counted_p}
use Rattle.fields.proofs.Counts.{count_cut}
use Rattle.fields.proofs.Forward.{Settled, Forwards, found, fault, short, Forward, count, at_hand, then}

-- ---- files with the same beginning

beginning_short : (i : ℕ) (s : List ℕ) → length (take i s) ≤ i
beginning_short i s = rw length-take (omega arith)

-- a file with the first e bytes of another has e bytes
reaches : (e : ℕ) (s t : List ℕ) → e ≤ length s → take e t ≡ take e s → e ≤ length t
reaches e s t h same = omega (arith, length-take e s, length-take e t, ap length same)

same_byte : (s t : List ℕ) (at : ℕ) → take (at + 1) t ≡ take (at + 1) s → get_or t at 0 ≡ get_or s at 0
same_byte s t at same =
    sym (get_or-take (at + 1) t at 0 (omega arith)) ∙ ap (λ l. get_or l at 0) same ∙ get_or-take (at + 1) s at 0 (omega arith)

-- the bytes at a place, by the beginning that ends with them
at_end_of : (at n : ℕ) (s : List ℕ) → at + n ≤ length s → drop at (take (at + n) s) ≡ take n (drop at s)
at_end_of at n s h =
    ap (drop at) (take-add at n s) ∙ drop_at (take at s) (take n (drop at s)) at (length-take-le at s (omega arith))

same_bytes : (at n : ℕ) (s t : List ℕ) → at + n ≤ length s → take (at + n) t ≡ take (at + n) s → take n (drop at t) ≡ take n (drop at s)
same_bytes at n s t h same =
    sym (at_end_of at n t (reaches (at + n) s t h same)) ∙ ap (drop at) same ∙ at_end_of at n s h

-- ---- a count

module _ (least most : ℕ) (s : List ℕ) (at : ℕ) where
  -- the answer of a count by its byte
  abbrev by_byte : Bool → Parsed ℕ
  by_byte right = cond right (got (get_or s at 0) (at + 1)) (stop 7)

  abbrev right : Bool
  right = leb least (get_or s at 0) && leb (get_or s at 0) most

  count-settled : at < length s → Settled (count_p least most) s at (by_byte right) (at + 1)
  unfolding count_p
  count-settled h =
      record {
        begins = omega arith;
        within = omega arith;
        same =
            λ t same.
            let there : at < length t = omega (arith, reaches (at + 1) s t (omega arith) same) in
            rw (lt-ltb at (length t) there, same_byte s t at same);
        less = λ i l k. count_cut least most (take i s) at (omega (arith, beginning_short i s));
      }

  judged_count : (b : Bool) → Settled (count_p least most) s at (by_byte b) (at + 1) → Forwards (count_p least most) s at (by_byte b)
  judged_count true z = found _ _ z
  judged_count false z = fault 7 _ count z

  count_from : (b : Bool) → ltb at (length s) ≡ b → Forwards (count_p least most) s at (cond b (by_byte right) (stop 6))
  count_from true e = judged_count right (count-settled (ltb-true at (length s) e))
  count_from false e =
      let end = ltb-false at (length s) e in
      short (λ i l k. count_cut least most (take i s) at (omega (arith, beginning_short i s)))

pub count_forward : (least most : ℕ) → Forward (count_p least most)
unfolding count_p
count_forward least most = record { from = λ s at h. count_from least most s at (ltb at (length s)) refl }

pub byte_forward : Forward byte_p
unfolding byte_p
byte_forward = count_forward 0 255

-- ---- bytes

module _ (n : ℕ) (s : List ℕ) (at : ℕ) where
  bytes_cut : length s < at + n → bytes_p n s at ≡ stop 6
  unfolding bytes_p
  bytes_cut h = rw (lt-leb (at + n) (length s) h)

  bytes-got : at + n ≤ length s → bytes_p n s at ≡ got (take n (drop at s)) (at + n)
  unfolding bytes_p
  bytes-got h = rw (le-leb (at + n) (length s) h)

module _ (n : ℕ) (s : List ℕ) (at : ℕ) where
  bytes-settled : at + n ≤ length s → Settled (bytes_p n) s at (got (take n (drop at s)) (at + n)) (at + n)
  bytes-settled h =
      record {
        begins = omega arith;
        within = h;
        same =
            λ t same. bytes-got n t at (reaches (at + n) s t h same) ∙ ap (λ l. got l (at + n)) (same_bytes at n s t h same);
        less = λ i l k. bytes_cut n (take i s) at (omega (arith, beginning_short i s));
      }

  bytes_from : (b : Bool) → leb (at + n) (length s) ≡ b
      → Forwards (bytes_p n) s at (cond b (got (take n (drop at s)) (at + n)) (stop 6))
  bytes_from true e = found _ _ (bytes-settled (leb-true (at + n) (length s) e))
  bytes_from false e =
      let over = leb-false (at + n) (length s) e in
      short (λ i l k. bytes_cut n (take i s) at (omega (arith, beginning_short i s)))

pub bytes_forward : (n : ℕ) → Forward (bytes_p n)
unfolding bytes_p
bytes_forward n = record { from = λ s at h. bytes_from n s at (leb (at + n) (length s)) refl }

-- ---- one after another

pub string_forward : (least most : ℕ) → Forward (string_p least most)
unfolding string_p
string_forward least most = then (count_forward least most) (λ n. bytes_forward n)

pub big_forward : (width : ℕ) → Forward (big_p width)
unfolding big_p
big_forward width = then (bytes_forward width) (λ l. at_hand (big_endian 0 l))

module _ {A : Type 0} {p : List ℕ → ℕ → Parsed A} (each : Forward p) where
  pub optional_forward : (announced : Bool) → Forward (optional_p announced p)
  unfolding optional_p
  optional_forward true = then each (λ a. at_hand (some a))
  optional_forward false = at_hand none

  pub many_forward : (n : ℕ) → Forward (many p n)
  unfolding many
  many_forward zero = at_hand []
  many_forward (suc n) = then each (λ a. then (many_forward n) (λ l. at_hand (a ∷ l)))

  pub counted_forward : (least most : ℕ) → Forward (counted_p least most p)
  unfolding counted_p
  counted_forward least most = then (count_forward least most) (λ n. many_forward n)
