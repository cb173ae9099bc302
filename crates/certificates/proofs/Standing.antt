-- What certificates that were read say of their records: how many they are (`certificates_read`), the record at a place
-- (`record_of_lem`), and that each was read somewhere in the file (`record_stands`). For card/proofs/Sections.antt and those after it; what a
-- record that was read says: record/proofs/Meaning.antt.
use Prim.Native.Nat.{ℕ, ◌-◌, ◌<◌, ◌≤◌}
use mathlib.Core.Path.{◌≡◌, refl, sym, ap, ◌∙◌}
use mathlib.Core.List.{List}
use native.Mathlib.Omega.{arith}
use lib.ListN.{length, get_or, replicate, length-append, length-replicate, get_or-append}
use borrow.Author.Tests.{lt-ltb}
use Rattle.fields.specs.Fields.{got, count_p, counted_p, many}
use Rattle.fields.proofs.After.{after-got, got-is}
use Rattle.fields.proofs.Counts.{count_read}
use Rattle.fields.proofs.Many.{many-length, many_nth}
use Rattle.record.specs.Record.{place_most, record_p}
use Rattle.record.specs.Fresh.{fresh}
use Rattle.record.specs.declared.Record.{Record}
use Rattle.record.proofs.Meaning.{RecordRead, record_read}
use Rattle.certificates.specs.Certificates.{filled, certificates_p, record_of}
use Rattle.certificates.specs.declared.certificates.Certificates.{Certificates}

-- ---- so many records

-- so many records were read, they stand in front of their places, and e is the place past them
pub record RecordsRead (most : ℕ) (s : List ℕ) (count : ℕ) (records : List Record) (e : ℕ) : Type 0 where
  pub first : ℕ
  pub front : List Record
  pub are : many record_p (length front) s first ≡ got front e
  pub counted : count ≡ length front
  pub placed : records ≡ filled most front
  pub few : length front ≤ most

module _ (most : ℕ) (s : List ℕ) (at : ℕ) (l : List Record) (e : ℕ) where
  records_read : counted_p 0 most record_p s at ≡ got l e → RecordsRead most s (length l) (filled most l) e
  unfolding counted_p
  records_read h =
      let count = after-got (count_p 0 most s at) _ h in
      let long = many-length record_p s count.value count.place l e count.next in
      let few = (count_read 0 most s at count.value count.place count.first).few in
      record {
        first = count.place;
        front = l;
        are = rw long count.next;
        counted = refl;
        placed = refl;
        few = omega arith;
      }

pub certificates_read : (most : ℕ) (s : List ℕ) (at : ℕ) (c : Certificates most) (e : ℕ) → certificates_p most s at ≡ got c e
    → RecordsRead most s c.count c.records e
unfolding certificates_p
certificates_read most s at c e h =
    let read = after-got (counted_p 0 most record_p s at) _ h in
    got-is (λ (c : Certificates most) e. RecordsRead most s c.count c.records e) read.next
    (records_read most s at read.value read.place read.first)

-- ---- by place

-- a record was read in the file
pub record Stands (s : List ℕ) (r : Record) : Type 0 where
  pub place : ℕ
  pub past : ℕ
  pub is : record_p s place ≡ got r past
  pub read : RecordRead s r past

filled-length : (most : ℕ) (l : List Record) → length l ≤ most → length (filled most l) ≡ most
unfolding filled
filled-length most l h = omega (arith, length-append l (replicate (most - length l) fresh), length-replicate (most - length l) fresh)

module _ (most : ℕ) (s : List ℕ) (count : ℕ) (records : List Record) (e : ℕ) (t : RecordsRead most s count records e) where
  pub records_length : length records ≡ most
  records_length = ap length t.placed ∙ filled-length most t.front t.few

  pub count-few : count ≤ most
  count-few = omega (arith, t.counted, t.few)

  -- the record at a place below the count is the one that was read
  pub record_of_lem : (i : ℕ) → i < count → record_of count records i ≡ get_or t.front i fresh
  unfolding record_of filled
  record_of_lem i h =
      let within : i < length t.front = omega (arith, t.counted) in
      let front = get_or-append t.front (replicate (most - length t.front) fresh) fresh i within in
      rw (lt-ltb i count h) (ap (λ l. get_or l i fresh) t.placed ∙ front)

  pub record_stands : length s ≤ place_most → (i : ℕ) → i < count → Stands s (record_of count records i)
  record_stands few i h =
      let within : i < length t.front = omega (arith, t.counted) in
      let n = many_nth record_p s fresh i (length t.front) t.first t.front e within t.are in
      let is : record_p s n.place ≡ got (record_of count records i) n.past = n.is ∙ ap (λ r. got r n.past) (sym (record_of_lem i h)) in
      record { place = n.place; past = n.past; is = is; read = record_read s few n.place (record_of count records i) n.past is }
