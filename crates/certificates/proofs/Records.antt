-- Records in so many places, for any number of places: a list after its count, which stops at a record or ends (`list_stops`, `list_ends`),
-- and the count within its bounds (`counted_few`, `counted_byte`), for `certificates_at`; how many records there are (`size-within`); and the
-- record at a place below that (`record_within`), for issuing. The loop's turns: fields/proofs/Filling.antt.
use Prim.Native.Nat.{ℕ, ◌<◌, ◌≤◌}
use mathlib.Core.Path.{◌≡◌, refl}
use mathlib.Core.Bool.{Bool, true, false, cond}
use mathlib.Core.List.{List}
use native.Mathlib.Omega.{arith}
use lib.Dec.{leb}
use lib.ListN.{length, get_or}
use borrow.Author.Tests.{lt-ltb, leb-true, leb-false}
use Rattle.fields.specs.Fields.{got, stop, many, count_p, counted_p}
use Rattle.fields.proofs.Counts.{count_read}
use Rattle.fields.proofs.Many.{many-length}
use Rattle.fields.proofs.Filling.{Filling, filling_ends}
use Rattle.record.specs.Record.{record_p}
use Rattle.record.specs.Fresh.{fresh}
use Rattle.record.specs.declared.Record.{Record}
use Rattle.certificates.specs.Certificates.{filled, filled_certificates, size_of, record_of}

-- ---- a list by its count

module _ (least most : ℕ) (s : List ℕ) (at : ℕ) where
  module _ (n first : ℕ) (h : count_p least most s at ≡ got n first) where
    pub counted_few : n ≤ most
    counted_few = (count_read least most s at n first h).few

    -- a count that was read is a byte
    pub counted_byte : get_or s at 0 < 256 → n < 256
    counted_byte byte = omega (arith, (count_read least most s at n first h).is)

    module _ (room : ℕ) where
      pub list_stops : (r : ℕ) → many record_p n s first ≡ stop r → filled_certificates room (counted_p least most record_p s at) ≡ stop r
      unfolding counted_p
      list_stops r k = rw (h, k)

      pub list_ends : (places : List Record) (next i : ℕ) → Filling record_p s room fresh first n places next i → n ≤ i
          → got (record { count = n; records = places }) next ≡ filled_certificates room (counted_p least most record_p s at)
      unfolding counted_p filled
      list_ends places next i f l =
          let t = filling_ends record_p s room fresh first n places next i f l in
          let long : length t.front ≡ n = many-length record_p s n first t.front next t.read in
          rw (h, t.read, t.full, long)

-- ---- by place

module _ (most count : ℕ) where
  pub size-within : size_of most count ≤ most
  unfolding size_of
  size-within = by_test (leb count most) refl
    where
      by_test : (b : Bool) → leb count most ≡ b → cond b count most ≤ most
      by_test true h = leb-true count most h
      by_test false h = omega arith

module _ (count : ℕ) (records : List Record) (place : ℕ) where
  record_there : place < count → get_or records place fresh ≡ record_of count records place
  unfolding record_of
  record_there h = rw (lt-ltb place count h)

  pub record_within : (most : ℕ) → place < size_of most count → get_or records place fresh ≡ record_of count records place
  unfolding size_of
  record_within most = by_test (leb count most) refl
    where
      by_test : (b : Bool) → leb count most ≡ b → place < cond b count most → get_or records place fresh ≡ record_of count records place
      by_test true t h = record_there h
      by_test false t h = let more = leb-false count most t in record_there (omega arith)
