-- The turns of the loops. A row, over any verdicts and any records: it begins with no place (`row-starts`), a turn passes a place whose
-- verdict is no (`row_unsigned`) or whose record is not the claim's (`row_unlikely`), or joins it (`row-joined`), and it ends with
-- each place asked (`row-whole`). A row for each subject, over any numbers, in `who_issued`: `rows_start`, `rows_turn`, `rows_whole`. The
-- rows: specs/Records.antt.
use Prim.Native.Nat.{ℕ, zero, suc, ◌+◌, ◌<◌, ◌≤◌}
use mathlib.Core.Path.{◌≡◌, refl, sym, ap, ◌∙◌}
use mathlib.Core.Bool.{Bool, true, false, ◌&&◌}
use mathlib.Core.List.{List}
use native.Mathlib.Omega.{arith}
use lib.ListN.{set, replicate}
use Rattle.record.specs.declared.Record.{Record}
use Rattle.issuing.specs.declared.likely.Claim.{Claim}
use Rattle.certificates.specs.Certificates.{size_of}
use Rattle.certificates.proofs.Records.{size-within}
use Rattle.rows.specs.Rows.{row_of, joined, listing}
use Rattle.rows.proofs.Places.{row-none, row_more, row_kept}
use Rattle.rows.proofs.Listing.{listing_none, listing-next}
use Rattle.issuing.specs.Records.{claim_of, fits_at, likely_issued_at}
use Rattle.issuing.proofs.Fits.{fits_claim}

-- ---- a row

-- the test of a place: its verdict, then the record that stands there
abbrev asks : List ℕ → Claim → (ℕ → Bool) → (ℕ → Record) → ℕ → Bool
asks s claim signed at i = signed i && fits_at s (at i) claim

-- the row of the places below i, of n
pub record RowTo (s : List ℕ) (claim : Claim) (signed : ℕ → Bool) (at : ℕ → Record) (n row i : ℕ) : Type 0 where
  pub within : i ≤ n
  pub is : row ≡ row_of (asks s claim signed at) i

pub row-starts : {s : List ℕ} {claim : Claim} {signed : ℕ → Bool} {at : ℕ → Record} {n : ℕ} → RowTo s claim signed at n 0 0
row-starts = record { within = omega arith; is = sym (row-none _) }

module _ {s : List ℕ} {claim : Claim} {signed : ℕ → Bool} {at : ℕ → Record} {n row i : ℕ} (t : RowTo s claim signed at n row i) where
  pub row-whole : {m : ℕ} → n ≤ i → n ≡ m → row ≡ row_of (asks s claim signed at) m
  row-whole {m} h e = let k : i ≡ m = omega (arith, t.within) in t.is ∙ ap (row_of (asks s claim signed at)) k

  module _ (below : i < n) {verdict : Bool} (asked : verdict ≡ signed i) where
    passes : {new : ℕ} → asks s claim signed at i ≡ false → new ≡ row → RowTo s claim signed at n new (i + 1)
    passes h e = record { within = omega arith; is = e ∙ t.is ∙ sym (row_kept (asks s claim signed at) i h) }

    pub row_unsigned : {new : ℕ} → verdict ≡ false → new ≡ row → RowTo s claim signed at n new (i + 1)
    row_unsigned h = passes (rw (sym asked ∙ h))

    module _ (yes : verdict ≡ true) {issuer : Record} (stands : issuer ≡ at i) {fits : Bool} (told : fits ≡ fits_at s issuer claim) where
      both : asks s claim signed at i ≡ fits
      both = rw (sym asked ∙ yes, told, stands)

      pub row_unlikely : {new : ℕ} → fits ≡ false → new ≡ row → RowTo s claim signed at n new (i + 1)
      row_unlikely h = passes (both ∙ h)

      pub row-joined : {new : ℕ} → fits ≡ true → new ≡ joined row i → RowTo s claim signed at n new (i + 1)
      row-joined h e =
          record {
            within = omega arith;
            is = e ∙ ap (λ (r : ℕ). joined r i) t.is ∙ sym (row_more (asks s claim signed at) i (both ∙ h));
          }

-- a row by a claim that a subject makes is the row of those that are its likely issuers
pub row_claimed : (s : List ℕ) (subject : Record) (claim : Claim) (signed : ℕ → Bool) (at : ℕ → Record) (n : ℕ) → claim ≡ claim_of s subject
    → row_of (asks s claim signed at) n ≡ row_of (λ i. signed i && likely_issued_at s (at i) subject) n
unfolding row_of
row_claimed s subject claim signed at zero h = refl
row_claimed s subject claim signed at (suc n) h =
    rw (row_claimed s subject claim signed at n h, h, fits_claim s (at n) subject)

-- ---- a row for each subject

-- the rows of the subjects below j, of n, and zeros to the last place
pub record RowsTo (most : ℕ) (f : ℕ → ℕ) (n : ℕ) (rows : List ℕ) (j : ℕ) : Type 0 where
  pub within : j ≤ n
  pub few : n ≤ most
  pub are : rows ≡ listing most j f

module _ {most : ℕ} {f : ℕ → ℕ} {n : ℕ} where
  pub rows_start : (count : ℕ) → n ≡ size_of most count → RowsTo most f n (replicate most 0) 0
  rows_start count e = record { within = omega arith; few = omega (arith, e, size-within most count); are = sym (listing_none f most) }

  module _ {rows : List ℕ} {j : ℕ} (t : RowsTo most f n rows j) where
    pub rows_turn : {row : ℕ} → j < n → row ≡ f j → RowsTo most f n (set rows j row) (j + 1)
    rows_turn {row} h e =
        record {
          within = omega arith;
          few = t.few;
          are = rw (t.are, e) (listing-next f most j (omega (arith, t.few)));
        }

    pub rows_whole : {m : ℕ} → n ≤ j → n ≡ m → rows ≡ listing most m f
    rows_whole {m} h e = let k : j ≡ m = omega (arith, t.within) in t.are ∙ ap (λ (i : ℕ). listing most i f) k
