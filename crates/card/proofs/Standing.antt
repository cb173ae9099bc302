-- The certificate at a place is what the record there says, on any card (`root-at`, `bundled-at`). A card that was read has as many
-- certificates as it counts, and each of its records was read somewhere in the file (`root_stands`, `bundled-stands`). For the proofs of
-- issuing, policy and question; lists of records: certificates/proofs/Standing.antt.
use Prim.Native.Nat.{ℕ, ◌<◌, ◌≤◌}
use mathlib.Core.Path.{◌≡◌, refl, ap, ◌∙◌}
use mathlib.Core.Bool.{Bool, true, false, cond}
use mathlib.Core.List.{List}
use native.Mathlib.Omega.{arith}
use lib.Dec.{ltb}
use lib.ListN.{length, get_or, take, length-take, length-map, get_or-eq_default, get_or-map}
use lib.Seq.{length-take-le, get_or-take}
use borrow.Author.Tests.{ltb-true, ltb-false}
use Rattle.places.specs.Limits.{roots_most, bundle_most}
use Rattle.fields.specs.Spans.{list_of}
use Rattle.record.specs.Parts.{certificate_of}
use Rattle.record.specs.Fresh.{fresh}
use Rattle.record.specs.declared.Record.{Record}
use Rattle.certificates.specs.Certificates.{record_of}
use Rattle.certificates.proofs.Standing.{RecordsRead, Stands, records_length, count-few, record_stands}
use Rattle.card.specs.Parts.{certificates_of, content_of}
use Rattle.card.specs.declared.Card.{Card}
use Rattle.card.proofs.Sections.{CardRead}

-- ---- records and their certificates, whatever they are

-- a place of the first n; the default past them
front_at : {A : Type 0} (n : ℕ) (l : List A) (i : ℕ) (d : A) → get_or (take n l) i d ≡ cond (ltb i n) (get_or l i d) d
front_at n l i d = by_place (ltb i n) refl
  where
    by_place : (b : Bool) → ltb i n ≡ b → get_or (take n l) i d ≡ cond b (get_or l i d) d
    by_place true t = get_or-take n l i d (ltb-true i n t)
    by_place false t =
        let past : length (take n l) ≤ i = omega (arith, length-take n l, ltb-false i n t) in
        get_or-eq_default (take n l) d past

module _ (n : ℕ) (records : List Record) (s : List ℕ) where
  pub certificate_at_lem : (i : ℕ) → get_or (certificates_of n records s) i (certificate_of fresh s) ≡ certificate_of (record_of n records i) s
  unfolding certificates_of record_of
  certificate_at_lem i =
      get_or-map (λ r. certificate_of r s) (take n records) i fresh ∙ ap (λ r. certificate_of r s) (front_at n records i fresh)

  pub certificates_length : n ≤ length records → length (certificates_of n records s) ≡ n
  unfolding certificates_of
  certificates_length h = length-map (take n records) (λ r. certificate_of r s) ∙ length-take-le n records h

-- records that were read
module _ (most : ℕ) (s : List ℕ) (count : ℕ) (records : List Record) (e : ℕ) (t : RecordsRead most s count records e) where
  pub certificates_counted : length (certificates_of count records s) ≡ count
  certificates_counted =
      certificates_length count records s (omega (arith, records_length most s count records e t, count-few most s count records e t))

-- ---- on a card

module _ (c : Card) (s : List ℕ) where
  pub root-at : (i : ℕ)
      → get_or (content_of c s).roots i (certificate_of fresh s) ≡ certificate_of (record_of c.roots.count c.roots.records i) s
  unfolding content_of
  root-at = certificate_at_lem c.roots.count c.roots.records s

  pub bundled-at : (i : ℕ)
      → get_or (content_of c s).bundle i (certificate_of fresh s) ≡ certificate_of (record_of c.bundle.count c.bundle.records i) s
  unfolding content_of
  bundled-at = certificate_at_lem c.bundle.count c.bundle.records s

-- ---- on a card that was read

module _ (s : List ℕ) (c : Card) (e : ℕ) (t : CardRead s c e) where
  pub roots_counted : length (content_of c s).roots ≡ c.roots.count
  unfolding content_of
  roots_counted = certificates_counted roots_most s _ _ _ t.roots

  pub roots_few : length (content_of c s).roots ≤ roots_most
  roots_few = omega (arith, roots_counted, count-few roots_most s _ _ _ t.roots)

  pub bundle_counted : length (content_of c s).bundle ≡ c.bundle.count
  unfolding content_of
  bundle_counted = certificates_counted bundle_most s _ _ _ t.bundle

  pub bundle-few : length (content_of c s).bundle ≤ bundle_most
  bundle-few = omega (arith, bundle_counted, count-few bundle_most s _ _ _ t.bundle)

  pub verdicts_are : (content_of c s).verdicts ≡ t.verdicts.list
  unfolding content_of
  verdicts_are = ap list_of t.verdicts.are

  pub root_stands : (i : ℕ) → i < c.roots.count → Stands s (record_of c.roots.count c.roots.records i)
  root_stands = record_stands roots_most s _ _ _ t.roots t.few

  pub bundled-stands : (i : ℕ) → i < c.bundle.count → Stands s (record_of c.bundle.count c.bundle.records i)
  bundled-stands = record_stands bundle_most s _ _ _ t.bundle t.few
