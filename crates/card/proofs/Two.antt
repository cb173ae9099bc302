-- Two places stay two on a card that was read: no two places of its roots, and no two of its bundle, hold the same record (`two_roots`,
-- `two_bundled`). Of any list of records: certificates/proofs/Two.antt; two alike certificates in a search: question/proofs/Alike.antt.
use Prim.Native.Nat.{ℕ, ◌<◌}
use mathlib.Core.Path.{◌≡◌}
use mathlib.Core.List.{List}
use Rattle.places.specs.Limits.{roots_most, bundle_most}
use Rattle.certificates.specs.Certificates.{record_of}
use Rattle.certificates.proofs.Two.{two_places}
use Rattle.card.specs.declared.Card.{Card}
use Rattle.card.proofs.Sections.{CardRead}

module _ (s : List ℕ) (c : Card) (e : ℕ) (t : CardRead s c e) where
  pub two_roots : (i j : ℕ) → i < c.roots.count → j < c.roots.count
      → record_of c.roots.count c.roots.records i ≡ record_of c.roots.count c.roots.records j → i ≡ j
  two_roots = two_places roots_most s _ _ _ t.roots t.few

  pub two_bundled : (i j : ℕ) → i < c.bundle.count → j < c.bundle.count
      → record_of c.bundle.count c.bundle.records i ≡ record_of c.bundle.count c.bundle.records j → i ≡ j
  two_bundled = two_places bundle_most s _ _ _ t.bundle t.few
