-- Verdict's clauses of its relations on names, held against our definitions (specs/Same.antt, specs/Matching.antt): `same_attr` with the
-- flag set (`same_attr_upstream`); its `same_rdn` and `same_dn`, which go place by place, imply ours (`rdn_upstream_lem`, `dn_upstream_lem`); its
-- `forall` at each place of the first of two rows (`places-each`). Its quantifiers over one row are in subtree/proofs/Upstream.antt.
use Prim.Native.Nat.{ℕ, ◌<◌, ◌≤◌}
use mathlib.Core.Path.{◌≡◌, refl}
use mathlib.Core.Bool.{Bool, true, false, ◌&&◌, ◌||◌, false≢true, or-true}
use mathlib.Core.List.{List, [], ◌∷◌}
use mathlib.Core.Logic.{◌↔◌}
use native.Mathlib.Omega.{arith}
use lib.ListN.{length, get_or}
use lib.Dec.{eqb}
use borrow.Author.Count.{below_none}
use Rattle.text.specs.Bytes.{same}
use Rattle.text.specs.Normal.{normal}
use Rattle.text.proofs.Each.{both_true, each_more}
use Rattle.text.proofs.Upstream.{normal-same, same_sym}
use Rattle.names.specs.Names.{Attr}
use Rattle.same.specs.Same.{places, same_rdn, same_dn}
use Rattle.same.specs.Matching.{same_attr, rdn_has_name, matched}

-- equal values have equal normal forms, so that asking for either is asking for the second
pub same_attr_upstream : (a b : Attr)
    → same_attr true a b ≡ same a.oid b.oid && (same a.value b.value || same (normal a.value) (normal b.value))
unfolding same_attr
same_attr_upstream a b = go (same a.value b.value) refl where
  go : (t : Bool) → same a.value b.value ≡ t
      → same a.oid b.oid && same (normal a.value) (normal b.value)
      ≡ same a.oid b.oid && (t || same (normal a.value) (normal b.value))
  go true e = rw (normal-same a.value b.value e)
  go false e = refl

-- ---- place by place

module _ (normalise : Bool) where
  -- Verdict's `same_rdn`: as many attributes, the same place by place
  abbrev pub rdn_upstream : List Attr → List Attr → Bool
  rdn_upstream a b = eqb (length a) (length b) && places (same_attr normalise) a b

  -- Verdict's `same_dn`: as many RDNs, the same place by place
  abbrev pub dn_upstream : List (List Attr) → List (List Attr) → Bool
  dn_upstream a b = eqb (length a) (length b) && places rdn_upstream a b

  pub attr_turned : (a b : Attr) → same_attr normalise a b ≡ same_attr normalise b a
  unfolding same_attr
  attr_turned a b =
      rw (same_sym a.oid b.oid, same_sym a.value b.value, same_sym (normal a.value) (normal b.value))

  -- another attribute in the second takes no match away
  matched-more : (a b : List Attr) (y : Attr) → matched normalise a b ≡ true → matched normalise a (y ∷ b) ≡ true
  matched-more [] b y h = refl
  matched-more (x ∷ a) b y h =
      let both = (both_true (rdn_has_name normalise b x) (matched normalise a b)).0 h in
      rw (both.0, matched-more a b y both.1) (rw (or-true (same_attr normalise y x)))

  places-matched : (a b : List Attr) → places (same_attr normalise) a b ≡ true → matched normalise a b ≡ true
  unfolding places
  places-matched [] b h = refl
  places-matched (x ∷ a) [] h = absurd (false≢true h)
  places-matched (x ∷ a) (y ∷ b) h =
      let both = (both_true (same_attr normalise x y) (places (same_attr normalise) a b)).0 h in
      rw (← attr_turned x y, both.0, matched-more a b y (places-matched a b both.1))

  pub rdn_upstream_lem : (a b : List Attr) → rdn_upstream a b ≡ true → same_rdn normalise a b ≡ true
  unfolding same_rdn
  rdn_upstream_lem a b h =
      let both = (both_true (eqb (length a) (length b)) (places (same_attr normalise) a b)).0 h in
      rw both.0 (places-matched a b both.1)

  places_weaker : {A : Type 0} (q r : A → A → Bool) → ((x y : A) → q x y ≡ true → r x y ≡ true) → (a b : List A) → places q a b ≡ true
      → places r a b ≡ true
  unfolding places
  places_weaker q r w [] b h = refl
  places_weaker q r w (x ∷ a) [] h = h
  places_weaker q r w (x ∷ a) (y ∷ b) h =
      let both = (both_true (q x y) (places q a b)).0 h in
      rw (w x y both.0) (places_weaker q r w a b both.1)

  pub dn_upstream_lem : (a b : List (List Attr)) → dn_upstream a b ≡ true → same_dn normalise a b ≡ true
  unfolding same_dn
  dn_upstream_lem a b h =
      let both = (both_true (eqb (length a) (length b)) (places rdn_upstream a b)).0 h in
      rw both.0 (places_weaker rdn_upstream (same_rdn normalise) rdn_upstream_lem a b both.1)

-- ---- places, what stands past a row's end being d

module _ {A : Type 0} (d : A) where
  pub places-each : (q : A → A → Bool) (a b : List A)
      → (places q a b ≡ true) ↔ ((length a ≤ length b) × ((i : ℕ) → i < length a → q (get_or a i d) (get_or b i d) ≡ true))
  unfolding places
  places-each q [] b = (λ _. (omega arith, below_none (λ i. q (get_or [] i d) (get_or b i d) ≡ true)), λ _. refl)
  places-each q (x ∷ a) [] = (λ e. absurd (false≢true e), λ h. absurd (omega (arith, h.0)))
  places-each q (x ∷ a) (y ∷ b) =
      let both = both_true (q x y) (places q a b) in
      let rest = places-each q a b in
      let more = each_more (λ i. q (get_or (x ∷ a) i d) (get_or (y ∷ b) i d) ≡ true) (length a) in (
        λ e. let h = rest.0 (both.0 e).1 in (omega (arith, h.0), more.0 ((both.0 e).0, h.1)),
        λ h. let k = more.1 h.1 in both.1 (k.0, rest.1 (omega (arith, h.0), k.1)),
      )
