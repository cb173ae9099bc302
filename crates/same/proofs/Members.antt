-- An RDN each of whose attributes is looked for in another (`sought_first`, `sought_stops`, `sought_none`), and RDNs of one attribute each
-- (`one_each`). For `matches_walk` and `rdn_walk`; one attribute looked for: `any_standing` of Standing.antt.
use Prim.Native.Nat.{ℕ, suc}
use mathlib.Core.Path.{◌≡◌, refl}
use mathlib.Core.Bool.{Bool, true, false, cond, or-false, and-true}
use mathlib.Core.List.{List, [], ◌∷◌}
use Rattle.std.specs.Prelude.{Some, None}
use Rattle.fields.specs.Fields.{Parsed, got, stop, after, many}
use Rattle.names.specs.Names.{Attr, attr_p}
use Rattle.same.specs.Same.{same_attr}
use Rattle.same.specs.Matching.{rdn_has_name, matched}
use Rattle.same.specs.Walks.{walk}
use Rattle.same.proofs.Upstream.{attr_turned}

module _ (normalise : Bool) where
  -- ---- a row whose attributes are sought in another, and a loop that counts it down

  module _ (row : List Attr) (right : ℕ) (s : List ℕ) where
    first_sought : (x : Attr) (t : Bool) → rdn_has_name normalise row x ≡ t → (l : Parsed (List Attr))
        → walk (matched normalise) (after l (λ k e. got (x ∷ k) e)) (got row right)
        ≡ cond t (walk (matched normalise) l (got row right)) None
    first_sought x true h (got l e) = rw h
    first_sought x true h (stop r) = refl
    first_sought x false h (got l e) = rw h
    first_sought x false h (stop r) = refl

    pub sought_none : (n at : ℕ) → n ≡ 0 → walk (matched normalise) (many attr_p n s at) (got row right) ≡ Some (at, right)
    unfolding many
    sought_none n at h = rw h

    pub sought_first : (n m at : ℕ) → n ≡ suc m → (x : Attr) (e : ℕ) → attr_p s at ≡ got x e → (t : Bool) → rdn_has_name normalise row x ≡ t
        → walk (matched normalise) (many attr_p n s at) (got row right)
        ≡ cond t (walk (matched normalise) (many attr_p m s e) (got row right)) None
    unfolding many
    sought_first n m at h x e k t i = rw (h, k) (first_sought x t i (many attr_p m s e))

    pub sought_stops : (n m at : ℕ) → n ≡ suc m → (r : ℕ) → attr_p s at ≡ stop r
        → walk (matched normalise) (many attr_p n s at) (got row right) ≡ None
    unfolding many
    sought_stops n m at h r k = rw (h, k)

  -- ---- rows of one attribute each, which is sought in one place

  pub one_each : (s t : List ℕ) (n at bt : ℕ) → n ≡ 1
      → walk (same_attr normalise) (attr_p s at) (attr_p t bt) ≡ walk (matched normalise) (many attr_p n s at) (many attr_p n t bt)
  unfolding many
  one_each s t n at bt h = rw h (go (attr_p s at) (attr_p t bt))
    where
      same_one : (a b : Attr) → same_attr normalise a b ≡ matched normalise (a ∷ []) (b ∷ [])
      same_one a b = rw (attr_turned normalise a b, or-false (same_attr normalise b a), and-true (same_attr normalise b a))

      go : (x y : Parsed Attr)
          → walk (same_attr normalise) x y ≡ walk (matched normalise) (after x (λ a e. got (a ∷ []) e)) (after y (λ b f. got (b ∷ []) f))
      go (got a e) (got b f) = rw (same_one a b)
      go (got a e) (stop r) = refl
      go (stop r) y = refl
