-- Two attributes compared in the code's order: OIDs (`oids_differ`), then values as they stand (`values_equal`, `values_differ`), then
-- their normal forms where the flag asks for them (`forms_compared`). For the proof of `same_attribute`; when they are the same: `same_attr`
-- of specs/Same.antt.
use Prim.Native.Nat.{ℕ}
use mathlib.Core.Path.{◌≡◌, sym}
use mathlib.Core.Bool.{Bool, true, false, cond}
use mathlib.Core.List.{List}
use Rattle.text.specs.Bytes.{same}
use Rattle.text.specs.Normal.{normal}
use Rattle.text.proofs.Upstream.{normal-same}
use Rattle.names.specs.Names.{Attr}
use Rattle.same.specs.Same.{same_attr}

-- the bytes that were compared are those of two parts of a file
pub parts_compared : (a b x y : List ℕ) (r : Bool) → x ≡ a → y ≡ b → r ≡ same x y → same a b ≡ r
parts_compared a b x y r p q e = rw (← p, ← q) (sym e)

module _ (normalise : Bool) (a b : Attr) where
  pub oids_differ : same a.oid b.oid ≡ false → false ≡ same_attr normalise a b
  unfolding same_attr
  oids_differ o = rw o

  module _ (o : same a.oid b.oid ≡ true) where
    pub values_equal : same a.value b.value ≡ true → true ≡ same_attr normalise a b
    unfolding same_attr
    values_equal v = rw o (by_flag normalise)
      where
        by_flag : (n : Bool) → true ≡ cond n (same (normal a.value) (normal b.value)) (same a.value b.value)
        by_flag true = sym (normal-same a.value b.value v)
        by_flag false = sym v

    pub forms_compared : (x y : List ℕ) (r : Bool) → normalise ≡ true → x ≡ a.value → y ≡ b.value → r ≡ same (normal x) (normal y)
        → r ≡ same_attr normalise a b
    unfolding same_attr
    forms_compared x y r n p q e = rw (o, n, ← p, ← q) e

    pub values_differ : normalise ≡ false → same a.value b.value ≡ false → false ≡ same_attr normalise a b
    unfolding same_attr
    values_differ n v = rw (o, n, v)
