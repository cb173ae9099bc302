-- The laws of an address held to a range, as `agrees` (`masked_zip`) and the returns of `ip_addr_in_range` (`outside`, `inside`) need them.
-- Definitions: specs/Address.antt; upstream's own clause: Upstream.antt.
use Prim.Native.Nat.{ℕ, ◌*◌}
use mathlib.Core.Path.{◌≡◌, refl}
use mathlib.Core.Bool.{Bool, true, false, ◌&&◌, ◌||◌}
use mathlib.Core.List.{List, [], ◌∷◌}
use mathlib.Core.Logic.{◌⊎◌, ⊎_elim}
use native.Mathlib.Omega.{arith}
use lib.ListN.{length, take, drop}
use lib.Dec.{eqb}
use lib.Bits.{bit_and}
use borrow.Author.Tests.{eq-eqb, eqb-true, eqb-false}
use Rattle.std.specs.List.{list_all, zip}
use Rattle.keys.specs.Address.{masked, holds, ip_addr_in_range}

-- ---- net and address under a mask, asked of the bytes that stand at one place

pub masked_zip : (net mask addr : List ℕ) → list_all (λ p. eqb (bit_and p.0.0 p.0.1) (bit_and p.1 p.0.1)) (zip (zip net mask) addr) ≡ masked net mask addr
unfolding masked
masked_zip [] mask addr = refl
masked_zip (n ∷ net) [] addr = refl
masked_zip (n ∷ net) (m ∷ mask) [] = refl
masked_zip (n ∷ net) (m ∷ mask) (a ∷ addr) = rw (masked_zip net mask addr)

-- ---- a range of either kind

module _ (width : ℕ) (range addr : List ℕ) where
  not_held : (length range ≡ 2 * width → length addr ≡ width → ⊥) → holds width range addr ≡ false
  unfolding holds
  not_held n = go (eqb (length range) (2 * width)) (eqb (length addr) width) refl refl where
    go : (t u : Bool) → eqb (length range) (2 * width) ≡ t → eqb (length addr) width ≡ u → t && u && masked (take width range) (drop width range) addr ≡ false
    go true true p q = absurd (n (eqb-true _ _ p) (eqb-true _ _ q))
    go true false p q = refl
    go false u p q = refl

  held : length range ≡ 2 * width → length addr ≡ width → holds width range addr ≡ masked (take width range) (drop width range) addr
  unfolding holds
  held r a = rw (eq-eqb _ _ r, eq-eqb _ _ a)

  -- a range of twice the address's bytes: the address is of this kind or not
  by_kind : length range ≡ 2 * length addr → holds width range addr ≡ eqb (length addr) width && masked (take (length addr) range) (drop (length addr) range) addr
  by_kind r = go (eqb (length addr) width) refl where
    go : (t : Bool) → eqb (length addr) width ≡ t → holds width range addr ≡ t && masked (take (length addr) range) (drop (length addr) range) addr
    go true e =
        let a : length addr ≡ width = eqb-true _ _ e in
        let r' : length range ≡ 2 * width = omega arith in
        rw a (held r' a)
    go false e = not_held (λ _. eqb-false _ _ e)

module _ (range addr : List ℕ) where
  pub outside : (length range ≡ 2 * 4 → length addr ≡ 4 → ⊥) → (length range ≡ 2 * 16 → length addr ≡ 16 → ⊥)
      → ip_addr_in_range range addr ≡ false
  unfolding ip_addr_in_range
  outside n m = rw (not_held 4 range addr n, not_held 16 range addr m)

  pub inside : length range ≡ 2 * length addr → (length addr ≡ 4) ⊎ (length addr ≡ 16)
      → ip_addr_in_range range addr ≡ masked (take (length addr) range) (drop (length addr) range) addr
  unfolding ip_addr_in_range
  inside r k = rw (by_kind 4 range addr r, by_kind 16 range addr r) (⊎_elim (λ a. rw (eq-eqb (length addr) 4 a) (one (eqb (length addr) 16) _)) (λ a. rw (eq-eqb (length addr) 16 a) (other (eqb (length addr) 4) _)) k) where
    one : (q m : Bool) → m || (q && m) ≡ m
    one q true = refl
    one true false = refl
    one false false = refl

    other : (p m : Bool) → (p && m) || m ≡ m
    other true true = refl
    other true false = refl
    other false m = refl
