-- Verdict's clauses of `ip_addr_in_range`, for either kind of address a quantifier over places (`in_range_upstream`), and of
-- `check_auth_key_id`, a nested match (`auth_key_id_upstream`), given by our definitions (specs/Address.antt, specs/AuthKeyId.antt). Where
-- both differ from RFC 5280: docs/DIFFERENCES.md, F4 and F5.
use Prim.Native.Nat.{ℕ, ◌+◌, ◌*◌, ◌<◌}
use mathlib.Core.Path.{◌≡◌, refl}
use mathlib.Core.Bool.{Bool, true, ◌&&◌}
use mathlib.Core.List.{List, [], ◌∷◌}
use mathlib.Core.Logic.Iff
use mathlib.Core.Logic.{◌↔◌}
use mathlib.Core.Option.{Option, none, some}
use native.Mathlib.Nat.{add_comm}
use native.Mathlib.Omega.{arith}
use lib.ListN.{length, get_or, take, drop, length-drop}
use lib.Seq.{length-take-le, get_or-take, get_or-drop}
use lib.Dec.{eqb}
use lib.Bits.{bit_and}
use borrow.Author.Count.{below_none}
use borrow.Author.Tests.{eq-eqb, eqb-true}
use Rattle.text.specs.Bytes.{same}
use Rattle.text.proofs.Each.{both_true, each_more}
use Rattle.text.proofs.Upstream.{same_sym}
use Rattle.keys.specs.Address.{masked, holds}
use Rattle.keys.specs.AuthKeyId.{agree, check_auth_key_id}

-- ---- an address in a range

-- net and address agree under the mask at this place
abbrev MaskedAt : List ℕ → List ℕ → List ℕ → ℕ → Type 0
MaskedAt net mask addr i = bit_and (get_or net i 0) (get_or mask i 0) ≡ bit_and (get_or addr i 0) (get_or mask i 0)

masked-each : (net mask addr : List ℕ) → length mask ≡ length net → length addr ≡ length net
    → (masked net mask addr ≡ true) ↔ ((i : ℕ) → i < length net → MaskedAt net mask addr i)
unfolding masked
masked-each [] mask addr p q = (λ _. below_none (MaskedAt [] mask addr), λ _. refl)
masked-each (n ∷ net) [] addr p q = absurd (omega arith)
masked-each (n ∷ net) (m ∷ mask) [] p q = absurd (omega arith)
masked-each (n ∷ net) (m ∷ mask) (a ∷ addr) p q =
    Iff.trans (both_true (eqb (bit_and n m) (bit_and a m)) (masked net mask addr))
    (Iff.trans (Iff.and (eqb-true _ _, eq-eqb _ _) (masked-each net mask addr (omega arith) (omega arith)))
    (each_more (MaskedAt (n ∷ net) (m ∷ mask) (a ∷ addr)) (length net)))

-- `bv_and_u8(range[i], range[i + 4]) == bv_and_u8(addr[i], range[i + 4])`, with the width for 4
abbrev pub AgreeAt : ℕ → List ℕ → List ℕ → ℕ → Type 0
AgreeAt width range addr i = bit_and (get_or range i 0) (get_or range (i + width) 0) ≡ bit_and (get_or addr i 0) (get_or range (i + width) 0)

-- one of the two parts of `ip_addr_in_range`, by the width of an address
pub record InRange (width : ℕ) (range addr : List ℕ) : Type 0 where
  pub range_bytes : length range ≡ 2 * width
  pub addr_bytes : length addr ≡ width
  pub agree-each : (i : ℕ) → i < width → AgreeAt width range addr i

module _ (width : ℕ) (range addr : List ℕ) where
  -- the net is the range's first half and the mask its second
  halves_each : length range ≡ 2 * width → length addr ≡ width
      → (masked (take width range) (drop width range) addr ≡ true) ↔ ((i : ℕ) → i < width → AgreeAt width range addr i)
  halves_each r a =
      let n : length (take width range) ≡ width = length-take-le width range (omega arith) in
      let m : length (drop width range) ≡ width = simp length-drop (omega arith) in
      let k = masked-each (take width range) (drop width range) addr (omega arith) (omega arith) in (
        λ e i l. rw (get_or-take, get_or-drop, add_comm width i) at (k.0 e i (omega arith)),
        λ h. k.1 (λ i l. let l' : i < width = omega arith in rw (get_or-take, get_or-drop, add_comm width i) (h i l')),
      )

  pub in_range_upstream : (holds width range addr ≡ true) ↔ InRange width range addr
  unfolding holds
  in_range_upstream = (
    λ e.
        let h = (both_true (eqb (length range) (2 * width) && eqb (length addr) width) (masked (take width range) (drop width range) addr)).0 e in
        let k = (both_true (eqb (length range) (2 * width)) (eqb (length addr) width)).0 h.0 in
        let r = eqb-true _ _ k.0 in
        let a = eqb-true _ _ k.1 in
        record { range_bytes = r; addr_bytes = a; agree-each = (halves_each r a).0 h.1 },
    λ h. rw (eq-eqb _ _ h.range_bytes, eq-eqb _ _ h.addr_bytes) ((halves_each h.range_bytes h.addr_bytes).1 h.agree-each),
  )

-- ---- an issuer that a subject names

-- what `check_auth_key_id` reads of `AuthorityKeyIdentifier`
pub record AuthorityKeyIdentifier : Type 0 where
  pub key_id : Option (List ℕ)
  pub serial : Option (List ℕ)

-- "Subject's AKID matches issuer's SKID if both exist"
abbrev pub upstream_key_id : Option (List ℕ) → Option (List ℕ) → Bool
upstream_key_id (some skid) (some akid) = same skid akid
upstream_key_id (some skid) none = true
upstream_key_id none akid = true

-- "Subject's AKID serial matches issuer's serial if both exist"
abbrev pub upstream_serial : Option (List ℕ) → List ℕ → Bool
upstream_serial (some aserial) serial = same aserial serial
upstream_serial none serial = true

-- the subject's extension against the issuer's subject key id and serial
abbrev pub upstream_check : Option AuthorityKeyIdentifier → Option (List ℕ) → List ℕ → Bool
upstream_check (some e) skid serial = upstream_key_id skid e.key_id && upstream_serial e.serial serial
upstream_check none skid serial = true

-- the extension's two parts, neither where there is no extension
abbrev pub key_id_of : Option AuthorityKeyIdentifier → Option (List ℕ)
key_id_of (some e) = e.key_id
key_id_of none = none

abbrev pub serial_of : Option AuthorityKeyIdentifier → Option (List ℕ)
serial_of (some e) = e.serial
serial_of none = none

key_ids : (skid akid : Option (List ℕ)) → upstream_key_id skid akid ≡ agree akid skid
key_ids (some skid) (some akid) = same_sym skid akid
key_ids (some skid) none = refl
key_ids none (some akid) = refl
key_ids none none = refl

serials : (aserial : Option (List ℕ)) (serial : List ℕ) → upstream_serial aserial serial ≡ agree aserial (some serial)
serials (some aserial) serial = refl
serials none serial = refl

pub auth_key_id_upstream : (e : Option AuthorityKeyIdentifier) (skid : Option (List ℕ)) (serial : List ℕ)
    → upstream_check e skid serial ≡ check_auth_key_id (key_id_of e) (serial_of e) skid serial
unfolding check_auth_key_id
auth_key_id_upstream (some e) skid serial = rw (key_ids, serials)
auth_key_id_upstream none skid serial = refl
