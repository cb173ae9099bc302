-- When an address lies in a range (upstream's `ip_addr_in_range`; docs/CARD-FILE.md, "Keys and addresses"; RFC 5280, 4.2.1.10, but with any
-- mask: docs/DIFFERENCES.md, F5). No rule of the policy asks for it. Upstream's clause: proofs/Upstream.antt.
use Rattle.std.specs.Prelude.{ℕ, ◌*◌, Bool, true, ◌&&◌, ◌||◌, List, [], ◌∷◌, length, take, drop, eqb}
use Rattle.std.specs.Int.Bits.{bit_and}

-- net and address agree, byte by byte, wherever the mask has a one
unfoldable pub masked : List ℕ → List ℕ → List ℕ → Bool
masked [] mask addr = true
masked (n ∷ net) [] addr = true
masked (n ∷ net) (m ∷ mask) [] = true
masked (n ∷ net) (m ∷ mask) (a ∷ addr) = eqb (bit_and n m) (bit_and a m) && masked net mask addr

-- an address of this width, and a range of a net and a mask of it
unfoldable pub holds : ℕ → List ℕ → List ℕ → Bool
holds width range addr = eqb (length range) (2 * width) && eqb (length addr) width && masked (take width range) (drop width range) addr

-- an address of 4 bytes and a range of 8, or of 16 and 32
unfoldable pub ip_addr_in_range : List ℕ → List ℕ → Bool
ip_addr_in_range range addr = holds 4 range addr || holds 16 range addr
