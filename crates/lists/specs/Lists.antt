-- What the lists of a record hold: usages and DNS names, each within its limit (docs/CARD-FILE.md, "Record"). A reader must believe this
-- file (docs/MAP.md).
-- Not here: the lists with their counts (`certificate_p` of record/specs/Certificate.antt); where they stand (Runs.antt).
use Rattle.std.specs.Prelude.{ℕ, cond, List, leb}
use Rattle.fields.specs.Fields.{Parsed, got, stop, after, byte_p, string_p}

-- ---- limits

-- the last usage, and the most of them
abbrev pub usage_most : ℕ
usage_most = 7

abbrev pub usages_most : ℕ
usages_most = 8

-- the most bytes of a DNS name, and the most of them
abbrev pub dns_name_most : ℕ
dns_name_most = 253

abbrev pub dns_names_most : ℕ
dns_names_most = 32

-- ---- what stands at a place

-- a usage: a byte 0..7, judged when it is read
unfoldable pub usage_p : List ℕ → ℕ → Parsed ℕ
usage_p s at = after (byte_p s at) (λ u e. cond (leb u usage_most) (got u e) (stop 8))

-- a DNS name: 1..253 bytes
unfoldable pub dns_name_p : List ℕ → ℕ → Parsed (List ℕ)
dns_name_p = string_p 1 dns_name_most
