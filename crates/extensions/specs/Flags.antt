-- What the flags of a record say, and the limits of the parts that they announce (docs/CARD-FILE.md, "Record"). A reader must believe this
-- file (docs/MAP.md).
-- Not here: which flag needs which (`paired` of record/specs/Certificate.antt); where the parts stand (Extensions.antt).
use Rattle.std.specs.Prelude.{ℕ, ◌/◌, ◌%◌, Bool, eqb}

-- flag k, a power of two, is set
unfoldable pub flag : ℕ → ℕ → Bool
flag k flags = eqb (flags / k % 2) 1

abbrev pub has_authority_key_id : ℕ → Bool
has_authority_key_id = flag 1

abbrev pub has_authority_serial : ℕ → Bool
has_authority_serial = flag 2

abbrev pub has_subject_key_id : ℕ → Bool
has_subject_key_id = flag 4

-- is a CA
abbrev pub ca : ℕ → Bool
ca = flag 8

abbrev pub has_path_length : ℕ → Bool
has_path_length = flag 16

abbrev pub has_key_usage : ℕ → Bool
has_key_usage = flag 32

-- may sign certificates
abbrev pub may_sign : ℕ → Bool
may_sign = flag 64

-- an unhandled critical extension
abbrev pub unhandled : ℕ → Bool
unhandled = flag 128

-- the most bytes of a key id
abbrev pub key_id_most : ℕ
key_id_most = 64

-- the most bytes of a serial, the authority's and a record's own
abbrev pub serial_most : ℕ
serial_most = 20
