-- The verdicts' count, which must be the product of issuers and subjects: how large it can be (`few`), and that the verdicts begin within
-- the file (`begins_within`), for `verdicts_at`. Where the verdicts stand: specs/Grid.antt; their bytes judged: Pass.antt.
use Prim.Native.Nat.{ℕ, ◌+◌, ◌*◌, ◌<◌, ◌≤◌}
use mathlib.Core.Path.{◌≡◌}
use mathlib.Core.List.{List}
use native.Mathlib.Omega.{arith}
use native.Mathlib.Nat.{mul-le-mul}
use lib.Dec.{leb}
use lib.ListN.{length}
use borrow.Author.Tests.{leb-true}
use Rattle.fields.specs.Fields.{got, bytes_p, big_p}
use Rattle.fields.proofs.After.{after-got, judged_got, got-is}

-- rows for two counts of a byte each, and columns for one
pub few : (rows columns : ℕ) → rows ≤ 510 → columns < 256 → rows * columns ≤ 130050
few rows columns r c =
    let k : columns ≤ 255 = omega arith in
    mul-le-mul r k

-- the verdicts begin within the file, since their count stands before them
pub begins_within : (s : List ℕ) (at n e : ℕ) → big_p 2 s at ≡ got n e → e ≤ length s
unfolding big_p bytes_p
begins_within s at n e h =
    let bytes = after-got (bytes_p 2 s at) _ h in
    let judged = judged_got (leb (at + 2) (length s)) _ 6 bytes.first in
    let within = got-is (λ _ e. e ≤ length s) judged.1 (leb-true _ _ judged.0) in
    got-is (λ _ e. e ≤ length s) bytes.next within
