-- A big-endian number, byte by byte: what a loop that takes one byte more needs (`big_step`, `big_less`, `big_fits`). For the proof of
-- `big_endian`; the number itself: `big_endian` of specs/Fields.antt.
use Prim.Native.Nat.{ℕ, ◌+◌, ◌*◌, ◌^◌, ◌<◌, ◌≤◌}
use mathlib.Core.Path.{◌≡◌, refl}
use mathlib.Core.List.{List, [], ◌∷◌, ◌++◌}
use native.Mathlib.Numerals.{add-one}
use native.Mathlib.Omega.{arith}
use lib.ListN.{length, get_or, take}
use lib.Seq.{take-suc}
use lib.Pow.{pow-add, pow_mono}
use Rattle.fields.specs.Fields.{big_endian}

big_snoc : (v : ℕ) (l : List ℕ) (b : ℕ) → big_endian v (l ++ (b ∷ [])) ≡ big_endian v l * 256 + b
big_snoc v [] b = refl
big_snoc v (a ∷ l) b = big_snoc (v * 256 + a) l b

pub big_step : (l : List ℕ) (i v : ℕ) → i < length l → v ≡ big_endian 0 (take i l) → v * 256 + get_or l i 0 ≡ big_endian 0 (take (i + 1) l)
big_step l i v h e = rw (add-one, take-suc l i 0, big_snoc, ← e)

pub big_less : (i v b : ℕ) → v < 2 ^ (8 * i) → b < 256 → v * 256 + b < 2 ^ (8 * (i + 1))
big_less i v b h p =
    let e : 8 * (i + 1) ≡ 8 * i + 8 = omega arith in
    rw (e, pow-add) (omega arith)

pub big_fits : (i v b : ℕ) → i < 8 → v < 2 ^ (8 * i) → b < 256 → v * 256 + b < 2 ^ 64
big_fits i v b m h p =
    let l : 8 * (i + 1) ≤ 64 = omega arith in
    omega (arith, big_less i v b h p, pow_mono l)
