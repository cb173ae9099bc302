-- The slots that the waiting paths of n certificates need (docs/CARD-FILE.md, "Room"). A reader must believe this file (docs/MAP.md).
-- Not here: that they are enough (`after-fits` of proofs/Bound.antt); the printed table (src/lib.rt); a slot's width
-- (reply/specs/Slots.antt).
use Rattle.std.specs.Prelude.{cond, ◌&&◌, ℕ, ◌+◌, ◌-◌, ◌*◌, ◌/◌, leb}
use Rattle.places.specs.Limits.{bundle_most}

-- (n-1)(n-2)/2+1 for as many as a bundle has at most, and 0 for n = 0 and past them
abbrev pub slots_of : ℕ → ℕ
slots_of n = cond (leb 1 n && leb n bundle_most) ((n - 1) * (n - 2) / 2 + 1) 0
