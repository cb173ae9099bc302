-- `lay` meets its contract. After k turns the paths of the first k depths lie in the room.
use mathlib.Core.Path.{◌≡◌}
use lib.ListN.{take}
use Rattle.reply.specs.Slots.{slot_of}
use Rattle.steps.proofs.Laid.{Lying}
use Rattle.steps.proofs.lay.lay.Given as goal

abbrev pub invariant-loop-k : goal.invariant-loop-k
invariant-loop-k l =
    (l.s ≡ slot_of (take l.k l.end.place)) × Lying l.n l.end.levels l.end.place l.initial.room l.room l.k l.m
