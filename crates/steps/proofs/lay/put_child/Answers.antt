-- `put_child` puts a path's child in a slot.
use borrow.Author.Rules.{rules}
use mathlib.Core.Path.{◌≡◌}
use Prim.Native.Nat.{◌+◌, ◌*◌, ◌<◌}
use native.Mathlib.Omega.{arith}
use lib.ListN.{length, get_or, length-set}
use Rattle.reply.specs.Slots.{slot_bytes}
use Rattle.reply.proofs.Room.{paste_child}
use Rattle.steps.proofs.lay.put_child.Goals as goal

pub bounds-room-t-2 : goal.bounds-room-t-2
bounds-room-t-2 c =
    simp length-set (omega (arith, c.write_slot.auto.room, c.requires.0))

pub returns : goal.returns
returns c =
    let a = c.args in
    let e : length a.s ≡ slot_bytes = search rules in
    let b : get_or a.s 0 0 + 1 < slot_bytes = omega (arith, c.requires.1) in
    paste_child slot_bytes a.room.now c.write_slot.new.room a.s (slot_bytes * a.t) (get_or a.s 0 0) a.i (get_or a.s 0 0 + 1) c.requires.0 e b c.write_slot.ensures
