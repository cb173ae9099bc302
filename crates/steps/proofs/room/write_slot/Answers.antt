-- `write_slot` puts the slot's bytes over those that stood there.
use Rattle.std.proofs.Common.{◌≡◌, ◌+◌, ◌-◌, ◌*◌, length, sym, arith, rules}
use Rattle.std.proofs.Math.Seq.{drop-drop}
use Rattle.std.proofs.lemmas.List.Edits.{paste_all}
use Rattle.reply.specs.Slots.{slot_bytes}
use Rattle.steps.proofs.room.write_slot.Goals as goal

pub returns : goal.returns
returns c =
    let a = c.args in
    let long : length a.s ≡ slot_bytes = search rules in
    let k : slot_bytes * a.t + slot_bytes - slot_bytes * a.t ≡ slot_bytes = omega arith in
    rw (c.copy_from_slice.ensures.after, k, drop-drop) (sym (paste_all a.room.now (slot_bytes * a.t) a.s slot_bytes (sym long)))
