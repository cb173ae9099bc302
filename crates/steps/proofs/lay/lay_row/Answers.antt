-- `lay_row` meets its contract. After i turns the children by the row's places below i lie above slot m.
use mathlib.Core.Path.{◌≡◌, refl, ap, ◌∙◌, sym}
use mathlib.Core.Bool.{true}
use mathlib.Core.List.{List}
use Prim.Native.Nat.{ℕ, ◌+◌, ◌*◌, ◌≤◌, ◌<◌}
use native.Mathlib.Omega.{arith}
use lib.Seq.{paste}
use lib.ListN.{length, take-append-drop}
use Rattle.order.specs.Walk.{snoc}
use Rattle.rows.specs.Rows.{has}
use Rattle.steps.specs.Parts.{path_of, offered}
use Rattle.reply.specs.Laid.{flat}
use Rattle.reply.specs.Slots.{slot_bytes, slot_of}
use Rattle.steps.proofs.Laid.{offered_yes, offered_no, child_below, child_room}
use Rattle.steps.proofs.Stack.{slot_len, slot_next}
use Rattle.steps.proofs.lay.lay_row.Goals as goal
use Rattle.steps.proofs.lay.lay_row.Goals.{Then-has, then-has, else-has}

-- in the branch: the place is in the row, so there is a slot for the child
fewer : (c : Then-has) → length (offered c.loop-i.i c.args.row (path_of c.args.s)) < length (offered c.args.n c.args.row (path_of c.args.s))
fewer c = child_below c.args.row (path_of c.args.s) c.args.n c.requires.s_value.1 c.loop-i.i (omega arith) (sym c.has.ensures ∙ c.if-has.true)

pub loop-i-init : goal.loop-i-init
unfolding offered flat
loop-i-init c = (omega arith, sym (take-append-drop (slot_bytes * c.args.m) c.args.room.now), refl)

pub put_child-requires : goal.put_child-requires
put_child-requires c =
    let l = c.loop-i in
    let g : slot_bytes * l.top + slot_bytes ≤ length l.room = omega (arith, fewer (goal.at.put_child-requires c).Then-has, l.invariant, c.requires) in
    (g, omega (arith, slot_len c.args.s c.requires.s_value.0, c.requires.s_value.1))

pub overflow_add-top : goal.overflow_add-top
overflow_add-top c =
    omega (arith, fewer (goal.at.overflow_add-top c).Then-has, c.requires)

pub loop-i-preserved : goal.loop-i-preserved
loop-i-preserved c =
    let l = c.loop-i in
    let a = c.args in
    elim c.if-has.branch [
      | then-has w ↦
          (let y : has l.i a.row ≡ true = sym c.has.ensures ∙ w.if-has.true in
          let r : c.if-has.room ≡ paste l.room (slot_bytes * l.top) (slot_of (snoc (path_of a.s) l.i)) slot_bytes =
          w.room-is ∙ w.put_child.ensures ∙ ap (λ (k : List ℕ). paste l.room (slot_bytes * l.top) k slot_bytes) (slot_next a.s l.i c.requires.s_value.0 c.requires.s_value.1) in (
            w.top-is ∙ omega (arith, l.invariant.0, ap length (offered_yes a.row (path_of a.s) l.i y)),
            r ∙ rw w.top-is (child_room a.row (path_of a.s) a.n c.requires.s_value.1 l.i (omega arith) y a.room.now l.room a.m l.top c.requires.s_in_bounds l.invariant.0 l.invariant.1),
            ap length w.room-is ∙ w.put_child.auto.room ∙ l.invariant.2,
          ))
      | else-has w ↦
          (let e = offered_no a.row (path_of a.s) l.i (sym c.has.ensures ∙ w.if-has.false) in
          (w.top-is ∙ rw e l.invariant.0, w.room-is ∙ rw (e, w.top-is) l.invariant.1, ap length w.room-is ∙ l.invariant.2))
    ]

pub shape_of-room : goal.shape_of-room
shape_of-room c = c.loop-i.invariant.2

pub returns-clause-count : goal.returns-clause-count
returns-clause-count c =
    let l = c.loop-i in
    let e : l.i ≡ c.args.n = omega arith in (rw (← e) l.invariant.0)

pub returns-clause-room : goal.returns-clause-room
returns-clause-room c =
    let l = c.loop-i in
    let e : l.i ≡ c.args.n = omega arith in (rw (← e) l.invariant.1)
