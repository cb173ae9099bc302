-- `lay` meets its contract. After k turns the paths of the first k depths lie in the room.
use mathlib.Core.Path.{◌≡◌, refl, ap, ◌∙◌, sym}
use Prim.Native.Nat.{◌+◌, ◌*◌, ◌≤◌, ◌<◌}
use native.Mathlib.Omega.{arith}
use borrow.Author.Rules.{rules}
use lib.ListN.{length, take}
use lib.Seq.{length-take-le}
use Rattle.places.specs.Limits.{bundle_most}
use Rattle.steps.specs.Parts.{path_of, offered, level_at}
use Rattle.reply.specs.Slots.{slot_bytes, padded, slot_of}
use Rattle.steps.proofs.Laid.{slot_more, slot_path, lying_none, lying_more, room-more}
use Rattle.steps.proofs.lay.lay.Goals as goal

pub loop-k-init : goal.loop-k-init
unfolding slot_of padded
loop-k-init c = (refl, lying_none _ _ _ _)

pub lay_row-m-requires : goal.lay_row-m-requires
lay_row-m-requires c =
    let l = c.loop-k in
    let path : path_of l.s ≡ take l.k c.args.end.place = slot_path l.s (take l.k c.args.end.place) l.invariant.0 in
    let h : length c.args.end.place ≡ bundle_most = search rules in
    let b : l.k < bundle_most = omega arith in
    let z : length (take l.k c.args.end.place) ≡ l.k = length-take-le l.k c.args.end.place (omega arith) in
    let short : length (path_of l.s) < bundle_most = rw path (omega arith) in
    let fits : slot_bytes * (l.m + length (offered c.args.n (level_at c.args.end.levels l.k).ahead (path_of l.s))) ≤ length l.room =
    rw path (room-more c.args.n c.args.end.levels c.args.end.place l.invariant.1 b h c.args.end.depths (omega arith) c.requires.depths_in_bounds) in
    record { s_value = (l.invariant.0 ∙ ap slot_of (sym path), short); s_in_bounds = fits }

pub loop-k-preserved : goal.loop-k-preserved
loop-k-preserved c =
    let r = c.lay_row-m in
    let l = c.loop-k in
    let path : path_of l.s ≡ take l.k c.args.end.place = slot_path l.s (take l.k c.args.end.place) l.invariant.0 in
    let h : length c.args.end.place ≡ bundle_most = search rules in
    let b : l.k < bundle_most = omega arith in (
      slot_more c.args.end.place l.s l.k b h l.invariant.0,
      lying_more c.args.n c.args.end.levels c.args.end.place l.invariant.1 b h
          (rw path at r.ensures.count) (rw path at r.ensures.room) r.auto.room,
    )

pub shape_of-room : goal.shape_of-room
shape_of-room c = c.loop-k.invariant.1.long

pub returns-clause-count : goal.returns-clause-count
returns-clause-count c =
    let l = c.loop-k in
    let e : l.k ≡ c.args.end.depths = omega arith in (rw (← e) l.invariant.1.size)

pub returns-clause-room : goal.returns-clause-room
returns-clause-room c =
    let l = c.loop-k in
    let e : l.k ≡ c.args.end.depths = omega arith in (rw (← e) l.invariant.1.held)
