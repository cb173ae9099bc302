-- `fill` leaves so many records as the count says, in front of places that are as they were at first, or the first fault. The
-- invariant: the first i places hold the records that were read.
use native.Mathlib.Omega.{arith}
use Rattle.fields.proofs.Asked.{read_ok, read_err, held_asked}
use Rattle.fields.proofs.Filling.{filling_starts, filling_goes_on, filling_stops}
use Rattle.certificates.proofs.Records.{counted_few, counted_byte, list_stops, list_ends}
use Rattle.certificates.proofs.certificates.fill.Goals as goal

pub loop-i-init : goal.loop-i-init
loop-i-init g c =
    rw c.new.ensures
    (filling_starts _ _ _ _ _ _ (omega (arith, counted_few _ _ _ _ _ _ (read_ok c.count_at.ensures c.in_ok-count.was), c.requires)))

pub returns-in_err-list : goal.returns-in_err-list
returns-in_err-list g c =
    let stops = filling_stops _ _ _ _ _ _ _ _ _ c.loop-i.invariant _ (omega arith) (read_err c.record_at.ensures c.in_err-list.was) in
    held_asked _ _ _ c.from_residual-in_err-list.ensures.1
    (list_stops _ _ _ _ _ _ (read_ok c.count_at.ensures c.in_ok-count.was) _ _ stops)

pub loop-i-preserved : goal.loop-i-preserved
loop-i-preserved g c =
    filling_goes_on _ _ _ _ _ _ _ _ _ c.loop-i.invariant _ _ (omega arith) (read_ok c.record_at.ensures c.in_ok-list.was)

pub overflow_cast-list : goal.overflow_cast-list
overflow_cast-list g c =
    let byte = counted_byte _ _ _ _ _ _ (read_ok c.count_at.ensures c.in_ok-count.was) (c.type_inv.file c.args.at).fits in
    omega arith

pub returns : goal.returns
returns g c =
    list_ends _ _ _ _ _ _ (read_ok c.count_at.ensures c.in_ok-count.was) _ _ _ _ c.loop-i.invariant (omega arith)
