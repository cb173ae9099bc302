-- `begin_over` leads to what the question is answered: a search on its own terms, or what stands in its way.
use Rattle.std.proofs.Common.{◌*◌, sym, ◌∙◌, arith}
use Rattle.reply.specs.Slots.{slot_bytes}
use Rattle.reply.proofs.Faults.{Clear, clear, lacking_some}
use Rattle.std.proofs.lemmas.Result.{err_from_is_err_and}
use Rattle.stack.proofs.Ran.{fault_unbegun, over_leads}
use Rattle.stack.proofs.begin.begin_over.Goals as goal

pub returns-in_err-room_for-clause-err : goal.returns-in_err-room_for-clause-err
returns-in_err-room_for-clause-err c =
    let a = c.args in
    let why = err_from_is_err_and c.from_residual.result c.from_residual.ensures.1 in
    let some = lacking_some c.in_err-room_for.field-0.0 in
    rw why.1 (fault_unbegun a.question a.count a.paused (why.2 ∙ c.in_err-room_for.ensures) (omega (arith, why.2, some)))

pub overflow_sub-n : goal.overflow_sub-n
overflow_sub-n c = let k : Clear c.args.question.size (slot_bytes * c.args.count) = clear _ _ _ (sym c.in_ok-room_for.ensures) in k.some

pub returns-clause-ok : goal.returns-clause-ok
returns-clause-ok c =
    let a = c.args in
    rw (c.unwrap_or.ensures, c.is_some.ensures) (over_leads a.question a.count a.paused (clear _ _ _ (sym c.in_ok-room_for.ensures)) _ c.seats_in.ensures)
