-- `whole` has seen one record more.
use mathlib.Core.Path.{ap, ◌∙◌}
use Rattle.std.proofs.Common.{length, below_more}
use Rattle.std.proofs.lemmas.List.{get_or_default}
use Rattle.reply.specs.declared.path.Path.{Path}
use Rattle.stack.specs.Stacked.{blank}
use Rattle.stack.proofs.records.whole.Goals as goal

pub loop-record-preserved : goal.loop-record-preserved
loop-record-preserved c =
    below_more _ _ c.loop-record.invariant
    (ap (λ (p : Path). length p.places) (get_or_default c.args.records.now c.loop-record.record-index blank _ c.loop-record-test.true) ∙ c.full.ensures)
