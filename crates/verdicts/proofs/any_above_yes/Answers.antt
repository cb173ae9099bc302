-- `any_above_yes` meets its contract: what it folds over the bytes is whether one was above yes so far.
use mathlib.Core.Path.{◌∙◌}
use mathlib.Core.Bool.{◌||◌}
use lib.Dec.{ltb}
use borrow.Author.Rules.{rules}
use Rattle.std.proofs.lemmas.Iterator.{YieldsList-from_slice}
use Rattle.std.proofs.lemmas.Iterator.Consumers.{fold_from_yields_List}
use Rattle.verdicts.proofs.Pass.{folded}
use Rattle.verdicts.proofs.any_above_yes.Goals as goal

pub returns : goal.returns
returns c =
    let xs = c.args.bytes.now in
    fold_from_yields_List _ (λ bad b. bad || ltb 1 b) _ _ c.fold.ensures.ran (YieldsList-from_slice xs cc) (λ a x b q k. search rules) ∙ folded xs
