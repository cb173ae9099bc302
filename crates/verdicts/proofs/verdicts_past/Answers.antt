-- `verdicts_past` ends past n verdicts where so many of them are there and none is above yes, or says the first fault.
use mathlib.Core.Path.{sym, ap, ◌∙◌}
use native.Mathlib.Omega.{arith}
use Rattle.verdicts.specs.Parts.{any_above_yes}
use Rattle.verdicts.proofs.Pass.{rows_bad, rows_cut, rows-got}
use Rattle.verdicts.proofs.verdicts_past.Goals as goal

pub returns-then-any_above_yes : goal.returns-then-any_above_yes
returns-then-any_above_yes c =
    rows_bad _ (λ i. (c.type_inv.file i).fits) _ _ c.requires
    (sym (c.any_above_yes.ensures ∙ ap any_above_yes c.front.ensures) ∙ c.if-any_above_yes.true)

pub returns-then-there-n : goal.returns-then-there-n
returns-then-there-n c =
    rows_cut _ (λ i. (c.type_inv.file i).fits) _ _ c.requires (omega arith)
    (sym (c.any_above_yes.ensures ∙ ap any_above_yes c.front.ensures) ∙ c.if-any_above_yes.false)

pub returns : goal.returns
returns c =
    rows-got _ (λ i. (c.type_inv.file i).fits) _ _ (omega arith)
    (sym (c.any_above_yes.ensures ∙ ap any_above_yes c.front.ensures) ∙ c.if-any_above_yes.false)
