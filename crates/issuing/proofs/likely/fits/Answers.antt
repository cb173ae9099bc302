-- `fits` asks the key identifiers first, then the names.
use Rattle.std.proofs.Common.{sym, ◌∙◌}
use Rattle.issuing.proofs.Fits.{after_yes, after_no}
use Rattle.issuing.specs.Records.{fits_at}
use Rattle.issuing.proofs.likely.fits.Goals as goal

pub returns-then-keys_fit : goal.returns-then-keys_fit
unfolding fits_at
returns-then-keys_fit c =
    c.same_names.ensures ∙ rw c.subject_name.ensures (after_yes _ _ (sym c.keys_fit.ensures ∙ c.if-keys_fit.true))

pub returns-else-keys_fit : goal.returns-else-keys_fit
unfolding fits_at
returns-else-keys_fit c = c.keys_fit.ensures ∙ after_no _ _ (sym c.keys_fit.ensures ∙ c.if-keys_fit.false)
