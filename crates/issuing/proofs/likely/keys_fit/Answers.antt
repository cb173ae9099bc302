-- `keys_fit` hands over the parts that the claim and the issuer's record have.
use Rattle.std.proofs.Common.{◌∙◌}
use Rattle.record.specs.Parts.{certificate_by, certificate_of}
use Rattle.issuing.proofs.Fits.{claimed-present}
use Rattle.issuing.specs.Records.{keys_fit_at}
use Rattle.issuing.proofs.likely.keys_fit.Goals as goal

pub returns : goal.returns
unfolding keys_fit_at certificate_of certificate_by
returns c =
    c.check_auth_key_id.ensures
    ∙ rw (
      c.part_if.ensures,
      c.part_if-2.ensures,
      c.part_if-3.ensures,
      c.then_some-key_id.ensures,
      claimed-present,
      c.has_flag.ensures,
      c.part.ensures,
      c.strings-strings.ensures,
      c.key_ids-own.ensures,
      c.flags-flags.ensures,
    )
