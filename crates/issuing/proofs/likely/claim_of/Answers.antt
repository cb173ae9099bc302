-- `claim_of` puts together what the subject's flags, key ids and issuer name are.
use Rattle.issuing.specs.Records.{claim_of}
use Rattle.issuing.proofs.likely.claim_of.Goals as goal

pub returns : goal.returns
unfolding claim_of
returns c =
    rw (c.issuer_name.ensures, c.then_some.ensures, c.then_some-2.ensures, c.has_flag.ensures, c.has_flag-2.ensures, c.key_ids-ids.ensures, c.flags-flags.ensures)
