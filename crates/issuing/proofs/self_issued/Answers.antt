-- `self_issued` compares the issuer name with the subject name.
use Rattle.issuing.proofs.Fits.{self_names}
use Rattle.issuing.proofs.self_issued.Goals as goal

pub returns : goal.returns
returns c =
    self_names c.args.file.now c.args.cert c.issuer_name-issuer.ensures c.subject_name-subject.ensures c.same_names.ensures
