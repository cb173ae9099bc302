-- The purpose is read from left to right (`purpose_forward`), for card/proofs/Forward.antt. What that means: fields/proofs/Forward.antt.
use lib.Dec.{eqb}
use Rattle.fields.proofs.Forward.{Forward, value, judged, then}
use Rattle.fields.proofs.ForwardFields.{byte_forward}
use Rattle.task.specs.Task.{purpose_p}

pub purpose_forward : Forward purpose_p
unfolding purpose_p
purpose_forward = then byte_forward (λ p. judged (eqb p 0) p value)
