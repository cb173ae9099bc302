-- A verdict and the verdicts are read from left to right (`verdict_forward`, `verdicts_forward`), for card/proofs/Forward.antt. What that
-- means: fields/proofs/Forward.antt.
use Prim.Native.Nat.{ℕ, ◌+◌, ◌*◌}
use lib.Dec.{eqb, leb}
use Rattle.fields.proofs.Forward.{Forward, count, value, judged, judging, then}
use Rattle.fields.proofs.ForwardFields.{byte_forward, big_forward, many_forward}
use Rattle.verdicts.specs.Verdicts.{verdict_p, verdicts_p}

pub verdict_forward : Forward verdict_p
unfolding verdict_p
verdict_forward = then byte_forward (λ v. judged (leb v 1) v value)

pub verdicts_forward : (roots bundle : ℕ) → Forward (verdicts_p roots bundle)
unfolding verdicts_p
verdicts_forward roots bundle =
    then (big_forward 2) (λ n. judging (eqb n ((roots + bundle) * bundle)) (many_forward verdict_forward n) count)
