-- A usage and a DNS name are read from left to right (`usage_forward`, `dns_name_forward`), for record/proofs/Forward.antt. What that
-- means: fields/proofs/Forward.antt.
use lib.Dec.{leb}
use Rattle.fields.proofs.Forward.{Forward, value, judged, then}
use Rattle.fields.proofs.ForwardFields.{byte_forward, string_forward}
use Rattle.lists.specs.Lists.{usage_most, dns_name_most, usage_p, dns_name_p}

pub usage_forward : Forward usage_p
unfolding usage_p
usage_forward = then byte_forward (λ u. judged (leb u usage_most) u value)

pub dns_name_forward : Forward dns_name_p
unfolding dns_name_p
dns_name_forward = string_forward 1 dns_name_most
