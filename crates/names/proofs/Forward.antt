-- An attribute, an RDN and a name are read from left to right (`attr_forward`, `rdn_forward`, `name_forward`), for
-- record/proofs/Forward.antt. What that means: fields/proofs/Forward.antt.
use Rattle.fields.proofs.Forward.{Forward, at_hand, then}
use Rattle.fields.proofs.ForwardFields.{string_forward, counted_forward}
use Rattle.names.specs.Names.{oid_most, value_most, rdn_most, name_most, attr_p, rdn_p, name_p}

pub attr_forward : Forward attr_p
unfolding attr_p
attr_forward = then (string_forward 1 oid_most) (λ o. then (string_forward 0 value_most) (λ v. at_hand (record { oid = o; value = v })))

pub rdn_forward : Forward rdn_p
unfolding rdn_p
rdn_forward = counted_forward attr_forward 1 rdn_most

pub name_forward : Forward name_p
unfolding name_p
name_forward = counted_forward rdn_forward 0 name_most
