-- The flags and a certificate are read from left to right (`flags_forward`, `certificate_forward`), for card/proofs/Forward.antt. What that
-- means: fields/proofs/Forward.antt.
use Rattle.fields.proofs.Forward.{Forward, value, at_hand, judged, then}
use Rattle.fields.proofs.ForwardFields.{byte_forward, string_forward, big_forward, optional_forward, counted_forward}
use Rattle.names.proofs.Forward.{name_forward}
use Rattle.lists.specs.Lists.{usages_most, dns_names_most}
use Rattle.lists.proofs.Forward.{usage_forward, dns_name_forward}
use Rattle.extensions.specs.Flags.{has_authority_key_id, has_authority_serial, has_subject_key_id, has_path_length, key_id_most, serial_most}
use Rattle.record.specs.Certificate.{paired, flags_p, algorithm_most, certificate_p}

pub flags_forward : Forward flags_p
unfolding flags_p
flags_forward = then byte_forward (λ f. judged (paired f) f value)

pub certificate_forward : Forward certificate_p
unfolding certificate_p
certificate_forward =
    then byte_forward (λ version.
    then flags_forward (λ flags.
    then (big_forward 8) (λ notBefore.
    then (big_forward 8) (λ notAfter.
    then (string_forward 1 serial_most) (λ serial.
    then (string_forward 1 algorithm_most) (λ outer.
    then (string_forward 1 algorithm_most) (λ inner.
    then name_forward (λ issuer.
    then name_forward (λ subject.
    then (optional_forward (string_forward 1 key_id_most) (has_authority_key_id flags)) (λ authorityKeyId.
    then (optional_forward (string_forward 1 serial_most) (has_authority_serial flags)) (λ authoritySerial.
    then (optional_forward (string_forward 1 key_id_most) (has_subject_key_id flags)) (λ subjectKeyId.
    then (optional_forward byte_forward (has_path_length flags)) (λ pathLength.
    then (counted_forward usage_forward 0 usages_most) (λ usages.
    then (counted_forward dns_name_forward 0 dns_names_most) (λ dnsNames.
    at_hand _)))))))))))))))
