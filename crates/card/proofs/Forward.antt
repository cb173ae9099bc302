-- The sections of a card file are read from left to right (`sections_forward`), for LeftToRight.antt. What that means, and the readers
-- below: fields/proofs/Forward.antt, and the Forward.antt of record, verdicts and task.
use mathlib.Core.List.{List}
use lib.Dec.{eqb}
use lib.ListN.{length}
use Rattle.places.specs.Limits.{roots_most, bundle_most}
use Rattle.fields.proofs.Forward.{Forward, edition, at_hand, judged, then}
use Rattle.fields.proofs.ForwardFields.{count_forward, byte_forward, string_forward, big_forward, counted_forward}
use Rattle.record.specs.Certificate.{Certificate}
use Rattle.record.proofs.Forward.{certificate_forward}
use Rattle.verdicts.proofs.Forward.{verdicts_forward}
use Rattle.task.specs.Task.{host_most}
use Rattle.task.proofs.Forward.{purpose_forward}
use Rattle.card.specs.Content.{edition_p, sections_p}

pub edition_forward : Forward edition_p
unfolding edition_p
edition_forward = then byte_forward (λ n. judged (eqb n 1) n edition)

pub sections_forward : Forward sections_p
unfolding sections_p
sections_forward =
    then edition_forward (λ _.
    then (counted_forward certificate_forward 0 roots_most) (λ (roots : List Certificate).
    then (counted_forward certificate_forward 0 bundle_most) (λ (bundle : List Certificate).
    then (verdicts_forward (length roots) (length bundle)) (λ verdicts.
    then (count_forward 1 1) (λ _.
    then (big_forward 8) (λ now.
    then (big_forward 8) (λ budget.
    then purpose_forward (λ _.
    then (string_forward 0 host_most) (λ host.
    at_hand _)))))))))
