-- `places_judged` answers the places that may stand between leaf and root with their limits, those that are sound as the leaf, and those
-- between that path lengths count. The invariant: the places below i are judged.
use mathlib.Core.Bool.{not, ◌&&◌}
use mathlib.Core.Path.{◌≡◌}
use Rattle.places.specs.Limits.{bundle_most}
use Rattle.certificates.specs.Certificates.{record_of}
use Rattle.rows.specs.Rows.{row_of}
use Rattle.issuing.specs.Records.{self_issued_at}
use Rattle.rules.specs.Limits.{limit_of}
use Rattle.policy.specs.Sound.{between_sound, leaf_sound_at, place_of}
use Rattle.policy.proofs.Places.{Judging}
use Rattle.policy.proofs.judged.places_judged.Given as goal

abbrev pub invariant-loop-i : goal.invariant-loop-i
invariant-loop-i l =
    Judging (λ j. between_sound l.time (place_of l.file l.bundle j)) (λ j. limit_of (place_of l.file l.bundle j)) bundle_most l.between.sound l.between.limits l.i
    × (l.leaves ≡ row_of (λ j. leaf_sound_at l.file l.time l.host (record_of l.bundle.count l.bundle.records j)) l.i)
    × (l.counted ≡ row_of (λ j. between_sound l.time (place_of l.file l.bundle j) && not (self_issued_at l.file (record_of l.bundle.count l.bundle.records j))) l.i)
