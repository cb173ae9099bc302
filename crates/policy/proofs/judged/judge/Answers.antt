-- `judge` answers the facts of a card: its parts are what the functions below promise.
use Rattle.policy.proofs.Once.{judged_is}
use Rattle.policy.proofs.judged.judge.Goals as goal

pub returns : goal.returns
returns c =
    let issued = c.who_issued-issuing.ensures in
    let places = c.places_judged-places.ensures in
    let a = c.args in
    judged_is a.file.now a.time a.card issued.bundle_value issued.roots_value places.sound_value.0 places.sound_value.1 c.issuers_of.ensures
    c.roots_above-above.ensures.0 c.roots_above-above.ensures.1 c.part.ensures places.leaves_value places.counted_value
