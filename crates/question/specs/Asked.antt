-- What a content asks (docs/CARD-FILE.md, "The search"): its places, and which roots a path reaches under the policy. A reader must believe
-- this file (docs/MAP.md).
-- Not here: who issued whom (issuing/specs/Issued.antt); the policy (policy/specs/Qualifies.antt); what the code asks instead, by rows and
-- judged places (Question.antt), and that it is the same (`put_asks` of proofs/Asked.antt).
use Rattle.std.specs.Prelude.{length}
use Rattle.card.specs.Content.{Content, bundled}
use Rattle.issuing.specs.Issued.{issued}
use Rattle.order.specs.Paths.{Places}
use Rattle.policy.specs.Qualifies.{qualifies}
use Rattle.reply.specs.Settles.{Reach}
use Rattle.rules.specs.declared.rules.Time.{Time}

-- the bundle's certificates by their places, and who issued whom
abbrev pub places_in : Content → Places
places_in c = record { size = length c.bundle; issued = λ i j. issued c (bundled i) j }

-- the roots, and which of them a path reaches under the policy at a time
abbrev pub roots_in : Content → Time → Reach
roots_in c time = record { count = length c.roots; good = qualifies c time }
