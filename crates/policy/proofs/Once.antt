-- The facts of a card by their parts (`judged_is`), and what `leaf_sound` needs of a head. For the proofs of src/judged.rt; what is asked:
-- specs/Sound.antt; that this is the policy: Chains.antt, SeatsRead.antt.
use Prim.Native.Nat.{ℕ}
use mathlib.Core.List.{List}
use mathlib.Core.Path.{◌≡◌}
use Rattle.fields.specs.Spans.{bytes_of}
use Rattle.record.proofs.Meaning.{own-head}
use Rattle.card.specs.declared.Card.{Card}
use Rattle.issuing.specs.Records.{bundle_rows, root_rows, issuers_of}
use Rattle.rules.specs.declared.rules.Time.{Time}
use Rattle.policy.specs.Sound.{sound_places, place_limits, sound_roots, root_limits, sound_leaves, counted_places, judged_of}
use Rattle.policy.specs.declared.judged.Judged.{Judged}

-- a certificate with its own head is the certificate of its record
pub ruleset own = (own-head)

pub judged_is : (s : List ℕ) (time : Time) (c : Card) {bundle roots limits tops : List ℕ} {asked sound above leaves counted : ℕ} {host : List ℕ}
    → bundle ≡ bundle_rows s c.bundle c.verdicts → roots ≡ root_rows s c.roots c.bundle c.verdicts
    → sound ≡ sound_places s time c.bundle → limits ≡ place_limits s c.bundle
    → asked ≡ issuers_of roots → above ≡ sound_roots s time asked c.roots → tops ≡ root_limits s asked c.roots
    → host ≡ bytes_of c.task.host.name s → leaves ≡ sound_leaves s time host c.bundle
    → counted ≡ counted_places s sound c.bundle
    → ◌≡◌ {A = Judged}
    (record {
      issuing = record { bundle = bundle; roots = roots };
      between = record { sound = sound; limits = limits };
      above = record { sound = above; limits = tops };
      leaves = leaves;
      counted = counted;
    })
    (judged_of s time c)
unfolding judged_of
judged_is s time c b r p l a u t h q k = rw (k, q, h, t, u, a, l, p, r, b)
