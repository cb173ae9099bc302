-- Two meanings of the roots that agree on every simple path: what settles the search by one settles it by the other (`settles_agree`,
-- `paused_agree`, `searched-agree`), so that a caller can put its own words for who qualifies. For search/proofs/Asked.antt and
-- steps/proofs/Judging.antt; what settles a search: specs/Settles.antt.
use mathlib.Core.List.{List}
use Prim.Native.Nat.{ℕ}
use Rattle.order.specs.Paths.{Places, Simple}
use Rattle.reply.specs.declared.Answer.{Answer}
use Rattle.reply.specs.Answer.{Tells, Paused, Searched}
use Rattle.reply.specs.Settles.{Reach, QualifiesBy, Qualifies, Outcome, accepted, refused, exhausted, Settles}

module _ {g : Places} {w v : Reach}
    (to : (p : List ℕ) (r : ℕ) → Simple g p → QualifiesBy w p r → QualifiesBy v p r)
    (from : (p : List ℕ) (r : ℕ) → Simple g p → QualifiesBy v p r → QualifiesBy w p r)
  where
    qualifies_from : (q : List ℕ) → Simple g q → Qualifies v q → Qualifies w q
    qualifies_from q s x = (x.0, from q x.0 s x.1)

    pub settles_agree : (k : ℕ) (o : Outcome) → Settles g w k o → Settles g v k o
    settles_agree k (accepted p r s) a =
        record {
          simple = a.simple;
          qualifies = to p r a.simple a.qualifies;
          lowest = λ i x. a.lowest i (from p i a.simple x);
          first = λ q y b x. a.first q y b (qualifies_from q y x);
          rank = a.rank;
          covered = a.covered;
        }
    settles_agree k (refused s) a =
        record { none = λ q y x. a.none q y (qualifies_from q y x); all = a.all; covered = a.covered }
    settles_agree k (exhausted s) a =
        record { spent = a.spent; more = a.more; none = λ q i y n h x. a.none q i y n h (qualifies_from q y x) }

    module _ {k : ℕ} {a : Answer} where
      tells-agree : {o : Outcome} → Tells g w k a o → Tells g v k a o
      tells-agree {o} x = record { settled = settles_agree k o x.settled; says = x.says }

      pub paused_agree : {before after : List ℕ} → Paused g w k before after a → Paused g v k before after a
      paused_agree x = record { outcome = x.outcome; tells = tells-agree x.tells; holds = x.holds }

      pub searched-agree : {before after : List ℕ} → Searched g w k before after a → Searched g v k before after a
      searched-agree x = record { outcome = x.outcome; tells = tells-agree x.tells; clear = x.clear }
