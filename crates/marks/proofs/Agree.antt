-- Two meanings of the roots that agree on every path that is searched: what settles the search by one settles it by the other
-- (`settles_in_agree`), and where they agree on every simple path a search taken up at a mark answers the same (`marked_agree`), so that a
-- caller can put its own words for who qualifies. Of a search from its beginning: reply/proofs/Agree.antt; what settles a search:
-- specs/Later.antt.
use mathlib.Core.List.{List}
use Prim.Native.Nat.{ℕ}
use Rattle.order.specs.Paths.{Places, Simple}
use Rattle.reply.specs.declared.Answer.{Answer}
use Rattle.reply.specs.Settles.{Reach, QualifiesBy, Qualifies, Outcome, accepted, refused, exhausted}
use Rattle.marks.specs.declared.Mark.{Mark}
use Rattle.marks.specs.Later.{Later, SettlesIn}
use Rattle.marks.specs.Marked.{Marked, goes, astray}
use Rattle.marks.specs.Marks.{path_in}

module _ {P : List ℕ → Type 0} {w v : Reach}
    (to : (p : List ℕ) (r : ℕ) → P p → QualifiesBy w p r → QualifiesBy v p r)
    (from : (p : List ℕ) (r : ℕ) → P p → QualifiesBy v p r → QualifiesBy w p r)
  where
    qualifies_from : (q : List ℕ) → P q → Qualifies v q → Qualifies w q
    qualifies_from q s x = (x.0, from q x.0 s x.1)

    pub settles_in_agree : (k : ℕ) (o : Outcome) → SettlesIn P w k o → SettlesIn P v k o
    settles_in_agree k (accepted p r s) a =
        record {
          there = a.there;
          qualifies = to p r a.there a.qualifies;
          lowest = λ i x. a.lowest i (from p i a.there x);
          first = λ q y b x. a.first q y b (qualifies_from q y x);
          rank = a.rank;
          covered = a.covered;
        }
    settles_in_agree k (refused s) a =
        record { none = λ q y x. a.none q y (qualifies_from q y x); all = a.all; covered = a.covered }
    settles_in_agree k (exhausted s) a =
        record { spent = a.spent; more = a.more; none = λ q i y n h x. a.none q i y n h (qualifies_from q y x) }

module _ {g : Places} {w v : Reach}
    (to : (p : List ℕ) (r : ℕ) → Simple g p → QualifiesBy w p r → QualifiesBy v p r)
    (from : (p : List ℕ) (r : ℕ) → Simple g p → QualifiesBy v p r → QualifiesBy w p r)
    {k : ℕ} {m n : Mark} {before after : List ℕ} {a : Answer}
  where
    pub marked_agree : Marked g w k m n before after a → Marked g v k m n before after a
    marked_agree (goes u t) =
        goes u (record {
          outcome = t.outcome;
          settled = settles_in_agree {P = Later g (path_in m)} (λ p r s. to p r s.0) (λ p r s. from p r s.0) k t.outcome t.settled;
          says = t.says;
          sets = t.sets;
          clear = t.clear;
        })
    marked_agree (astray u s) = astray u s
