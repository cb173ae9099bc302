-- After a fresh mark the search is the search from its beginning: what answers the one answers the other (`fresh-searched`,
-- `searched-fresh`). What each must answer: specs/Marked.antt and reply/specs/Answer.antt; the mark that is then set: specs/Marked.antt.
use mathlib.Core.List.{List, []}
use mathlib.Core.Path.{◌≡◌}
use Prim.Native.Nat.{ℕ}
use Rattle.order.specs.Listing.{Lists}
use Rattle.order.specs.Paths.{Places, Simple, Before}
use Rattle.reply.specs.declared.Answer.{Answer}
use Rattle.reply.specs.Answer.{Searched}
use Rattle.reply.specs.Settles.{Reach, Outcome, accepted, refused, exhausted, Settles}
use Rattle.marks.specs.declared.Mark.{Mark}
use Rattle.marks.specs.Later.{Later, RankIn, CountIn, SettlesIn}
use Rattle.marks.specs.Marked.{Marked, goes, astray}
use Rattle.marks.specs.Marks.{path_in, fresh}
use Rattle.marks.proofs.Again.{path-fresh}
use Rattle.marks.proofs.Total.{sets-some}

-- ---- of the same paths

lists_same : {P Q : List ℕ → Type 0} → ((p : List ℕ) → P p → Q p) → ((p : List ℕ) → Q p → P p) → {ps : List (List ℕ)} → Lists Before P ps → Lists Before Q ps
lists_same to from l = record { sorted = l.sorted; only = λ p m. to p (l.only p m); all = λ p q. l.all p (from p q) }

module _ {P Q : List ℕ → Type 0} (to : (p : List ℕ) → P p → Q p) (from : (p : List ℕ) → Q p → P p) where
  rank_same : (p : List ℕ) {r : ℕ} → RankIn P p r → RankIn Q p r
  rank_same p (qs, l, e) = (qs, lists_same (λ q (x, b). (to q x, b)) (λ q (x, b). (from q x, b)) l, e)

  count_same : {c : ℕ} → CountIn P c → CountIn Q c
  count_same (ps, l, e) = (ps, lists_same to from l, e)

-- after [] come all simple paths
module _ (g : Places) where
  all_later : (p : List ℕ) → Simple g p → Later g [] p
  all_later p s = (s, rw s.start.1 tt)

  later_all : (p : List ℕ) → Later g [] p → Simple g p
  later_all p x = x.0

  module _ (w : Reach) (k : ℕ) where
    settles_all : (o : Outcome) → SettlesIn (Later g []) w k o → Settles g w k o
    settles_all (accepted p r s) a =
        record {
          simple = a.there.0;
          qualifies = a.qualifies;
          lowest = a.lowest;
          first = λ q y. a.first q (all_later q y);
          rank = rank_same later_all all_later p a.rank;
          covered = a.covered;
        }
    settles_all (refused s) a = record { none = λ q y. a.none q (all_later q y); all = count_same later_all all_later a.all; covered = a.covered }
    settles_all (exhausted s) a =
        record {
          spent = a.spent;
          more = let (c, n, h) = a.more in (c, count_same later_all all_later n, h);
          none = λ q i y n. a.none q i (all_later q y) (rank_same all_later later_all q n);
        }

    all_settles : (o : Outcome) → Settles g w k o → SettlesIn (Later g []) w k o
    all_settles (accepted p r s) a =
        record {
          there = all_later p a.simple;
          qualifies = a.qualifies;
          lowest = a.lowest;
          first = λ q y. a.first q y.0;
          rank = rank_same all_later later_all p a.rank;
          covered = a.covered;
        }
    all_settles (refused s) a = record { none = λ q y. a.none q y.0; all = count_same all_later later_all a.all; covered = a.covered }
    all_settles (exhausted s) a =
        record {
          spent = a.spent;
          more = let (c, n, h) = a.more in (c, count_same all_later later_all n, h);
          none = λ q i y n. a.none q i y.0 (rank_same later_all all_later q n);
        }

-- ---- after a fresh mark

module _ {g : Places} {w : Reach} {k : ℕ} (m : Mark) (e : m.length ≡ 0) {before after : List ℕ} {a : Answer} where
  pub fresh-searched : {n : Mark} → Marked g w k m n before after a → Searched g w k before after a
  fresh-searched (goes u t) =
      record {
        outcome = t.outcome;
        tells = record { settled = settles_all g w k t.outcome (rw (path-fresh m e) at t.settled); says = t.says };
        clear = t.clear;
      }
  fresh-searched (astray u s) = absurd (u (fresh e))

  -- it sets some mark
  pub searched-fresh : Searched g w k before after a → (n : Mark) × Marked g w k m n before after a
  searched-fresh s =
      let o = s.outcome in
      let t : SettlesIn (Later g (path_in m)) w k o = rw (path-fresh m e) (all_settles g w k o s.tells.settled) in
      let (n, x) = sets-some g w k m o t in
      (n, goes (fresh e) (record { outcome = o; settled = t; says = s.tells.says; sets = x; clear = s.clear }))
