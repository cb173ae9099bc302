-- The roots by how a path stands are those by what was judged of its certificates, so that the walk by the one settles the search by the
-- other (`settled`, for the proof of `run`; `ends_judged`, for stack). How a path stands: policy/specs/Standing.antt; that it is the same:
-- policy/proofs/Qualifying.antt.
use mathlib.Core.Bool.{Bool, true, false, ◌&&◌, false≢true}
use mathlib.Core.List.{List, [], ◌∷◌}
use mathlib.Core.Path.{◌≡◌, refl, sym, ◌∙◌}
use Prim.Native.Nat.{ℕ, ◌-◌, ◌≤◌}
use native.Mathlib.Omega.{arith}
use borrow.Author.Tests.{ltb-true, lt-ltb}
use lib.Dec.{ltb}
use Rattle.places.specs.Limits.{bundle_most, roots_most}
use Rattle.order.specs.Paths.{Places, Simple, last}
use Rattle.order.proofs.Simple.{last_among, simple-length}
use Rattle.policy.specs.Standing.{Seated}
use Rattle.policy.specs.declared.judged.Judged.{Judged}
use Rattle.policy.proofs.Qualifying.{roots_qualify}
use Rattle.steps.specs.declared.walk.End.{End}
use Rattle.question.specs.Question.{places_by, roots_by}
use Rattle.steps.specs.Parts.{roots_seated, Ends, Stopped}
use Rattle.reply.specs.Settles.{Reach, QualifiesBy, Outcome, Settles}
use Rattle.reply.proofs.Agree.{settles_agree}
use Rattle.steps.proofs.Ends.{ends_settles}

module _ (judged : Judged) (n : ℕ) (some : 1 ≤ n) (few : n ≤ bundle_most) (seats : List ℕ) (seated : Seated judged (n - 1) seats) where
  abbrev places : Places
  places = places_by judged.issuing.bundle n

  abbrev seated_roots : Reach
  seated_roots = roots_seated judged.issuing.roots seats

  good-same : (p : List ℕ) (r : ℕ) → Simple places p → seated_roots.good p r ≡ ltb r roots_most && (roots_by judged).good p r
  good-same p r s = from_leaf s.start.0 s.start.1
    where
      from_leaf : (l : List ℕ) → p ≡ 0 ∷ l → seated_roots.good p r ≡ ltb r roots_most && (roots_by judged).good p r
      from_leaf l e =
          let s' : Simple places (0 ∷ l) = rw e at s in
          let k = s'.inside (last 0 l) (last_among 0 l) in
          let h = simple-length places s' in
          rw e (roots_qualify judged (n - 1) seats seated (omega arith) 0 l (omega arith) (omega arith) r)

  to : (p : List ℕ) (r : ℕ) → Simple places p → QualifiesBy seated_roots p r → QualifiesBy (roots_by judged) p r
  to p r s (h, e) = both (ltb r roots_most) ((roots_by judged).good p r) refl refl (sym (good-same p r s) ∙ e)
    where
      both : (a b : Bool) → ltb r roots_most ≡ a → (roots_by judged).good p r ≡ b → a && b ≡ true → QualifiesBy (roots_by judged) p r
      both true b x y q = (ltb-true r roots_most x, y ∙ q)
      both false b x y q = absurd (false≢true q)

  from : (p : List ℕ) (r : ℕ) → Simple places p → QualifiesBy (roots_by judged) p r → QualifiesBy seated_roots p r
  from p r s (h, e) = (omega arith, good-same p r s ∙ rw (lt-ltb r roots_most h, e))

  pub ends_judged : (k : ℕ) (o : Outcome) → Ends places seated_roots k ((0 ∷ []) ∷ []) o → Settles places (roots_by judged) k o
  ends_judged k o e = settles_agree to from k o (ends_settles places some seated_roots k o e)

  pub settled : {k : ℕ} {e : End}
      → Stopped places (Ends places seated_roots k ((0 ∷ []) ∷ [])) ((0 ∷ []) ∷ []) e
      → Stopped places (Settles places (roots_by judged) k) ((0 ∷ []) ∷ []) e
  settled {k} S = record {
    outcome = S.outcome;
    ends = ends_judged k S.outcome S.ends;
    says = S.says;
    short = S.short;
    long = S.long;
    shows = S.shows;
    few = S.few;
    left = S.left;
  }
