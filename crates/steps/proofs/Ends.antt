-- How a walk ends: from any stack (`vain-more`, `stop-refused`, `stop-exhausted`, `stop-accepted`, for the loop of `walk`), and what that
-- settles where it began with the leaf alone (`ends_settles`), what is answered and left in the room (`stopped_paused`,
-- `stopped_searched`). How a walk ends, in words: specs/Parts.antt; a turn of the walk: Levels.antt.
use mathlib.Core.List.Memᴰ
use mathlib.Core.List.{List, [], ◌∷◌, head-eq_of_cons-eq}
use mathlib.Core.Logic.{⊎_elim}
use mathlib.Core.Path.{◌≡◌, refl, ap, ◌∙◌}
use Prim.Native.Nat.{ℕ, suc, ◌+◌, ◌≤◌, ◌<◌, zero-le}
use native.Mathlib.Numerals.{add-one}
use native.Mathlib.Omega.{arith}
use lib.ListN.{length, take, set, length-append, length-take}
use Rattle.places.specs.Limits.{bundle_most}
use Rattle.order.specs.Paths.{Places}
use Rattle.order.specs.Slots.{slots_of}
use Rattle.order.specs.Waiting.{Waiting}
use Rattle.order.specs.Walk.{pops, top, tops, stack, paths}
use Rattle.order.proofs.Stack.{stack-waits}
use Rattle.order.proofs.Waiting.{waiting_step, waiting_end, stack-taken}
use Rattle.order.proofs.Tree.{paths-listing}
use Rattle.reply.specs.declared.Reply.TheVariants as reply
use Rattle.reply.specs.declared.Answer.{Answer}
use Rattle.reply.specs.Answer.{path_shown, answering, Paused, Searched}
use Rattle.steps.specs.declared.walk.End.{End}
use Rattle.steps.specs.declared.walk.Level.{Level}
use Rattle.steps.specs.Parts.{waiting, Vain, Ends, Stopped}
use Rattle.reply.specs.Laid.{holding}
use Rattle.reply.specs.Settles.{Reach, QualifiesBy, Qualifies, Outcome, accepted, refused, exhausted, Settles, steps}
use Rattle.steps.proofs.Levels.{Stands, closed, over-all, met}
use Rattle.reply.proofs.Left.{stack-fits, left-searched, left_paused}
use Rattle.reply.proofs.Settled.{Barren, accepts, refuses, exhausts}
use Rattle.reply.proofs.Says.{by_parts}

-- ---- from any stack

pub vain-none : {g : Places} {w : Reach} {st : List (List ℕ)} → Vain g w st 0
vain-none = record { all = refl; none = λ q m. absurd (Memᴰ.not-nil m) }

module _ {g : Places} {w : Reach} {st : List (List ℕ)} {k : ℕ} (U : Vain g w st k) where
  vain_suc : {p : List ℕ} → top (pops g k st) ≡ p ∷ [] → ¬ Qualifies w p → Vain g w st (suc k)
  vain_suc {p} e n = record {
    all = rw e (length-append (tops g k st) (p ∷ []) ∙ omega (arith, U.all));
    none = λ q m x. ⊎_elim (λ l. U.none q l x) (λ r. let z : q ≡ p = Memᴰ.eq_of_singleton r in n (rw z at x)) (Memᴰ.append_cases (tops g k st) (rw e at m));
  }

  pub vain-more : {p : List ℕ} → top (pops g k st) ≡ p ∷ [] → ¬ Qualifies w p → Vain g w st (k + 1)
  vain-more e n = rw add-one (vain_suc e n)

  module _ {seats : List ℕ} {levels : List Level} {place : List ℕ} {here : Level} {d : ℕ} (S : Stands g seats st levels place here d k) {budget : ℕ} where
    pub stop-refused : here.ahead ≡ 0 → d ≡ 0 → k ≤ budget
        → Stopped g (Ends g w budget st) st (record { reply = reply.Refused k; len = 0; place = place; levels = set levels d here; depths = d + 1 })
    stop-refused none z t = record {
      outcome = refused k;
      ends = (t, U, over-all S none z);
      says = refl;
      short = zero-le;
      long = S.lp;
      shows = refl;
      few = omega (arith, S.deep);
      left = closed S;
    }

    pub stop-exhausted : ¬ (here.ahead ≡ 0) → k ≤ budget → budget ≤ k
        → Stopped g (Ends g w budget st) st (record { reply = reply.Exhausted k; len = 0; place = place; levels = set levels d here; depths = d + 1 })
    stop-exhausted some t u = record {
      outcome = exhausted k;
      ends = (omega arith, U, (_, met S refl some));
      says = refl;
      short = zero-le;
      long = S.lp;
      shows = refl;
      few = omega (arith, S.deep);
      left = closed S;
    }

  -- p was taken in the step before
  pub stop-accepted : {seats : List ℕ} {levels : List Level} {place : List ℕ} {here : Level} {d : ℕ} → Stands g seats st levels place here d (k + 1)
      → {p : List ℕ} → top (pops g k st) ≡ p ∷ [] → {budget : ℕ} → k < budget → {r : ℕ} → QualifiesBy w p r × ((i : ℕ) → QualifiesBy w p i → r ≤ i)
      → {len : ℕ} → len ≤ bundle_most → take len place ≡ p
      → Stopped g (Ends g w budget st) st (record { reply = reply.Accepted (record { 0 = r }) (k + 1); len = len; place = place; levels = set levels d here; depths = d + 1 })
  stop-accepted S {p} e b {r} (q, low) short shows = record {
    outcome = accepted p r (k + 1);
    ends = (k, add-one k, omega arith, U, e, q, low);
    says = refl;
    short = short;
    long = S.lp;
    shows = shows;
    few = omega (arith, S.deep);
    left = closed S;
  }

-- what the walk's loop keeps
pub record Going (g : Places) (w : Reach) (seats : List ℕ) (budget : ℕ) (st : List (List ℕ)) (levels : List Level) (place : List ℕ) (here : Level) (d k : ℕ) : Type 0 where
  pub stands : Stands g seats st levels place here d k
  pub vain : Vain g w st k
  pub time : k ≤ budget

-- ---- from the leaf alone

module _ (g : Places) (some : 0 < g.size) (w : Reach) where
  barren : {k : ℕ} → Vain g w ((0 ∷ []) ∷ []) k → Barren g w (paths-listing g some) k
  barren {k} v q m = v.none q (rw (stack-taken g some (paths-listing g some) k) m)

  -- the path on top is the next of the listing
  topped : (k : ℕ) (s : List (List ℕ)) → Waiting (paths g) k s → {p : List ℕ} → top s ≡ p ∷ [] → (q : List (List ℕ)) × Waiting (paths g) k (p ∷ q)
  topped k [] x e = let z : ◌≡◌ {A = ℕ} 0 1 = ap length e in absurd (omega arith)
  topped k (q ∷ s) x {p} e = let z : q ≡ p = head-eq_of_cons-eq e in (s, rw z at x)

  pub ends_settles : (k : ℕ) (o : Outcome) → Ends g w k ((0 ∷ []) ∷ []) o → Settles g w k o
  ends_settles k (accepted p r s) (j, e, c, v, t, q, low) =
      let (more, at, _) = waiting_step g some (paths-listing g some) j (topped j (stack g j) (stack-waits g some j) t).1 in
      let b : suc j ≤ k = omega arith in
      rw (e, ← at) (accepts g w (paths-listing g some) k j r more b (barren v) (rw at q) (rw at low))
  ends_settles k (refused s) (c, v, z) =
      let done : length (paths g) ≤ s = (waiting_end g some (paths-listing g some) s).0 (rw z at (stack-waits g some s)) in
      let early : s ≤ length (paths g) = early s v in
      refuses g w (paths-listing g some) k s (omega arith) c (barren v)
    where
      early : (s : ℕ) → Vain g w ((0 ∷ []) ∷ []) s → s ≤ length (paths g)
      early s v = omega (arith, v.all, ap length (stack-taken g some (paths-listing g some) s), length-take s (paths g))
  ends_settles k (exhausted s) (e, v, (p, t)) =
      let (more, _, _) = waiting_step g some (paths-listing g some) s (topped s (stack g s) (stack-waits g some s) t).1 in
      rw (← e) (exhausts g w (paths-listing g some) s more (barren v))

-- ---- what is answered, and what is left in the room

module _ {g : Places} (some : 0 < g.size) (few : g.size ≤ bundle_most) {w : Reach} {k : ℕ} {e : End} (S : Stopped g (Settles g w k) ((0 ∷ []) ∷ []) e)
  where
    pub stopped_fits : length (waiting g.size e.levels e.place e.depths) ≤ slots_of g.size
    stopped_fits = rw S.left (stack-fits g some few (steps S.outcome))

    module _ {a : Answer} (replies : a.reply ≡ e.reply) (shows : a.path ≡ path_shown (take e.len e.place)) where
      says : a ≡ answering S.outcome
      says = by_parts S.outcome (replies ∙ S.says) (shows ∙ ap path_shown S.shows)

      pub stopped_paused : {before after : List ℕ} → after ≡ holding g.size (waiting g.size e.levels e.place e.depths) before → Paused g w k before after a
      stopped_paused q = left_paused S.outcome S.ends says some few (rw S.left at q)

      pub stopped_searched : {before after : List ℕ} → after ≡ holding g.size [] before → Searched g w k before after a
      stopped_searched q = left-searched S.outcome S.ends says q
