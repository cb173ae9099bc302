-- Frauds of the search, each on a card and in every room that is enough for it: the fraud's answer is not what `search` or `paused`
-- promises. The card: FraudCard.antt. The others are edits in must-fail/; docs/FRAUDS.md lists them all.
use Prim.Native.Nat.{ℕ, ◌<◌}
use mathlib.Core.Bool.{true}
use mathlib.Core.List.{List, [], ◌∷◌}
use mathlib.Core.Logic.{◌≢◌}
use mathlib.Core.Path.{◌≡◌, sym, ap, ◌∙◌}
use native.Mathlib.Omega.{arith}
use lib.ListN.{length, get_or}
use Rattle.fields.specs.Fields.{got}
use Rattle.card.specs.Content.{Content}
use Rattle.order.specs.Walk.{stack}
use Rattle.order.proofs.Waiting.{after_unique, stack-after}
use Rattle.reply.specs.declared.Answer.{Answer}
use Rattle.reply.specs.declared.path.Path.{Path}
use Rattle.reply.specs.declared.Reply.TheVariants.{Accepted, Refused, Exhausted}
use Rattle.reply.specs.Answer.{path_shown, Tells, Paused, Searched, runs}
use Rattle.reply.specs.Numbers.{told, saying, shown, placed}
use Rattle.reply.specs.Room.{has_room, Holding, Holds}
use Rattle.reply.specs.Settles.{Reach, Outcome, steps}
use Rattle.reply.specs.Slots.{padded, slot_of}
use Rattle.reply.proofs.Exists.{settles}
use Rattle.reply.proofs.Faults.{case_runs}
use Rattle.reply.proofs.Unique.{settles_unique}
use Rattle.reply.proofs.Says.{tells_reply, tells-path}
use Rattle.question.specs.Asked.{places_in, roots_in}
use Rattle.rules.specs.Rules.{at}
use Rattle.search.specs.Search.{case_in, Search, Pause}
use Rattle.search.proofs.FraudCard.{rootless, rooted, direct, outcome_of, rootless_refused, rootless_exhausted, rooted_accepted, direct_accepted, rootless_waits}

-- ---- what is answered to a content

module _ (c : Content) (e : ℕ) (some : 0 < length c.bundle) where
  abbrev reach : Reach
  reach = roots_in c (at c.now)

  settled : {a : Answer} {o : Outcome} (k : ℕ) → Tells (places_in c) reach k a o → o ≡ outcome_of c k
  unfolding outcome_of
  settled {a} {o} k t = settles_unique (places_in c) reach k o (outcome_of c k) t.settled (settles (places_in c) reach k some)

  module _ (before after : List ℕ) (a : Answer) (enough : has_room (length c.bundle) (length before) ≡ true) where
    free : case_in (got c e) (length before) ≡ runs c
    free = case_runs (length c.bundle) (length before) c (λ z. omega arith) enough

    module _ (x : Search (got c e) before after a) where
      tells : Tells (places_in c) reach c.budget a (outcome_of c c.budget)
      tells =
          let s : Searched (places_in c) reach c.budget before after a = rw free at x in
          rw (settled c.budget s.tells) at s.tells

    module _ (k : ℕ) (x : Pause (got c e) k before after a) where
      holds : Holding (length c.bundle) (stack (places_in c) (steps (outcome_of c k))) before after
      holds =
          let p : Paused (places_in c) reach k before after a = rw free at x in
          let h : Holds (places_in c) (steps (outcome_of c k)) before after = rw (settled k p.tells) at p.holds in
          let s : h.waiting ≡ stack (places_in c) (steps (outcome_of c k)) = after_unique (places_in c) h.order (stack-after (places_in c) some _) in
          rw s at h.room

-- the second place of a path
abbrev second : Path → ℕ
second p = (get_or p.places 1 (placed 0)).0

-- ---- frauds

module _ (e : ℕ) (before after : List ℕ) (a : Answer) (enough : has_room 3 (length before) ≡ true) where
  -- where no root signed anything, and the budget is exact
  module _ (x : Search (got rootless e) before after a) where
    refuses : a.reply ≡ Refused 5
    refuses = tells_reply (tells rootless e (omega arith) before after a enough x) ∙ ap saying rootless_refused

    -- a "seen" mark that is kept over paths: [0], [0,2] and [0,2,1] have seen every place
    pub global_mark : a.reply ≢ Refused 3
    global_mark f = omega (arith, ap (λ r. (told r).steps) (sym f ∙ refuses))

    -- places 1 and 2, whose certificates are alike, taken for one
    pub merged : a.reply ≢ Refused 2
    merged f = omega (arith, ap (λ r. (told r).steps) (sym f ∙ refuses))

    pub exact_budget : a.reply ≢ Exhausted 5
    exact_budget f = omega (arith, ap (λ r. (told r).number) (sym f ∙ refuses))

  -- a search finished in step one, with idle steps after: nothing waits after one step
  pub idle_steps : Pause (got rootless e) 1 before after a → ¬ Holding 3 [] before after
  unfolding slot_of padded
  idle_steps x none =
      let h : Holding 3 ((0 ∷ 2 ∷ []) ∷ (0 ∷ 1 ∷ []) ∷ []) before after = rw (rootless_exhausted, rootless_waits) at (holds rootless e (omega arith) before after a enough 1 x) in
      omega (arith, ap (λ l. get_or l 0 0) (sym (none.zeros 0 (omega arith) (omega arith)) ∙ h.paths 0 (omega arith)))

  -- where the roots signed the two CAs
  module _ (x : Search (got rooted e) before after a) where
    accepts : a.reply ≡ Accepted (record { 0 = 1 }) 2
    accepts = tells_reply (tells rooted e (omega arith) before after a enough x) ∙ ap saying rooted_accepted

    shows : a.path ≡ path_shown (0 ∷ 2 ∷ [])
    shows = tells-path (tells rooted e (omega arith) before after a enough x) ∙ ap (λ o. path_shown (shown o)) rooted_accepted

    pub invented_steps : a.reply ≢ Accepted (record { 0 = 1 }) 3
    invented_steps f = omega (arith, ap (λ r. (told r).steps) (sym f ∙ accepts))

    -- root 0 issued, is no CA, and no later one is tried
    pub first-root-only : a.reply ≢ Refused 5
    first-root-only f = omega (arith, ap (λ r. (told r).number) (sym f ∙ accepts))

    -- root 0, which is no CA, taken for a root that satisfies the policy
    pub agreeing_policy : a.reply ≢ Accepted (record { 0 = 0 }) 2
    agreeing_policy f = omega (arith, ap (λ r. (told r).root) (sym f ∙ accepts))

    -- the smaller place first
    pub ascending : a.path ≢ path_shown (0 ∷ 1 ∷ [])
    unfolding path_shown padded
    ascending f = omega (arith, ap second (sym f ∙ shows))

    -- a chain that no root issued
    pub any_chain : a.path ≢ path_shown (0 ∷ [])
    unfolding path_shown padded
    any_chain f = omega (arith, ap (λ p. p.length) (sym f ∙ shows))

    -- one chain shown for both sets of verdicts
    pub same_chain : (later : List ℕ) (b : Answer) → Search (got direct e) before later b → a.path ≢ b.path
    unfolding path_shown padded
    same_chain later b y f =
        let d : b.path ≡ path_shown (0 ∷ []) = tells-path (tells direct e (omega arith) before later b enough y) ∙ ap (λ o. path_shown (shown o)) direct_accepted in
        omega (arith, ap (λ p. p.length) (sym shows ∙ f ∙ d))
