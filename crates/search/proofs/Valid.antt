-- With budget enough a file is accepted exactly when upstream's `valid` holds of its content (`accepted_valid`); a budget that covers all
-- paths always brings a yes or a no (`yes_or_no`). On the way: a path is simple in upstream's words exactly when it is in ours
-- (`to_upstream`, `from_upstream`). Upstream's words: specs/Valid.antt; ours: order/specs/Paths.antt.
use mathlib.Core.Bool.{Bool, true, false, ◌&&◌, false≢true}
use mathlib.Core.List.Memᴰ.{head as here}
use mathlib.Core.List.Memᴰ.{tail as there}
use mathlib.Core.List.{List, [], ◌∷◌}
use mathlib.Core.Logic.{◌≢◌, ◌⊎◌, inl, inr, ◌↔◌}
use mathlib.Core.Path.{◌≡◌, refl, sym, ap, ◌∙◌}
use Prim.Native.Nat.{ℕ, zero, suc, ◌≤◌, ◌<◌}
use native.Mathlib.Omega.{arith}
use lib.ListN.{length}
use Rattle.card.specs.Content.{Content, root, bundled, content_p}
use Rattle.issuing.specs.Issued.{issued}
use Rattle.order.specs.Listing.{◌among◌, Sorted, nil, cons}
use Rattle.order.specs.Paths.{Linked, Simple, Count, last}
use Rattle.order.proofs.Simple.{last-at}
use Rattle.policy.specs.Policy.{policy, chain_of}
use Rattle.reply.specs.declared.Answer.{Answer}
use Rattle.reply.specs.Answer.{Searched, runs}
use Rattle.reply.specs.Numbers.{told, saying}
use Rattle.reply.specs.Settles.{QualifiesBy, Outcome, accepted, refused, exhausted, Settles}
use Rattle.reply.proofs.Unique.{covers}
use Rattle.reply.proofs.Says.{tells_reply}
use Rattle.question.specs.Asked.{places_in, roots_in}
use Rattle.rules.specs.Rules.{at as timeAt}
use Rattle.search.specs.Search.{case_in, Search}
use Rattle.search.specs.Valid.{at, SimplePath, ToRoot, Satisfies, Valid}

-- ---- places of a path by their number

among_at : (p : List ℕ) (i : ℕ) → i < length p → at p i among p
among_at [] i h = absurd (omega arith)
among_at (x ∷ p) zero h = here refl
among_at (x ∷ p) (suc i) h = there (among_at p i (omega arith))

at_among : {x : ℕ} (p : List ℕ) → x among p → (i : ℕ) × (i < length p) × (x ≡ at p i)
at_among [] m = elim m [ ]
at_among (y ∷ p) (here e) = (0, omega arith, e)
at_among (y ∷ p) (there m) = let (i, h, e) = at_among p m in (suc i, omega arith, e)

-- ---- a path is simple in upstream's words exactly when it is in ours

sorted-once : (p : List ℕ) → Sorted ◌≢◌ p → (i j : ℕ) → i < length p → j < length p → i ≢ j → at p i ≢ at p j
sorted-once [] s i j h k n = absurd (omega arith)
sorted-once (x ∷ p) (cons f s) zero zero h k n = absurd (n refl)
sorted-once (x ∷ p) (cons f s) zero (suc j) h k n = f (at p j) (among_at p j (omega arith))
sorted-once (x ∷ p) (cons f s) (suc i) zero h k n = λ e. f (at p i) (among_at p i (omega arith)) (sym e)
sorted-once (x ∷ p) (cons f s) (suc i) (suc j) h k n = sorted-once p s i j (omega arith) (omega arith) (λ e. n (ap suc e))

once-sorted : (p : List ℕ) → ((i j : ℕ) → i < length p → j < length p → i ≢ j → at p i ≢ at p j) → Sorted ◌≢◌ p
once-sorted [] h = nil
once-sorted (x ∷ p) h =
    cons
    (λ y m e. let (i, k, q) = at_among p m in h 0 (suc i) (omega arith) (omega arith) (λ z. absurd (omega arith)) (e ∙ q))
    (once-sorted p (λ i j k l n. h (suc i) (suc j) (omega arith) (omega arith) (λ e. n (omega arith))))

module _ (c : Content) where
  linked-at : (p : List ℕ) → Linked (places_in c) p → (i : ℕ) → suc i < length p → issued c (bundled (at p (suc i))) (at p i) ≡ true
  linked-at [] l i h = absurd (omega arith)
  linked-at (x ∷ []) l i h = absurd (omega arith)
  linked-at (x ∷ y ∷ p) l zero h = l.0
  linked-at (x ∷ y ∷ p) l (suc i) h = linked-at (y ∷ p) l.1 i (omega arith)

  at-linked : (p : List ℕ) → ((i : ℕ) → suc i < length p → issued c (bundled (at p (suc i))) (at p i) ≡ true) → Linked (places_in c) p
  at-linked [] h = tt
  at-linked (x ∷ []) h = tt
  at-linked (x ∷ y ∷ p) h = (h 0 (omega arith), at-linked (y ∷ p) (λ i k. h (suc i) (omega arith)))

  pub to_upstream : (p : List ℕ) → Simple (places_in c) p → SimplePath c p
  to_upstream p s =
      let (l, e) = s.start in
      record {
        some = rw e (omega arith);
        leaf = rw e;
        inside = λ i h. s.inside (at p i) (among_at p i h);
        once = sorted-once p s.once;
        linked = linked-at p s.linked;
      }

  pub from_upstream : (p : List ℕ) → SimplePath c p → Simple (places_in c) p
  from_upstream [] s = let h = s.some in absurd (omega arith)
  from_upstream (x ∷ l) s =
      record {
        start = (l, ap (λ y. y ∷ l) s.leaf);
        inside = λ y m. let (i, h, e) = at_among (x ∷ l) m in rw e (s.inside i h);
        once = once-sorted (x ∷ l) s.once;
        linked = at-linked (x ∷ l) s.linked;
      }

  -- ---- what qualifies

  both : (a b : Bool) → a && b ≡ true → (a ≡ true) × (b ≡ true)
  both true true h = (refl, refl)
  both true false h = absurd (false≢true h)
  both false b h = absurd (false≢true h)

  to_root : (p : List ℕ) (r : ℕ) → Simple (places_in c) p → QualifiesBy (roots_in c (timeAt c.now)) p r → ToRoot c p r × Satisfies c p r
  to_root [] r s x = absurd (false≢true x.1)
  to_root (y ∷ l) r s x =
      let (i, j) = both (issued c (root r) (last y l)) (policy (timeAt c.now) c.host (chain_of c y l r)) x.1 in
      (record { there = x.0; simple = to_upstream (y ∷ l) s; issues = rw (← last-at y l) i }, j)

  from_root : (p : List ℕ) (r : ℕ) → ToRoot c p r → Satisfies c p r → QualifiesBy (roots_in c (timeAt c.now)) p r
  from_root [] r x y = absurd y
  from_root (z ∷ l) r x y =
      let i : issued c (root r) (last z l) ≡ true = rw (last-at z l) x.issues in
      (x.there, rw (i, y))

  module _ (n : ℕ) (all : Count (places_in c) n) (enough : n ≤ c.budget) where
    settled : (o : Outcome) → Settles (places_in c) (roots_in c (timeAt c.now)) c.budget o → ((told (saying o)).number ≡ 0) ↔ Valid c
    settled (accepted p r s) a =
        let some : 0 < length c.bundle = let (l, e) = a.simple.start in a.simple.inside 0 (rw e (here refl)) in
        let (x, y) = to_root p r a.simple a.qualifies in
        (λ _. (some, (p, r, x, y)), λ _. refl)
    settled (refused s) a =
        (λ e. absurd (omega arith), λ v. let (p, r, x, y) = v.1 in absurd (a.none p (from_upstream p x.simple) (r, from_root p r x y)))
    settled (exhausted s) a = absurd (covers (places_in c) (roots_in c (timeAt c.now)) c.budget all enough s a)

    never_exhausted : (o : Outcome) → Settles (places_in c) (roots_in c (timeAt c.now)) c.budget o → ((told (saying o)).number ≡ 0) ⊎ ((told (saying o)).number ≡ 1)
    never_exhausted (accepted p r s) a = inl refl
    never_exhausted (refused s) a = inr refl
    never_exhausted (exhausted s) a = absurd (covers (places_in c) (roots_in c (timeAt c.now)) c.budget all enough s a)

-- ---- of a file that can be read, with room enough and a budget that covers all n simple paths

module _ (s before after : List ℕ) (a : Answer) (x : Search (content_p s) before after a)
    (c : Content) (free : case_in (content_p s) (length before) ≡ runs c)
    (n : ℕ) (all : Count (places_in c) n) (enough : n ≤ c.budget)
  where
    searched : Searched (places_in c) (roots_in c (timeAt c.now)) c.budget before after a
    searched = rw free at x

    pub accepted_valid : ((told a.reply).number ≡ 0) ↔ Valid c
    accepted_valid = rw (tells_reply searched.tells) (settled c n all enough searched.outcome searched.tells.settled)

    pub yes_or_no : ((told a.reply).number ≡ 0) ⊎ ((told a.reply).number ≡ 1)
    yes_or_no = rw (tells_reply searched.tells) (never_exhausted c n all enough searched.outcome searched.tells.settled)
