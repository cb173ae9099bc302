-- What waits, by depths: the highest place of the deepest row is the top path's last (`met`), and what the top path's children go on by is
-- a row of its own (`stayed`, `sank`). In order: the paths that a row offers, the depths, where a search begins, a depth left (`climbed`),
-- a place taken. For the loop of `walk`; what waits by depths: specs/Parts.antt; the stack: order/specs/Walk.antt; how it ends: Ends.antt.
use mathlib.Core.Bool.{Bool, true, false, not, ◌&&◌, ◌||◌, false≢true}
use mathlib.Core.List.Memᴰ
use mathlib.Core.List.Memᴰ.{head as here}
use mathlib.Core.List.Memᴰ.{tail as there}
use mathlib.Core.List.{List, [], ◌∷◌, ◌++◌, map}
use mathlib.Core.Logic.{⊎_elim}
use mathlib.Core.Path.{◌≡◌, refl, sym, ap, ap₂, ◌∙◌}
use Prim.Native.Nat.{ℕ, zero, suc, ◌+◌, ◌-◌, ◌^◌, ◌≤◌, ◌<◌}
use native.Mathlib.Numerals.{add-one}
use native.Mathlib.Omega.{arith}
use borrow.Author.Tests.{eqb-true, eqb-false, ne_eqb, lt-ltb, le-ltb}
use lib.Bits.{bit_and, and_le_l, xor_lt}
use lib.Dec.{eqb, ltb}
use lib.ListN.{length, take, get_or, set, length-set}
use lib.Seq.{length-take-le, take-set-le, take-suc-set, get_or-set_same, get_or-set_other}
use Rattle.places.specs.Limits.{bundle_most}
use Rattle.order.specs.Listing.{◌among◌}
use Rattle.order.specs.Paths.{Places, Simple, last}
use Rattle.order.specs.Walk.{put, keep, down, used, snoc, next, kids, pop, pops, top}
use Rattle.order.proofs.Simple.{last_snoc, simple-length}
use Rattle.order.proofs.Tree.{kid_simple, start-simple}
use Rattle.rows.specs.Rows.{has, joined, left, common, highest, below}
use Rattle.rows.proofs.Places.{has-none, has-joined, has_dropped, has-common}
use Rattle.rows.proofs.Upper.{highest-has, highest-above, highest-place, has-below}
use Rattle.policy.specs.Standing.{begun, over, added, added_all, roots_over}
use Rattle.policy.specs.declared.standing.Standing.{Standing}
use Rattle.policy.proofs.Adding.{standing-more, over-more}
use Rattle.reply.proofs.Slots.{length-snoc}
use Rattle.steps.specs.declared.walk.Depths.{Depths}
use Rattle.steps.specs.declared.walk.Level.{Level}
use Rattle.question.specs.Question.{places_by}
use Rattle.steps.specs.Parts.{offered, waiting, level_at, LevelAfter, stack_of, Ready, onward}
use Rattle.steps.proofs.Paths.{used-snoc}

-- ---- the paths that a row offers

keep_same : (f h : ℕ → Bool) (n : ℕ) → ((j : ℕ) → j < n → f j ≡ h j) → keep f (down n) ≡ keep h (down n)
keep_same f h zero e = refl
keep_same f h (suc n) e = rw (e n (omega arith), keep_same f h n (λ j l. e j (omega arith)))

pub offered-none : (n row : ℕ) (p : List ℕ) → ((j : ℕ) → has j row ≡ false) → offered n row p ≡ []
unfolding offered
offered-none zero row p h = refl
offered-none (suc n) row p h = rw (h n) (offered-none n row p h)

offered_zero : (n : ℕ) {row : ℕ} (p : List ℕ) → row ≡ 0 → offered n row p ≡ []
offered_zero n {row} p z = offered-none n row p (λ j. ap (has j) z ∙ has-none j)

pub offered-kids : (g : Places) (row : ℕ) (p : List ℕ) → ((j : ℕ) → j < g.size → has j row ≡ not (used j p) && g.issued j (last 0 p))
    → offered g.size row p ≡ kids g p
unfolding offered kids next
offered-kids g row p h = ap (map (snoc p)) (keep_same (λ j. has j row) (λ j. not (used j p) && g.issued j (last 0 p)) g.size h)

pub and_yes : (t : Bool) → t && true ≡ t
and_yes true = refl
and_yes false = refl

pub and_no : (t : Bool) → t && false ≡ false
and_no true = refl
and_no false = refl

offered-top : (n row i : ℕ) (p : List ℕ) → has i row ≡ true → ((j : ℕ) → i < j → has j row ≡ false) → i < 64 → i < n
    → offered n row p ≡ snoc p i ∷ offered n (left row (joined 0 i)) p
unfolding offered
offered-top zero row i p y above w l = absurd (omega arith)
offered-top (suc n) row i p y above w l = go (eqb n i) refl (λ k. offered-top n row i p y above w k)
  where
    dropped : (j : ℕ) → has j (left row (joined 0 i)) ≡ has j row && not (eqb j i)
    dropped = has_dropped row i w

    go : (t : Bool) → eqb n i ≡ t → (i < n → offered n row p ≡ snoc p i ∷ offered n (left row (joined 0 i)) p)
        → map (snoc p) (put (has n row) n (keep (λ j. has j row) (down n)))
        ≡ snoc p i ∷ map (snoc p) (put (has n (left row (joined 0 i))) n (keep (λ j. has j (left row (joined 0 i))) (down n)))
    go true q ih =
        let e : n ≡ i = eqb-true n i q in
        let yes : has n row ≡ true = rw e y in
        let off : has n (left row (joined 0 i)) ≡ false = dropped n ∙ rw q (and_no (has n row)) in
        let under : keep (λ j. has j row) (down n) ≡ keep (λ j. has j (left row (joined 0 i))) (down n) =
        keep_same (λ j. has j row) (λ j. has j (left row (joined 0 i))) n (λ j k. sym (dropped j ∙ rw (ne_eqb j i (λ (z : j ≡ i). omega arith)) (and_yes (has j row)))) in
        rw (yes, off, under, e)
    go false q ih =
        let ne : n ≡ i → ⊥ = eqb-false n i q in
        let h : i < n = omega (arith, ne) in
        let off : has n row ≡ false = above n h in
        let off' : has n (left row (joined 0 i)) ≡ false = dropped n ∙ rw off in
        rw (off, off') (ih h)

-- ---- the depths

waiting-same : (n : ℕ) (o o' : List Level) (l l' : List ℕ) (d : ℕ) → ((k : ℕ) → k < d → level_at o k ≡ level_at o' k) → ((k : ℕ) → k < d → take k l ≡ take k l')
    → waiting n o l d ≡ waiting n o' l' d
unfolding waiting
waiting-same n o o' l l' zero h e = refl
waiting-same n o o' l l' (suc d) h e =
    rw (h d (omega arith), e d (omega arith), waiting-same n o o' l l' d (λ k b. h k (omega arith)) (λ k b. e k (omega arith)))

pub waiting-last : (n : ℕ) (o : List Level) (l : List ℕ) (d : ℕ) → waiting n o l (d + 1) ≡ offered n (level_at o d).ahead (take d l) ++ waiting n o l d
unfolding waiting
waiting-last n o l d = rw add-one

-- what waits where row has the places to be taken at depth d
abbrev pub stack_at : ℕ → List Level → List ℕ → ℕ → ℕ → List (List ℕ)
stack_at n levels place d row = offered n row (take d place) ++ waiting n levels place d

left-fits : (row taken : ℕ) → row < 2 ^ 64 → left row taken < 2 ^ 64
unfolding left
left-fits row taken f = xor_lt 64 row (bit_and row taken) f (omega (arith, and_le_l row taken))

-- k steps from the stack st lead to this state
pub record Stands (g : Places) (seats : List ℕ) (st : List (List ℕ)) (levels : List Level) (place : List ℕ) (here : Level) (d k : ℕ) : Type 0 where
  pub few : g.size ≤ bundle_most
  pub ll : length levels ≡ bundle_most
  pub lp : length place ≡ bundle_most
  pub deep : d < bundle_most
  pub level : LevelAfter g.size seats (take d place) here
  pub each : (j : ℕ) → j < d → LevelAfter g.size seats (take j place) (level_at levels j)
  pub stack : pops g k st ≡ stack_at g.size levels place d here.ahead
  pub simple : (p : List ℕ) → p among pops g k st → Simple g p

pub stands-start : {g : Places} {seats : List ℕ} {s : Depths} → g.size ≤ bundle_most → length s.place ≡ bundle_most
    → Ready g seats s → Stands g seats (stack_of g.size s) s.levels s.place (level_at s.levels s.depth) s.depth 0
stands-start {g} {seats} {s} few lp r = record {
  few = few;
  ll = r.long;
  lp = lp;
  deep = r.deep;
  level = r.each s.depth (omega arith);
  each = λ j h. r.each j (omega arith);
  stack = waiting-last g.size s.levels s.place s.depth;
  simple = r.simple;
}

pub same_level : {a a' f f' : ℕ} {s s' : Standing} → a ≡ a' → f ≡ f' → s ≡ s'
    → ◌≡◌ {A = Level} (record { ahead = a; free = f; standing = s }) (record { ahead = a'; free = f'; standing = s' })
same_level a f s = rw (a, f, s)

-- ---- where a search begins

only-first : (j : ℕ) → has j (joined 0 0) ≡ eqb j 0
only-first j = has-joined j 0 0 ∙ rw (has-none j)

-- at the first depth the leaf alone is ahead
module _ (n : ℕ) (levels : List Level) (place : List ℕ) (some : 1 ≤ n) (first : level_at levels 0 ≡ record { ahead = joined 0 0; free = below n; standing = begun }) where
  pub first-stack : waiting n levels place 1 ≡ (0 ∷ []) ∷ []
  unfolding waiting
  first-stack =
      rw (
        first,
        offered-top n (joined 0 0) 0 [] (only-first 0) (λ j l. only-first j ∙ ne_eqb j 0 (λ (z : j ≡ 0). omega arith)) (omega arith) some,
        offered-none n (left (joined 0 0) (joined 0 0)) [] (λ j. has_dropped (joined 0 0) 0 (omega arith) j ∙ rw (only-first j) (clash (eqb j 0))),
      )
    where
      clash : (x : Bool) → x && not x ≡ false
      clash true = refl
      clash false = refl

  -- every place is free, and the path begins
  pub first_ready : (seats : List ℕ) → length levels ≡ bundle_most → n ≤ bundle_most → joined 0 0 < 2 ^ 64
      → (rows : List ℕ) → Ready (places_by rows n) seats (record { place = place; levels = levels; depth = 0 })
  unfolding added_all
  first_ready seats long few fits rows = record {
    long = long;
    deep = omega arith;
    each = λ k h. let z : k ≡ 0 = omega arith in rw (z, first) (record {
      within = λ j l. only-first j ∙ ne_eqb j 0 (λ (z : j ≡ 0). omega arith);
      fits = fits;
      unused = λ j. has-below j n (omega arith) ∙ sym (and_yes (ltb j n));
      stands = refl;
    });
    simple = λ p m. let q : p ≡ 0 ∷ [] = Memᴰ.eq_of_singleton (rw first-stack at m) in rw q (start-simple (places_by rows n) some);
  }

pop-simple : (g : Places) (s : List (List ℕ)) → ((q : List ℕ) → q among s → Simple g q) → (p : List ℕ) → p among pop g s → Simple g p
pop-simple g [] h p m = h p m
pop-simple g (q ∷ s) h p m = ⊎_elim (λ l. kid_simple g (h q (here refl)) l) (λ r. h p (there r)) (Memᴰ.append_cases (kids g q) m)

module _ {g : Places} {seats : List ℕ} {st : List (List ℕ)} {levels : List Level} {place : List ℕ} {level : Level} {d k : ℕ}
    (S : Stands g seats st levels place level d k)
  where
    -- the level of this depth put back
    pub closed : waiting g.size (set levels d level) place (d + 1) ≡ pops g k st
    closed =
        let same : waiting g.size (set levels d level) place d ≡ waiting g.size levels place d =
        waiting-same g.size (set levels d level) levels place place d (λ j h. get_or-set_other levels d j level _ (λ (z : j ≡ d). omega arith)) (λ j h. refl) in
        waiting-last g.size (set levels d level) place d ∙ rw (get_or-set_same levels d level _ (omega (arith, S.ll, S.deep)), same) (sym S.stack)

    -- ---- no place is left at this depth

    module _ (none : level.ahead ≡ 0) where
      over-there : pops g k st ≡ waiting g.size levels place d
      over-there = S.stack ∙ ap (λ (s : List (List ℕ)). s ++ waiting g.size levels place d) (offered_zero g.size (take d place) none)

      pub over-all : d ≡ 0 → pops g k st ≡ []
      unfolding waiting
      over-all z = over-there ∙ ap (waiting g.size levels place) z

      pub climbed : 0 < d → Stands g seats st levels place (level_at levels (d - 1)) (d - 1) k
      unfolding waiting
      climbed b =
          let up : d ≡ suc (d - 1) = omega arith in
          record {
            few = S.few;
            ll = S.ll;
            lp = S.lp;
            deep = omega (arith, S.deep);
            level = S.each (d - 1) (omega arith);
            each = λ j h. S.each j (omega arith);
            stack = over-there ∙ ap (waiting g.size levels place) up;
            simple = S.simple;
          }

-- ---- the highest place is taken

-- a level where place i was taken
abbrev pub taken : Level → ℕ → Level
taken l i = record { ahead = left l.ahead (joined 0 i); free = l.free; standing = l.standing }

pub but_either : (x y z : Bool) → (x && not y) && not z ≡ x && not (y || z)
but_either true true z = refl
but_either true false z = refl
but_either false y z = refl

module _ {g : Places} {seats : List ℕ} {st : List (List ℕ)} {levels : List Level} {place : List ℕ} {level : Level} {d k : ℕ}
    (S : Stands g seats st levels place level d k) {i : ℕ} (which : i ≡ highest level.ahead) (some : ¬ (level.ahead ≡ 0))
  where
    taken_low : i < 64
    taken_low = rw which (highest-place level.ahead (omega (arith, some)) S.level.fits)

    taken-has : has i level.ahead ≡ true
    taken-has = rw which (highest-has level.ahead (omega (arith, taken_low)))

    pub place_low : i < g.size
    place_low = let h : ¬ (g.size ≤ i) = λ h. false≢true (sym (S.level.within i h) ∙ taken-has) in omega arith

    split : pops g k st ≡ snoc (take d place) i ∷ stack_at g.size levels place d (left level.ahead (joined 0 i))
    split =
        S.stack ∙ ap (λ (s : List (List ℕ)). s ++ waiting g.size levels place d)
        (offered-top g.size level.ahead i (take d place) taken-has (λ j h. highest-above level.ahead (omega (arith, taken_low)) j (omega arith)) taken_low place_low)

    -- the path that the next step takes
    pub met : top (pops g k st) ≡ snoc (take d place) i ∷ []
    met = ap top split

    pub path-is : take (d + 1) (set place d i) ≡ snoc (take d place) i
    path-is = rw add-one (take-suc-set place d i (omega (arith, S.lp, S.deep)))

    -- its roots
    pub roots_are : (issued : List ℕ) {after : Standing} {tops : ℕ} → after ≡ added seats level.standing i → tops ≡ common (over seats after) (get_or issued i 0)
        → tops ≡ roots_over issued seats (snoc (take d place) i)
    roots_are issued a e = e ∙ rw (a, S.level.stands) (sym (over-more seats issued (take d place) i))

    -- what does not change

    take-kept : (j : ℕ) → j ≤ d → take j (set place d i) ≡ take j place
    take-kept j h = take-set-le j place d i h

    under_kept : (o : List Level) → ((j : ℕ) → j < d → level_at o j ≡ level_at levels j) → waiting g.size o (set place d i) d ≡ waiting g.size levels place d
    under_kept o h = waiting-same g.size o levels (set place d i) place d h (λ j l. take-kept j (omega arith))

    level_here : LevelAfter g.size seats (take d (set place d i)) (taken level i)
    level_here = rw (take-kept d (omega arith)) (record {
      within = λ j h. has_dropped level.ahead i taken_low j ∙ rw (S.level.within j h);
      fits = left-fits level.ahead (joined 0 i) S.level.fits;
      unused = S.level.unused;
      stands = S.level.stands;
    })

    level_kept : (j : ℕ) → j < d → LevelAfter g.size seats (take j (set place d i)) (level_at levels j)
    level_kept j h = rw (take-kept j (omega arith)) (S.each j h)

    simple-after : (q : List ℕ) → q among pops g (suc k) st → Simple g q
    simple-after = pop-simple g (pops g k st) S.simple

    -- ---- the places by which it goes on, of those that issued i

    module _ (issuers : ℕ) (issued : (j : ℕ) → has j issuers ≡ g.issued j i) {next : ℕ} (is : next ≡ common (left level.free (joined 0 i)) issuers) where
      unused-next : (j : ℕ) → has j (left level.free (joined 0 i)) ≡ ltb j g.size && not (used j (snoc (take d place) i))
      unused-next j =
          has_dropped level.free i taken_low j
          ∙ rw (S.level.unused j, used-snoc j (take d place) i) (but_either (ltb j g.size) (used j (take d place)) (eqb j i))

      next-has : (j : ℕ) → has j next ≡ (ltb j g.size && not (used j (snoc (take d place) i))) && g.issued j i
      next-has j = ap (has j) is ∙ has-common j _ issuers ∙ ap₂ ◌&&◌ (unused-next j) (issued j)

      next-within : (j : ℕ) → g.size ≤ j → has j next ≡ false
      next-within j h = next-has j ∙ rw (le-ltb j g.size h)

      next-kids : offered g.size next (snoc (take d place) i) ≡ kids g (snoc (take d place) i)
      next-kids = offered-kids g next (snoc (take d place) i) (λ j h. next-has j ∙ rw (lt-ltb j g.size h, last_snoc 0 (take d place) i))

      popped : pops g (suc k) st ≡ offered g.size next (snoc (take d place) i) ++ stack_at g.size levels place d (left level.ahead (joined 0 i))
      popped = ap (pop g) split ∙ rw next-kids

      deeper : 0 < next → next < 2 ^ 64 → d + 1 < bundle_most
      deeper h f =
          let q : highest next < 64 = highest-place next h f in
          let l : highest next < g.size =
          let l : ¬ (g.size ≤ highest next) = λ l. false≢true (sym (next-within (highest next) l) ∙ highest-has next q) in omega arith in
          let e = offered-top g.size next (highest next) (snoc (take d place) i) (highest-has next q) (highest-above next q) q l in
          let s : Simple g (snoc (snoc (take d place) i) (highest next)) = simple-after (snoc (snoc (take d place) i) (highest next)) (rw (popped, e) (here refl)) in
          omega (arith, simple-length g s, S.few, length-snoc (snoc (take d place) i) (highest next), length-snoc (take d place) i, length-take-le d place (omega (arith, S.lp, S.deep)))

      -- there are none

      stayed' : next ≡ 0 → Stands g seats st levels (set place d i) (taken level i) d (suc k)
      stayed' z = record {
        few = S.few;
        ll = S.ll;
        lp = length-set place d i ∙ S.lp;
        deep = S.deep;
        level = level_here;
        each = level_kept;
        stack = popped ∙ rw (offered_zero g.size (snoc (take d place) i) z, take-kept d (omega arith), under_kept levels (λ j h. refl));
        simple = simple-after;
      }

      pub stayed : {here : Level} → here ≡ taken level i → next ≡ 0 → Stands g seats st levels (set place d i) here d (k + 1)
      stayed l z = rw (l, add-one k) (stayed' z)

      -- they wait at a new depth

      put_here : level_at (set levels d (taken level i)) d ≡ (taken level i)
      put_here = get_or-set_same levels d (taken level i) _ (omega (arith, S.ll, S.deep))

      put-kept : (j : ℕ) → j < d → level_at (set levels d (taken level i)) j ≡ level_at levels j
      put-kept j h = get_or-set_other levels d j (taken level i) _ (λ (z : j ≡ d). omega arith)

      level_new : (j : ℕ) → j < d + 1 → (t : Bool) → eqb j d ≡ t → LevelAfter g.size seats (take j (set place d i)) (level_at (set levels d (taken level i)) j)
      level_new j h true e = rw (eqb-true j d e, put_here) level_here
      level_new j h false e =
          let ne : j ≡ d → ⊥ = eqb-false j d e in
          let l : j < d = omega (arith, ne) in
          rw (put-kept j l) (level_kept j l)

      sank' : 0 < next → next < 2 ^ 64 → Stands g seats st (set levels d (taken level i)) (set place d i) (onward seats (taken level i) i next) (d + 1) (suc k)
      unfolding onward
      sank' h f = record {
        few = S.few;
        ll = length-set levels d (taken level i) ∙ S.ll;
        lp = length-set place d i ∙ S.lp;
        deep = deeper h f;
        level = rw path-is (record {
          within = next-within;
          fits = f;
          unused = unused-next;
          stands = rw S.level.stands (sym (standing-more seats (take d place) i));
        });
        each = λ j l. level_new j l (eqb j d) refl;
        stack = popped ∙ rw (path-is, waiting-last g.size (set levels d (taken level i)) (set place d i) d, put_here, take-kept d (omega arith), under_kept (set levels d (taken level i)) put-kept);
        simple = simple-after;
      }

      pub sank : {here after : Level} → here ≡ taken level i → after ≡ onward seats here i next → 0 < next → next < 2 ^ 64
          → Stands g seats st (set levels d here) (set place d i) after (d + 1) (k + 1)
      sank l a h f = rw (a, l, add-one k) (sank' h f)
