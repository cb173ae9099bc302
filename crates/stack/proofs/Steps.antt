-- The steps of a search: where it begins (`stands-first`), the path on top (`Top`, `topped`), the records after its children are laid
-- (`holds-next`), whether the search then goes on (`stands-next`) or is over (`over-accepted`, `over-refused`, `over-exhausted`), and zeros
-- put above what stays (`rested`). For the proofs of src/drive.rt; where a search stands: specs/Stands.antt.
use mathlib.Core.Bool.{Bool, true, false, cond}
use mathlib.Core.List.Memᴰ.{head as here}
use mathlib.Core.List.{List, [], ◌∷◌, ◌++◌, map}
use mathlib.Core.Path.{◌≡◌, refl, sym, ap, ◌∙◌}
use Prim.Native.Nat.{ℕ, ◌+◌, ◌-◌, ◌≤◌, ◌<◌, zero-le}
use native.Mathlib.Numerals.{add-one}
use native.Mathlib.Omega.{arith}
use lib.ListN.{length, take, drop, get_or, set, replicate, length-append, length-set}
use lib.Seq.{get_or-take, get_or_at, take-take, take_at, drop-set-lt}
use Rattle.std.specs.Prelude.{◌≢◌}
use Rattle.std.proofs.lemmas.List.{take_more_set}
use Rattle.places.specs.Limits.{bundle_most}
use Rattle.order.specs.Listing.{◌among◌}
use Rattle.order.specs.Paths.{Simple}
use Rattle.order.specs.Slots.{slots_of}
use Rattle.order.specs.Walk.{snoc, next, kids, pop, top}
use Rattle.order.proofs.Simple.{simple-length}
use Rattle.order.proofs.Stack.{stack-simple}
use Rattle.reply.specs.Answer.{path_shown}
use Rattle.reply.specs.Settles.{QualifiesBy, Qualifies, accepted, refused, exhausted, steps}
use Rattle.reply.specs.declared.Reply.TheVariants as reply
use Rattle.reply.specs.declared.path.Path.{Path}
use Rattle.reply.proofs.Left.{stack-fits}
use Rattle.reply.proofs.Slots.{length-snoc}
use Rattle.steps.proofs.Ends.{vain-none, vain-more}
use Rattle.stack.specs.Stacked.{blank, stacked, laid, held_in}
use Rattle.stack.specs.Stands.{Lent, places_at, reach_at, waits, Fair, Holds, Stands, Over, Rested, pathless}
use Rattle.stack.specs.declared.drive.End.{End}
use Rattle.stack.proofs.Held.{length-stacked, stacked-append, length-laid, take-laid, drop-laid}

-- the path on top, what waits below it, and its record
pub record Top (t : Lent) (k m : ℕ) (l : List Path) : Type 0 where
  pub path : List ℕ
  pub below : List (List ℕ)
  pub waiting : waits t k ≡ path ∷ below
  pub shown : get_or l (m - 1) blank ≡ path_shown path
  pub under : take (m - 1) l ≡ stacked below
  pub at : m - 1 ≡ length below

module _ (t : Lent) (F : Fair t.terms (length t.before)) where
  -- what waits has room, and is simple
  pub waits_fit : (k : ℕ) → length (waits t k) ≤ slots_of t.terms.size
  waits_fit k = stack-fits (places_at t) F.some F.few k

  waits-simple : (k : ℕ) {p : List ℕ} → p among waits t k → Simple (places_at t) p
  waits-simple k {p} = stack-simple (places_at t) F.some k p

  -- the leaf alone is put in the first record
  pub stands-first : Stands t 0 1 (set t.before 0 (path_shown (0 ∷ [])))
  unfolding stacked
  stands-first =
      let some : 0 < slots_of t.terms.size = omega (arith, waits_fit 0) in
      record {
        vain = vain-none;
        time = zero-le;
        holds = record {
          many = refl;
          long = length-set t.before 0 (path_shown (0 ∷ []));
          paths = take_more_set t.before 0 (path_shown (0 ∷ [])) (omega (arith, some, F.room));
          rest = drop-set-lt (slots_of t.terms.size) t.before 0 (path_shown (0 ∷ [])) some;
        };
      }

  -- ---- a step

  module _ {k m : ℕ} {l : List Path} (S : Stands t k m l) where
    -- where none waits
    pub over-refused : m ≡ 0 → {e : End} → e.answer ≡ pathless (reply.Refused k) → e.waiting ≡ m → Over t e l
    over-refused z says left = record {
      outcome = refused k;
      ends = (S.time, S.vain, none (waits t k) (sym S.holds.many ∙ z));
      says = says;
      holds = rw left S.holds;
    }
      where
        none : (ws : List (List ℕ)) → length ws ≡ 0 → ws ≡ []
        none [] e = refl
        none (w ∷ ws) e = absurd (omega (arith, e))

    module _ (some : ¬ (m ≡ 0)) where
      pub inside : m - 1 < length l
      inside = omega (arith, some, S.holds.many, S.holds.long, waits_fit k, F.room)

      pub topped : Top t k m l
      unfolding stacked
      topped = go (waits t k) refl S.holds.many S.holds.paths
        where
          go : (ws : List (List ℕ)) → waits t k ≡ ws → m ≡ length ws → take m l ≡ stacked ws → Top t k m l
          go [] e n h = absurd (some n)
          go (p ∷ ws) e n h =
              let at : m - 1 ≡ length ws = omega (arith, n) in
              let less : m - 1 < m = omega (arith, n) in
              record {
                path = p;
                below = ws;
                waiting = e;
                shown = sym (get_or-take m l (m - 1) blank less) ∙ ap (λ (r : List Path). get_or r (m - 1) blank) h
                    ∙ get_or_at (stacked ws) (path_shown p) [] blank (m - 1) (length-stacked ws ∙ sym at);
                under = sym (take-take (m - 1) m l (omega arith)) ∙ ap (take (m - 1)) h ∙ take_at (stacked ws) (path_shown p ∷ []) (m - 1) (length-stacked ws ∙ sym at);
                at = at;
              }

      -- where the budget is spent
      pub over-exhausted : t.terms.budget ≤ k → {e : End} → e.answer ≡ pathless (reply.Exhausted k) → e.waiting ≡ m → Over t e l
      over-exhausted spent says left = record {
        outcome = exhausted k;
        ends = (omega (arith, S.time), S.vain, (topped.path, ap top topped.waiting));
        says = says;
        holds = rw left S.holds;
      }

    -- where a path is taken
    module _ (T : Top t k m l) where
      pub top-simple : Simple (places_at t) T.path
      top-simple = waits-simple k (rw T.waiting (here refl))

      pub waits-next : waits t (k + 1) ≡ kids (places_at t) T.path ++ T.below
      waits-next = rw add-one (ap (pop (places_at t)) T.waiting)

      pub kids_fit : m - 1 + length (kids (places_at t) T.path) ≤ length l
      kids_fit =
          omega (arith, waits_fit (k + 1), F.room, S.holds.long, ap length waits-next, length-append (kids (places_at t) T.path) T.below, T.at)

      -- where it has children, there is room for a place more
      pub kids-short : kids (places_at t) T.path ≢ [] → length T.path < bundle_most
      unfolding kids
      kids-short some = go (next (places_at t) T.path) refl
        where
          go : (is : List ℕ) → next (places_at t) T.path ≡ is → length T.path < bundle_most
          go [] e = absurd (some (ap (map (snoc T.path)) e))
          go (i ∷ is) e =
              let q : Simple (places_at t) (snoc T.path i) = waits-simple (k + 1) (rw (waits-next, e) (here refl)) in
              omega (arith, simple-length (places_at t) q, F.few, length-snoc T.path i)

      module _ {m' : ℕ} {l' : List Path} (up : m' ≡ m - 1 + length (kids (places_at t) T.path)) (is : l' ≡ laid (m - 1) (kids (places_at t) T.path) l) where
        abbrev more : List (List ℕ)
        more = kids (places_at t) T.path

        holds-next : Holds t (waits t (k + 1)) m' l'
        holds-next =
            let n : length (more ++ T.below) ≡ m' = length-append more T.below ∙ omega (arith, up, T.at) in
            let low : m - 1 + length more ≤ slots_of t.terms.size = omega (arith, waits_fit (k + 1), ap length waits-next, n, up) in
            rw (waits-next, is) (record {
              many = sym n;
              long = length-laid (m - 1) l more kids_fit ∙ S.holds.long;
              paths = ap (λ (j : ℕ). take j (laid (m - 1) more l)) up ∙ take-laid (m - 1) l more kids_fit
                  ∙ ap (λ (r : List Path). r ++ stacked more) T.under ∙ sym (stacked-append more T.below);
              rest = drop-laid (m - 1) l more kids_fit (slots_of t.terms.size) low ∙ S.holds.rest;
            })

        -- a path that reaches no root
        pub stands-next : k < t.terms.budget → ¬ Qualifies (reach_at t) T.path → Stands t (k + 1) m' l'
        stands-next time none = record {
          vain = vain-more S.vain (ap top T.waiting) none;
          time = omega (arith, time);
          holds = holds-next;
        }

        -- a path that reaches one
        pub over-accepted : k < t.terms.budget → {r : ℕ} → QualifiesBy (reach_at t) T.path r × ((i : ℕ) → QualifiesBy (reach_at t) T.path i → r ≤ i)
            → {path : Path} → path ≡ path_shown T.path → Over t (record { answer = record { reply = reply.Accepted (record { 0 = r }) (k + 1); path = path }; waiting = m' }) l'
        over-accepted time {r} (q, low) {path} shown = record {
          outcome = accepted T.path r (k + 1);
          ends = (k, add-one k, omega (arith, time), S.vain, ap top T.waiting, q, low);
          says = ap (λ (p : Path). record { reply = reply.Accepted (record { 0 = r }) (k + 1); path = p }) shown;
          holds = holds-next;
        }

  -- ---- where the search is over

  module _ {e : End} {l : List Path} (O : Over t e l) where
    pub stays-fit : {m : ℕ} → m ≡ cond t.terms.leaves e.waiting 0 → m ≤ slots_of t.terms.size
    stays-fit {m} is = rw is (go t.terms.leaves)
      where
        go : (b : Bool) → cond b e.waiting 0 ≤ slots_of t.terms.size
        go true = omega (arith, O.holds.many, waits_fit (steps O.outcome))
        go false = zero-le

    pub over-room : slots_of t.terms.size ≤ length l
    over-room = omega (arith, F.room, O.holds.long)

    -- zeros are put above what stays
    pub rested : {m : ℕ} → m ≡ cond t.terms.leaves e.waiting 0 → {l' : List Path}
        → l' ≡ take m l ++ (replicate (slots_of t.terms.size - m) blank ++ drop (slots_of t.terms.size) l) → Rested t e.answer l'
    unfolding stacked
    rested {m} is {l'} clear = record {
      outcome = O.outcome;
      ends = O.ends;
      says = O.says;
      held = clear ∙ rw (is, O.holds.rest) (go t.terms.leaves);
    }
      where
        go : (b : Bool) → take (cond b e.waiting 0) l ++ (replicate (slots_of t.terms.size - cond b e.waiting 0) blank ++ drop (slots_of t.terms.size) t.before)
            ≡ held_in t.terms.size (cond b (waits t (steps O.outcome)) []) t.before
        go true = rw (O.holds.paths, O.holds.many) refl
        go false = refl
