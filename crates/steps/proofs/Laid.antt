-- The rows of a walk as paths in the slots, depth by depth: one path's slot, one row (`offered_yes`, `offered_no`, `child_room`), the
-- depths (`lying_none`, `lying_more`, `lying_cleared`). For the loops of src/lay.rt; what waits by depths: specs/Parts.antt; what the room
-- must hold: reply/specs/Laid.antt; a slot read back: Stack.antt.
use mathlib.Core.Bool.{Bool, true, false}
use mathlib.Core.List.Memᴰ
use mathlib.Core.List.{List, [], ◌∷◌, ◌++◌, map, append_assoc}
use mathlib.Core.Logic.{⊎_elim}
use mathlib.Core.Path.{◌≡◌, refl, sym, ap, ◌∙◌, subst}
use Prim.Native.Nat.{ℕ, zero, suc, ◌+◌, ◌-◌, ◌*◌, ◌≤◌, ◌<◌}
use native.Mathlib.Nat.{add-zero, add-suc, le_refl}
use native.Mathlib.Numerals.{add-one}
use native.Mathlib.Omega.{arith}
use lib.ListN.{length, take, drop, get_or, set, replicate, length-append}
use lib.Seq.{paste, take-suc, take_at, drop_at, drop-drop, length-take-le}
use Rattle.places.specs.Limits.{bundle_most}
use Rattle.order.specs.Listing.{◌among◌}
use Rattle.order.specs.Slots.{slots_of}
use Rattle.order.specs.Walk.{put, keep, down, snoc}
use Rattle.rows.specs.Rows.{has}
use Rattle.steps.specs.declared.walk.Level.{Level}
use Rattle.steps.specs.Parts.{path_of, offered, level_at, waiting}
use Rattle.reply.specs.Laid.{flat, holding}
use Rattle.reply.specs.Slots.{slot_bytes, slot_of}
use Rattle.reply.proofs.Slots.{length_slot, length-snoc, slot_child, length-flat, flat_append}
use Rattle.steps.proofs.Levels.{waiting-last}
use Rattle.steps.proofs.Stack.{path_slot, laid_out, push_room}

-- the slot of one place more
pub slot_more : (place s : List ℕ) (j : ℕ) → j < bundle_most → length place ≡ bundle_most → s ≡ slot_of (take j place)
    → set (set s (j + 1) (get_or place j 0)) 0 (j + 1) ≡ slot_of (take (j + 1) place)
slot_more place s j b l e =
    let z : length (take j place) ≡ j = length-take-le j place (omega arith) in
    let t : take (j + 1) place ≡ take j place ++ (get_or place j 0 ∷ []) = rw add-one (take-suc place j 0 (omega arith)) in
    rw (e, t) (rw z at (slot_child (take j place) (get_or place j 0) (omega arith)))

pub slot_path : (s p : List ℕ) → s ≡ slot_of p → path_of s ≡ p
slot_path s p e = ap path_of e ∙ path_slot p

-- ---- one row

module _ (row : ℕ) (p : List ℕ) where
  pub offered_yes : (i : ℕ) → has i row ≡ true → offered (i + 1) row p ≡ snoc p i ∷ offered i row p
  unfolding offered
  offered_yes i h = rw add-one (rw h)

  pub offered_no : (i : ℕ) → has i row ≡ false → offered (i + 1) row p ≡ offered i row p
  unfolding offered
  offered_no i h = rw add-one (rw h)

  offered-short : length p < bundle_most → (n : ℕ) (q : List ℕ) → q among offered n row p → length q ≤ bundle_most
  unfolding offered
  offered-short h n q m =
      let (j, _, e) = Memᴰ.of_map (snoc p) (keep (λ i. has i row) (down n)) m in
      rw (← e) (omega (arith, length-snoc p j))

  offered-flat : length p < bundle_most → (n : ℕ) → length (flat (offered n row p)) ≡ slot_bytes * length (offered n row p)
  offered-flat h n = length-flat (offered n row p) (offered-short h n)

  offered_grows : (i n : ℕ) → length (offered i row p) ≤ length (offered (i + n) row p)
  unfolding offered
  offered_grows i zero = rw add-zero (le_refl (length (offered i row p)))
  offered_grows i (suc n) = rw add-suc (go (has (i + n) row) (keep (λ j. has j row) (down (i + n))) (offered_grows i n))
    where
      go : (b : Bool) (xs : List ℕ) → length (offered i row p) ≤ length (map (snoc p) xs) → length (offered i row p) ≤ length (map (snoc p) (put b (i + n) xs))
      go true xs h = omega arith
      go false xs h = h

  module _ (n : ℕ) (s : length p < bundle_most) (i : ℕ) (b : i < n) (y : has i row ≡ true) where
    pub child_below : length (offered i row p) < length (offered n row p)
    child_below =
        let e : i + 1 + (n - (i + 1)) ≡ n = omega arith in
        omega (arith, ap length (offered_yes i y), subst (λ (k : ℕ). length (offered (i + 1) row p) ≤ length (offered k row p)) e (offered_grows (i + 1) (n - (i + 1))))

    pub child_room : (start room : List ℕ) (m top : ℕ) → slot_bytes * (m + length (offered n row p)) ≤ length start → top ≡ m + length (offered i row p)
        → room ≡ laid_out start m (flat (offered i row p)) top
        → paste room (slot_bytes * top) (slot_of (snoc p i)) slot_bytes ≡ laid_out start m (flat (offered (i + 1) row p)) (top + 1)
    unfolding flat
    child_room start room m top l t r =
        let f : List ℕ = flat (offered i row p) in
        let fl : length f ≡ slot_bytes * length (offered i row p) = offered-flat s i in
        let k : length (slot_of (snoc p i)) ≡ slot_bytes = length_slot (snoc p i) (omega (arith, length-snoc p i)) in
        let less : length (offered i row p) < length (offered n row p) = child_below in
        ap (λ (x : List ℕ). paste x (slot_bytes * top) (slot_of (snoc p i)) slot_bytes) r
        ∙ push_room start m top f (slot_of (snoc p i)) (omega arith) (omega arith) k
        ∙ ap (λ (x : List (List ℕ)). laid_out start m (flat x) (top + 1)) (sym (offered_yes i y))

-- ---- the depths

module _ (n : ℕ) (levels : List Level) (place : List ℕ) where
  waiting-short : (d : ℕ) → length place ≡ bundle_most → d ≤ bundle_most → (q : List ℕ) → q among waiting n levels place d → length q ≤ bundle_most
  unfolding waiting
  waiting-short zero l h q m = absurd (Memᴰ.not-nil m)
  waiting-short (suc d) l h q m = ⊎_elim
      (λ a. offered-short (level_at levels d).ahead (take d place) (omega (arith, length-take-le d place (omega arith))) n q a)
      (λ a. waiting-short d l (omega arith) q a)
      (Memᴰ.append_cases (offered n (level_at levels d).ahead (take d place)) m)

  pub waiting-flat : (d : ℕ) → length place ≡ bundle_most → d ≤ bundle_most → length (flat (waiting n levels place d)) ≡ slot_bytes * length (waiting n levels place d)
  waiting-flat d l h = length-flat (waiting n levels place d) (waiting-short d l h)

  waiting_grows : (d k : ℕ) → length (waiting n levels place d) ≤ length (waiting n levels place (d + k))
  unfolding waiting
  waiting_grows d zero = rw add-zero (le_refl (length (waiting n levels place d)))
  waiting_grows d (suc k) =
      rw add-suc (omega (arith, waiting_grows d k, length-append (offered n (level_at levels (d + k)).ahead (take (d + k) place)) (waiting n levels place (d + k))))

  -- the paths that wait at the first k depths lie in the first m slots of the room
  pub record Lying (start room : List ℕ) (k m : ℕ) : Type 0 where
    pub size : m ≡ length (waiting n levels place k)
    pub held : room ≡ flat (waiting n levels place k) ++ drop (slot_bytes * m) start
    pub long : length room ≡ length start

  pub lying_none : (start : List ℕ) → Lying start start 0 0
  unfolding waiting flat
  lying_none start = record { size = refl; held = refl; long = refl }

  module _ {start room : List ℕ} {k m : ℕ} (L : Lying start room k m) (b : k < bundle_most) (l : length place ≡ bundle_most) where
    -- there are slots for the depth k
    pub room-more : (depths : ℕ) → k < depths → slot_bytes * length (waiting n levels place depths) ≤ length start
        → slot_bytes * (m + length (offered n (level_at levels k).ahead (take k place))) ≤ length room
    room-more depths h f =
        let e : k + 1 + (depths - (k + 1)) ≡ depths = omega arith in
        let g : length (waiting n levels place (k + 1)) ≤ length (waiting n levels place depths) =
        subst (λ (x : ℕ). length (waiting n levels place (k + 1)) ≤ length (waiting n levels place x)) e (waiting_grows (k + 1) (depths - (k + 1))) in
        omega (arith, ap length (waiting-last n levels place k), length-append (offered n (level_at levels k).ahead (take k place)) (waiting n levels place k), L.size, L.long)

    pub lying_more : {after : List ℕ} {r : ℕ} → r ≡ m + length (offered n (level_at levels k).ahead (take k place))
        → after ≡ laid_out room m (flat (offered n (level_at levels k).ahead (take k place))) r → length after ≡ length room → Lying start after (k + 1) r
    lying_more {after} {r} z e len =
        let st : List (List ℕ) = waiting n levels place k in
        let cs : List (List ℕ) = offered n (level_at levels k).ahead (take k place) in
        let fl : length (flat st) ≡ slot_bytes * m = waiting-flat k l (omega arith) ∙ omega (arith, L.size) in
        let t : take (slot_bytes * m) room ≡ flat st = ap (take (slot_bytes * m)) L.held ∙ take_at (flat st) (drop (slot_bytes * m) start) (slot_bytes * m) fl in
        let up : slot_bytes * m + (slot_bytes * r - slot_bytes * m) ≡ slot_bytes * r = omega arith in
        let d : drop (slot_bytes * r) room ≡ drop (slot_bytes * r) start =
        ap (λ (j : ℕ). drop j room) (sym up) ∙ sym (drop-drop (slot_bytes * r - slot_bytes * m) (slot_bytes * m) room)
        ∙ ap (drop (slot_bytes * r - slot_bytes * m)) (ap (drop (slot_bytes * m)) L.held ∙ drop_at (flat st) (drop (slot_bytes * m) start) (slot_bytes * m) fl)
        ∙ drop-drop (slot_bytes * r - slot_bytes * m) (slot_bytes * m) start ∙ ap (λ (j : ℕ). drop j start) up in
        record {
          size = z ∙ omega (arith, L.size, ap length (waiting-last n levels place k), length-append cs st);
          held = e ∙ rw (t, d, waiting-last n levels place k, flat_append) (sym (append_assoc (flat st) (flat cs) (drop (slot_bytes * r) start)));
          long = len ∙ L.long;
        }

  -- what lies there, and zeros above it up to the needed slots
  pub lying_cleared : (before mid : List ℕ) {after : List ℕ} {m : ℕ} (depths : ℕ) → length place ≡ bundle_most → depths ≤ bundle_most → m ≡ length (waiting n levels place depths)
      → m ≤ slots_of n → mid ≡ flat (waiting n levels place depths) ++ drop (slot_bytes * m) before
      → after ≡ take (slot_bytes * m) mid ++ (replicate (slot_bytes * slots_of n - slot_bytes * m) 0 ++ drop (slot_bytes * slots_of n) mid)
      → after ≡ holding n (waiting n levels place depths) before
  lying_cleared before mid {after} {m} depths l few e fits h z =
      let st : List (List ℕ) = waiting n levels place depths in
      let fl : length (flat st) ≡ slot_bytes * m = waiting-flat depths l few ∙ omega arith in
      let t : take (slot_bytes * m) mid ≡ flat st = ap (take (slot_bytes * m)) h ∙ take_at (flat st) (drop (slot_bytes * m) before) (slot_bytes * m) fl in
      let up : slot_bytes * m + (slot_bytes * slots_of n - slot_bytes * m) ≡ slot_bytes * slots_of n = omega arith in
      let d : drop (slot_bytes * slots_of n) mid ≡ drop (slot_bytes * slots_of n) before =
      ap (λ (j : ℕ). drop j mid) (sym up) ∙ sym (drop-drop (slot_bytes * slots_of n - slot_bytes * m) (slot_bytes * m) mid)
      ∙ ap (drop (slot_bytes * slots_of n - slot_bytes * m)) (ap (drop (slot_bytes * m)) h ∙ drop_at (flat st) (drop (slot_bytes * m) before) (slot_bytes * m) fl)
      ∙ drop-drop (slot_bytes * slots_of n - slot_bytes * m) (slot_bytes * m) before ∙ ap (λ (j : ℕ). drop j before) up in
      rw (← e) (z ∙ rw (t, d))
