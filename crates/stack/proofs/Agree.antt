-- The search in records and the search in bytes agree: with as many records as a room has slots they give the same answer, and each needed
-- record has the bytes of its slot (`search_agrees`, `pause_agrees`). What is promised of the bytes is said of the records: which paths they
-- hold, that the rest are zeros or as they were (`holding_records`), that an error leaves them all (`stops_records`), and that there is
-- one answer and one list of records (`search_records_one`, `pause_records_one`). What is promised: search/specs/Search.antt; the bytes of
-- records: reply/specs/Records.antt.
use mathlib.Core.Bool.{Bool, true, false, cond, ◌&&◌}
use mathlib.Core.List.{List, [], ◌∷◌, ◌++◌, map}
use mathlib.Core.Path.{◌≡◌, refl, sym, ap, ap₂, ◌∙◌}
use Prim.Native.Nat.{ℕ, zero, suc, ◌+◌, ◌-◌, ◌*◌, ◌/◌, ◌≤◌, ◌<◌}
use native.Mathlib.Omega.{arith}
use borrow.Author.Tests.{ltb-true, ltb-false}
use lib.Dec.{leb, ltb}
use lib.ListN.{length, take, drop, get_or}
use lib.Seq.{take_at, drop_at, drop-drop}
use Rattle.places.specs.Limits.{bundle_most}
use Rattle.places.specs.declared.BundlePlace.{BundlePlace}
use Rattle.card.specs.Content.{Content, content_p}
use Rattle.fields.specs.Fields.{Parsed, got, stop}
use Rattle.order.specs.Paths.{Places}
use Rattle.order.specs.Slots.{slots_of}
use Rattle.order.proofs.Waiting.{after_unique}
use Rattle.reply.specs.Answer.{path_shown, answering, Tells, Paused, Searched, Stops, Case, unread, empty, cramped, runs, case_of, Answered}
use Rattle.reply.specs.Records.{record_bytes, bytes_of}
use Rattle.reply.specs.Room.{has_room, slot_at, Holding}
use Rattle.reply.specs.Settles.{Reach, Outcome}
use Rattle.reply.specs.Slots.{slot_bytes}
use Rattle.reply.specs.declared.Answer.{Answer}
use Rattle.reply.specs.declared.path.Path.{Path}
use Rattle.reply.proofs.Faults.{runs-clear}
use Rattle.reply.proofs.Unique.{Same, settles_unique}
use Rattle.search.specs.Search.{case_in, Search, Pause}
use Rattle.search.proofs.One.{search_one, pause_one}
use Rattle.stack.specs.Stacked.{blank, Whole}
use Rattle.stack.proofs.Bytes.{whole-rest, length_record, length-bytes, record_slot, blank-bytes, bytes_drop}

-- ---- records by their bytes

-- the bytes of record i stand in slot i
pub record_at : (l : List Path) → Whole l → (i : ℕ) → i < length l → slot_at i (bytes_of l) ≡ record_bytes (get_or l i blank)
record_at [] w i h = absurd (omega arith)
record_at (r ∷ l) w zero h = take_at (record_bytes r) (bytes_of l) slot_bytes (length_record r (w 0 (omega arith)))
record_at (r ∷ l) w (suc i) h =
    let up : slot_bytes + slot_bytes * i ≡ slot_bytes * suc i = omega arith in
    ap (λ (j : ℕ). take slot_bytes (drop j (record_bytes r ++ bytes_of l))) (sym up)
    ∙ ap (take slot_bytes) (sym (drop-drop (slot_bytes * i) slot_bytes (record_bytes r ++ bytes_of l)) ∙ ap (drop (slot_bytes * i)) (drop_at (record_bytes r) (bytes_of l) slot_bytes (length_record r (w 0 (omega arith)))))
    ∙ record_at l (whole-rest r l w) i (omega arith)

numbers_one : (a b : List BundlePlace) → map (λ (i : BundlePlace). i.0) a ≡ map (λ (i : BundlePlace). i.0) b → a ≡ b
numbers_one [] [] e = refl
numbers_one [] (y ∷ b) e = absurd (omega (arith, ap length e))
numbers_one (x ∷ a) [] e = absurd (omega (arith, ap length e))
numbers_one (x ∷ a) (y ∷ b) e =
    ap₂ (λ (n : ℕ) (t : List BundlePlace). record { 0 = n } ∷ t) (ap (λ (l : List ℕ). get_or l 0 0) e) (numbers_one a b (ap (drop 1) e))

pub record_one : (r q : Path) → record_bytes r ≡ record_bytes q → r ≡ q
record_one r q e =
    ap₂ (λ (n : ℕ) (p : List BundlePlace). record { length = n; places = p }) (ap (λ (l : List ℕ). get_or l 0 0) e) (numbers_one r.places q.places (ap (drop 1) e))

-- no other records have these bytes
pub bytes_one : (a b : List Path) → Whole a → Whole b → bytes_of a ≡ bytes_of b → a ≡ b
bytes_one [] [] v w e = refl
bytes_one [] (q ∷ b) v w e = absurd (omega (arith, ap length e))
bytes_one (r ∷ a) [] v w e = absurd (omega (arith, ap length e))
bytes_one (r ∷ a) (q ∷ b) v w e =
    let f : length (record_bytes r) ≡ slot_bytes = length_record r (v 0 (omega arith)) in
    let g : length (record_bytes q) ≡ slot_bytes = length_record q (w 0 (omega arith)) in
    let first : record_bytes r ≡ record_bytes q = sym (take_at (record_bytes r) (bytes_of a) slot_bytes f) ∙ ap (take slot_bytes) e ∙ take_at (record_bytes q) (bytes_of b) slot_bytes g in
    let rest : bytes_of a ≡ bytes_of b = sym (drop_at (record_bytes r) (bytes_of a) slot_bytes f) ∙ ap (drop slot_bytes) e ∙ drop_at (record_bytes q) (bytes_of b) slot_bytes g in
    ap₂ (λ (x : Path) (l : List Path). x ∷ l) (record_one r q first) (bytes_one a b (whole-rest r a v) (whole-rest q b w) rest)

-- ---- what is promised of the bytes, said of the records

-- of the records that n certificates need the first hold the paths ws, record i the i-th from the end, and the others zeros; the rest are
-- as they were
pub record Records (n : ℕ) (ws : List (List ℕ)) (before after : List Path) : Type 0 where
  pub paths : (i : ℕ) → i < length ws → get_or after i blank ≡ path_shown (get_or ws (length ws - 1 - i) [])
  pub zeros : (i : ℕ) → length ws ≤ i → i < slots_of n → get_or after i blank ≡ blank
  pub rest : drop (slots_of n) after ≡ drop (slots_of n) before

module _ (before after : List Path) (v : Whole before) (w : Whole after) where
  whole_drop : (k : ℕ) (l : List Path) → Whole l → Whole (drop k l)
  whole_drop zero l w = w
  whole_drop (suc k) [] w = w
  whole_drop (suc k) (r ∷ l) w = whole_drop k l (whole-rest r l w)

  pub holding_records : (n : ℕ) (ws : List (List ℕ)) → length ws ≤ slots_of n → slots_of n ≤ length after → Holding n ws (bytes_of before) (bytes_of after)
      → Records n ws before after
  holding_records n ws few room h = record {
    paths = λ i b. record_one _ _ (sym (record_at after w i (omega arith)) ∙ h.paths i b ∙ sym (record_slot (get_or ws (length ws - 1 - i) [])));
    zeros = λ i low b. record_one _ _ (sym (record_at after w i (omega arith)) ∙ h.zeros i low b ∙ sym blank-bytes);
    rest = bytes_one _ _ (whole_drop (slots_of n) after w) (whole_drop (slots_of n) before v)
        (bytes_drop (slots_of n) after w ∙ h.rest ∙ sym (bytes_drop (slots_of n) before v));
  }

  -- an error leaves all records as they were
  pub stops_records : (e : ℕ) (a : Answer) → Stops e (bytes_of before) (bytes_of after) a → after ≡ before
  stops_records e a s = bytes_one after before w v s.kept

-- ---- one answer, and one list of records

module _ (s : List ℕ) (before after later : List Path) (v : Whole after) (w : Whole later) (a b : Answer) where
  one : Same a b (bytes_of after) (bytes_of later) → (a ≡ b) × (after ≡ later)
  one x = (x.answer, bytes_one after later v w x.room)

  pub search_records_one : Search (content_p s) (bytes_of before) (bytes_of after) a → Search (content_p s) (bytes_of before) (bytes_of later) b → (a ≡ b) × (after ≡ later)
  search_records_one x y = one (search_one s (bytes_of before) (bytes_of after) (bytes_of later) a b x y)

  pub pause_records_one : (k : ℕ) → Pause (content_p s) k (bytes_of before) (bytes_of after) a → Pause (content_p s) k (bytes_of before) (bytes_of later) b
      → (a ≡ b) × (after ≡ later)
  pause_records_one k x y = one (pause_one s (bytes_of before) (bytes_of after) (bytes_of later) a b k x y)

-- ---- records and bytes

-- two rooms with the same paths hold the same in each needed slot
slots_same : (n : ℕ) (ws : List (List ℕ)) {before after earlier later : List ℕ} → Holding n ws before after → Holding n ws earlier later
    → (i : ℕ) → i < slots_of n → slot_at i after ≡ slot_at i later
slots_same n ws {before} {after} {earlier} {later} x y i h = go (ltb i (length ws)) refl
  where
    go : (t : Bool) → ltb i (length ws) ≡ t → slot_at i after ≡ slot_at i later
    go true e = let b = ltb-true i (length ws) e in x.paths i b ∙ sym (y.paths i b)
    go false e = let b = ltb-false i (length ws) e in x.zeros i b h ∙ sym (y.zeros i b h)

-- the answers are the same, and so are the first n slots
pub record Alike (n : ℕ) (after later : List ℕ) (a b : Answer) : Type 0 where
  pub answer : a ≡ b
  pub slots : (i : ℕ) → i < n → slot_at i after ≡ slot_at i later

module _ {g : Places} {w : Reach} {k : ℕ} {a b : Answer} where
  same_outcome : {o u : Outcome} → Tells g w k a o → Tells g w k b u → o ≡ u
  same_outcome {o} {u} x y = settles_unique g w k o u x.settled y.settled

  same_answer : {o u : Outcome} → Tells g w k a o → Tells g w k b u → a ≡ b
  same_answer x y = x.says ∙ ap answering (same_outcome x y) ∙ sym y.says

  searched_alike : {before after earlier later : List ℕ} → Searched g w k before after a → Searched g w k earlier later b → Alike (slots_of g.size) after later a b
  searched_alike x y = record { answer = same_answer x.tells y.tells; slots = slots_same g.size [] x.clear y.clear }

  paused_alike : {before after earlier later : List ℕ} → Paused g w k before after a → Paused g w k earlier later b → Alike (slots_of g.size) after later a b
  paused_alike x y =
      let e = same_outcome x.tells y.tells in
      let p = x.holds in
      let q = y.holds in
      let z : p.waiting ≡ q.waiting = after_unique g (rw e at p.order) q.order in
      record { answer = same_answer x.tells y.tells; slots = slots_same g.size q.waiting (rw z at p.room) q.room }

-- so many bytes and as many records as they have slots come to the same case
case_same : {A : Type 0} (x : A) (n bytes records : ℕ) → bytes / slot_bytes ≡ records → case_of x n bytes ≡ case_of x n (slot_bytes * records)
unfolding case_of has_room
case_same x n bytes records e =
    let f : bytes / slot_bytes ≡ slot_bytes * records / slot_bytes = omega arith in
    ap (λ (m : ℕ). cond (ltb 0 n) (cond (leb n bundle_most && leb (slots_of n) m) (runs x) cramped) empty) f

-- 1 where there is a search
abbrev runs-at : Case Content → ℕ
runs-at (unread r) = 0
runs-at empty = 0
runs-at cramped = 0
runs-at (runs c) = 1

-- the answers are the same, and where there is a search each needed record has the bytes of its slot
pub record Agrees (s : List ℕ) (before after : List ℕ) (a : Answer) (later : List Path) (b : Answer) : Type 0 where
  pub answer : a ≡ b
  pub records : (c : Content) → case_in (content_p s) (length before) ≡ runs c → (i : ℕ) → i < slots_of (length c.bundle)
      → slot_at i after ≡ record_bytes (get_or later i blank)

module _ (s before after : List ℕ) (a : Answer) (earlier later : List Path) (b : Answer)
    (v : Whole earlier) (w : Whole later) (long : length later ≡ length earlier) (same : length before / slot_bytes ≡ length earlier)
  where
    case_in_lem : (x : Parsed Content) → case_in x (length (bytes_of earlier)) ≡ case_in x (length before)
    case_in_lem (got c e) = rw (length-bytes earlier v) (sym (case_same c (length c.bundle) (length before) (length earlier) same))
    case_in_lem (stop r) = refl

    -- the needed records are there
    room_in : (x : Parsed Content) (c : Content) → case_in x (length before) ≡ runs c → slots_of (length c.bundle) ≤ length later
    room_in (got d e) c f =
        let (g, h) = runs-clear (length d.bundle) (length before) d f in
        let k : slots_of (length d.bundle) ≤ length later = omega (arith, h.room) in
        rw g at k
    room_in (stop r) c f = absurd (omega (arith, ap runs-at f))

    module _ (P Q : Content → Type 0) (alike : (c : Content) → P c → Q c → Alike (slots_of (length c.bundle)) after (bytes_of later) a b) where
      stopped : {z : Case Content} → case_in (content_p s) (length before) ≡ z → runs-at z ≡ 0 → {n : ℕ} → Stops n before after a → Stops n (bytes_of earlier) (bytes_of later) b
          → Agrees s before after a later b
      stopped e none x y = record { answer = x.says ∙ sym y.says; records = λ c h. absurd (omega (arith, none, ap runs-at (sym e ∙ h))) }

      found : (d : Content) → case_in (content_p s) (length before) ≡ runs d → Alike (slots_of (length d.bundle)) after (bytes_of later) a b → Agrees s before after a later b
      found d e x = record {
        answer = x.answer;
        records = λ c h i k.
            let same : runs d ≡ runs c = sym e ∙ h in
            let same-content : d ≡ c = cc in
            let k' : i < slots_of (length d.bundle) = rw same-content k in
            x.slots i k' ∙ record_at later w i (omega (arith, room_in (content_p s) d e));
      }

      by_case : (z : Case Content) → case_in (content_p s) (length before) ≡ z → Answered P z before after a → Answered Q z (bytes_of earlier) (bytes_of later) b
          → Agrees s before after a later b
      by_case (unread r) e x y = stopped e refl x y
      by_case empty e x y = stopped e refl x y
      by_case cramped e x y = stopped e refl x y
      by_case (runs d) e x y = found d e (alike d x y)

      agrees : Answered P (case_in (content_p s) (length before)) before after a
          → Answered Q (case_in (content_p s) (length (bytes_of earlier))) (bytes_of earlier) (bytes_of later) b → Agrees s before after a later b
      agrees x y = by_case (case_in (content_p s) (length before)) refl x (rw (case_in_lem (content_p s)) at y)

    pub search_agrees : Search (content_p s) before after a → Search (content_p s) (bytes_of earlier) (bytes_of later) b → Agrees s before after a later b
    search_agrees = agrees _ _ (λ c. searched_alike)

    pub pause_agrees : (k : ℕ) → Pause (content_p s) k before after a → Pause (content_p s) k (bytes_of earlier) (bytes_of later) b → Agrees s before after a later b
    pause_agrees k = agrees _ _ (λ c. paused_alike)
