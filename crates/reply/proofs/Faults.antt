-- What stands in the way of a search, by its tests (`case_empty`, `case_cramped`, `case_runs`, `clear`), and what is answered then
-- (`stopped`, `lacking_some`, `answered_stops`, `answered-roomy`, `answered-over`). For the contracts of steps, search and report; the cases:
-- specs/Answer.antt, their numbers: specs/Numbers.antt.
use mathlib.Core.Bool.{Bool, true, false, cond, ◌&&◌}
use mathlib.Core.List.{List, []}
use mathlib.Core.Logic.{◌⊎◌, inl, inr}
use mathlib.Core.Path.{◌≡◌, refl, sym, ap, ◌∙◌}
use Prim.Native.Nat.{ℕ, ◌/◌, ◌≤◌, ◌<◌}
use native.Mathlib.Omega.{arith}
use borrow.Author.Tests.{ltb-true, leb-true, lt-ltb, le-ltb, le-leb, lt-leb}
use lib.Dec.{leb, ltb}
use Rattle.places.specs.Limits.{bundle_most}
use Rattle.order.specs.Slots.{slots_of}
use Rattle.reply.specs.declared.Answer.{Answer}
use Rattle.reply.specs.declared.Lack.{Lack}
use Rattle.reply.specs.declared.Lack.TheVariants.{Certificates, Room}
use Rattle.reply.specs.declared.Reply.TheVariants.{Error}
use Rattle.reply.specs.Answer.{path_shown, Stops, empty, cramped, runs, case_of, Answered}
use Rattle.reply.specs.Numbers.{fault_of, lacking}
use Rattle.reply.specs.Room.{has_room}
use Rattle.reply.specs.Slots.{slot_bytes}
use Rattle.reply.proofs.Says.{answer_one}

-- nothing stands in the way
pub record Clear (n bytes : ℕ) : Type 0 where
  pub some : 1 ≤ n
  pub few : n ≤ bundle_most
  pub room : slots_of n ≤ bytes / slot_bytes

-- what `Answer::stopped` answers, where nothing is written
pub stopped : {before : List ℕ} {a : Answer} {n e : ℕ} → n ≡ e → a.reply ≡ Error n → a.path ≡ path_shown [] → Stops e before before a
stopped {a = a} {e = e} h says shows = record { says = answer_one a (record { reply = Error e; path = path_shown [] }) (says ∙ ap Error h) shows; kept = refl }

-- what a search lacks has a number
pub lacking_some : (l : Lack) → 0 < lacking l
lacking_some Certificates = omega arith
lacking_some Room = omega arith

module _ (n b : ℕ) where
  pub room-few : n ≤ bundle_most → has_room n b ≡ leb (slots_of n) (b / slot_bytes)
  unfolding has_room
  room-few h = rw (le-leb n bundle_most h)

  pub room-many : bundle_most < n → has_room n b ≡ false
  unfolding has_room
  room-many h = rw (lt-leb n bundle_most h)

  -- ---- the case of x

  module _ {A : Type 0} (x : A) where
    pub case_empty : n ≡ 0 → case_of x n b ≡ empty
    unfolding case_of
    case_empty h = rw (le-ltb 0 n (omega arith))

    pub case_cramped : (n ≡ 0 → ⊥) → has_room n b ≡ false → case_of x n b ≡ cramped
    unfolding case_of
    case_cramped h e = rw (lt-ltb 0 n (omega arith), e)

    pub case_runs : (n ≡ 0 → ⊥) → has_room n b ≡ true → case_of x n b ≡ runs x
    unfolding case_of
    case_runs h e = rw (lt-ltb 0 n (omega arith), e)

    pub clear-runs : Clear n b → case_of x n b ≡ runs x
    clear-runs c = case_runs (λ z. omega (arith, c.some)) (room-few c.few ∙ le-leb (slots_of n) (b / slot_bytes) c.room)

    pub clear : fault_of (case_of x n b) ≡ 0 → Clear n b
    unfolding case_of has_room
    clear e = go (ltb 0 n) refl (leb n bundle_most) refl (leb (slots_of n) (b / slot_bytes)) refl e
      where
        go : (s : Bool) → ltb 0 n ≡ s → (t : Bool) → leb n bundle_most ≡ t → (u : Bool) → leb (slots_of n) (b / slot_bytes) ≡ u
            → ◌≡◌ {A = ℕ} (fault_of (cond s (cond (t && u) (runs x) cramped) empty)) 0 → Clear n b
        go true f true h true i q = record { some = ltb-true 0 n f; few = leb-true n bundle_most h; room = leb-true (slots_of n) (b / slot_bytes) i }
        go true f true h false i q = absurd (omega arith)
        go true f false h u i q = absurd (omega arith)
        go false f t h u i q = absurd (omega arith)

    -- it runs over nothing but x, and where it does nothing stands in the way
    pub runs-clear : {y : A} → case_of x n b ≡ runs y → (x ≡ y) × Clear n b
    runs-clear {y} e =
        let c = clear (ap fault_of e) in
        let same : runs x ≡ runs y = sym (clear-runs c) ∙ e in
        (cc, c)

    module _ (P : A → Type 0) (before after : List ℕ) (a : Answer) where
      pub answered_stops : 0 < fault_of (case_of n n b) → Stops (fault_of (case_of n n b)) before after a → Answered P (case_of x n b) before after a
      unfolding case_of
      answered_stops = go (ltb 0 n) (has_room n b)
        where
          go : (s y : Bool) → 0 < fault_of (cond s (cond y (runs n) cramped) empty)
              → Stops (fault_of (cond s (cond y (runs n) cramped) empty)) before after a → Answered P (cond s (cond y (runs x) cramped) empty) before after a
          go true true h z = absurd (omega arith)
          go true false h z = z
          go false y h z = z

      -- in room enough there is a search, or there is no certificate
      pub answered-roomy : has_room n b ≡ true → Answered P (case_of x n b) before after a → Stops 3 before after a ⊎ P x
      unfolding case_of
      answered-roomy e z = go (ltb 0 n) (rw e at z)
        where
          go : (s : Bool) → Answered P (cond s (runs x) empty) before after a → Stops 3 before after a ⊎ P x
          go true z = inr z
          go false z = inl z

      -- the same of y, where a search over x answers what one over y does
      pub answered-over : {B : Type 0} (y : B) (Q : B → Type 0) → (P x → Q y) → Answered P (case_of x n b) before after a → Answered Q (case_of y n b) before after a
      unfolding case_of
      answered-over {B} y Q f = go (ltb 0 n) (has_room n b)
        where
          go : (s t : Bool) → Answered P (cond s (cond t (runs x) cramped) empty) before after a → Answered Q (cond s (cond t (runs y) cramped) empty) before after a
          go true true z = f z
          go true false z = z
          go false t z = z
