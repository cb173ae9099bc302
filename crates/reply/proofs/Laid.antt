-- A room that is laid slot behind slot holds the paths as specs/Room.antt says (`laid_holding`), and only such a room does
-- (`holding_laid`). A path that waits fits in a slot (`stack_in_slots`). For Total.antt, Unique.antt and steps; the room as it is laid:
-- specs/Laid.antt; one path in its slot: Slots.antt.
use mathlib.Core.Bool.{Bool, true, false}
use mathlib.Core.List.Memᴰ.{head as here}
use mathlib.Core.List.Memᴰ.{tail as there}
use mathlib.Core.List.{List, [], ◌∷◌, ◌++◌, append_assoc}
use mathlib.Core.Path.{◌≡◌, refl, sym, ap, ap₂, ◌∙◌}
use Prim.Native.Nat.{ℕ, zero, suc, ◌+◌, ◌-◌, ◌*◌, ◌≤◌, ◌<◌}
use native.Mathlib.Omega.{arith}
use borrow.Author.Tests.{ltb-true, ltb-false}
use lib.Dec.{ltb}
use lib.ListN.{length, take, drop, get_or, replicate, length-append, length-replicate, take-append-drop, replicate-append-replicate}
use lib.Seq.{take_at, drop_at, take-add, drop-drop}
use Rattle.places.specs.Limits.{bundle_most}
use Rattle.order.specs.Listing.{◌among◌}
use Rattle.order.specs.Paths.{Places}
use Rattle.order.specs.Slots.{slots_of}
use Rattle.order.specs.Walk.{stack}
use Rattle.order.proofs.Simple.{simple-length}
use Rattle.order.proofs.Stack.{stack-simple}
use Rattle.reply.specs.Laid.{flat, holding}
use Rattle.reply.specs.Room.{slot_at, Holding}
use Rattle.reply.specs.Slots.{slot_bytes, slot_of}
use Rattle.reply.proofs.Slots.{length_slot, length-flat}

-- each path fits in a slot
abbrev pub InSlots : List (List ℕ) → Type 0
InSlots ws = (p : List ℕ) → p among ws → length p ≤ bundle_most

pub stack_in_slots : (g : Places) → 0 < g.size → g.size ≤ bundle_most → (k : ℕ) → InSlots (stack g k)
stack_in_slots g some few k p m = omega (arith, simple-length g (stack-simple g some k p m))

-- ---- what is laid is held

-- slot i of paths that are laid, whatever lies behind them
slot_laid : (ws : List (List ℕ)) (t : List ℕ) → InSlots ws → (i : ℕ) → i < length ws → slot_at i (flat ws ++ t) ≡ slot_of (get_or ws (length ws - 1 - i) [])
unfolding flat
slot_laid [] t fit i h = absurd (omega arith)
slot_laid (p ∷ ws) t fit i h =
    ap (slot_at i) (append_assoc (flat ws) (slot_of p) t) ∙ by_place (ltb i (length ws)) refl (slot_laid ws (slot_of p ++ t) (λ q m. fit q (there m)) i)
  where
    by_place : (b : Bool) → ltb i (length ws) ≡ b → (i < length ws → slot_at i (flat ws ++ (slot_of p ++ t)) ≡ slot_of (get_or ws (length ws - 1 - i) []))
        → slot_at i (flat ws ++ (slot_of p ++ t)) ≡ slot_of (get_or (p ∷ ws) (length (p ∷ ws) - 1 - i) [])
    by_place true e below =
        let k : i < length ws = ltb-true i (length ws) e in
        let up : suc (length ws - 1 - i) ≡ length (p ∷ ws) - 1 - i = omega arith in
        below k ∙ ap (λ (j : ℕ). slot_of (get_or (p ∷ ws) j [])) up
    by_place false e below =
        let k : length ws ≤ i = ltb-false i (length ws) e in
        let n : length (flat ws) ≡ slot_bytes * i = length-flat ws (λ q m. fit q (there m)) ∙ omega arith in
        let top : 0 ≡ length (p ∷ ws) - 1 - i = omega arith in
        ap (take slot_bytes) (drop_at (flat ws) (slot_of p ++ t) (slot_bytes * i) n)
        ∙ take_at (slot_of p) t slot_bytes (length_slot p (fit p (here refl)))
        ∙ ap (λ (j : ℕ). slot_of (get_or (p ∷ ws) j [])) top

-- width zeros among n
zeros_among : (width a n : ℕ) (t : List ℕ) → a + width ≤ n → take width (drop a (replicate n 0 ++ t)) ≡ replicate width 0
zeros_among width a n t h =
    let z : ℕ → List ℕ = λ k. replicate k 0 in
    let b : ℕ = n - (a + width) in
    let e : n ≡ a + (width + b) = omega arith in
    ap (λ (k : ℕ). take width (drop a (z k ++ t))) e
    ∙ ap (λ (l : List ℕ). take width (drop a (l ++ t))) (sym (replicate-append-replicate a (width + b) 0))
    ∙ ap (λ (l : List ℕ). take width (drop a l)) (append_assoc (z a) (z (width + b)) t)
    ∙ ap (take width) (drop_at (z a) (z (width + b) ++ t) a (length-replicate {A = ℕ} a 0))
    ∙ ap (λ (l : List ℕ). take width (l ++ t)) (sym (replicate-append-replicate width b 0))
    ∙ ap (take width) (append_assoc (z width) (z b) t)
    ∙ take_at (z width) (z b ++ t) width (length-replicate {A = ℕ} width 0)

-- ---- what is held is laid

paths_laid : (ws : List (List ℕ)) (room : List ℕ) → ((i : ℕ) → i < length ws → slot_at i room ≡ slot_of (get_or ws (length ws - 1 - i) []))
    → take (slot_bytes * length ws) room ≡ flat ws
unfolding flat
paths_laid [] room h = refl
paths_laid (p ∷ ws) room h =
    let m : ℕ = length ws in
    let up : slot_bytes * suc m ≡ slot_bytes * m + slot_bytes = omega arith in
    let top : suc m - 1 - m ≡ 0 = omega arith in
    ap (λ (j : ℕ). take j room) up
    ∙ take-add (slot_bytes * m) slot_bytes room
    ∙ ap₂ (λ (a b : List ℕ). a ++ b)
    (paths_laid ws room (λ i k. let next : suc m - 1 - i ≡ suc (m - 1 - i) = omega arith in h i (omega arith) ∙ ap (λ (j : ℕ). slot_of (get_or (p ∷ ws) j [])) next))
    (h m (omega arith) ∙ ap (λ (j : ℕ). slot_of (get_or (p ∷ ws) j [])) top)

zeros_laid : (room : List ℕ) (m k : ℕ) → ((i : ℕ) → m ≤ i → i < m + k → slot_at i room ≡ replicate slot_bytes 0)
    → take (slot_bytes * k) (drop (slot_bytes * m) room) ≡ replicate (slot_bytes * k) 0
zeros_laid room m zero h = refl
zeros_laid room m (suc k) h =
    let d : List ℕ = drop (slot_bytes * m) room in
    let up : slot_bytes * suc k ≡ slot_bytes * k + slot_bytes = omega arith in
    let at : slot_bytes * m + slot_bytes * k ≡ slot_bytes * (m + k) = omega arith in
    ap (λ (j : ℕ). take j d) up
    ∙ take-add (slot_bytes * k) slot_bytes d
    ∙ ap₂ (λ (a b : List ℕ). a ++ b)
    (zeros_laid room m k (λ i low high. h i low (omega arith)))
    (ap (take slot_bytes) (drop-drop (slot_bytes * k) (slot_bytes * m) room ∙ ap (λ (j : ℕ). drop j room) at) ∙ h (m + k) (omega arith) (omega arith))
    ∙ replicate-append-replicate (slot_bytes * k) slot_bytes 0
    ∙ ap (λ (j : ℕ). replicate j 0) (sym up)

-- ---- the room

module _ (n : ℕ) (ws : List (List ℕ)) where
  -- where the needed slots end, and where the paths do
  abbrev needed : ℕ
  needed = slot_bytes * slots_of n

  abbrev top : ℕ
  top = slot_bytes * length ws

  module _ {before after : List ℕ} (fits : length ws ≤ slots_of n) where
    pub laid_holding : InSlots ws → after ≡ holding n ws before → Holding n ws before after
    laid_holding fit e =
        let k : length (flat ws) ≡ top = length-flat ws fit in
        let z : List ℕ = replicate (needed - top) 0 in
        let r : List ℕ = drop needed before in
        let long : length (flat ws ++ z) ≡ needed = simp (length-append, length-replicate) (omega arith) in
        record {
          paths = λ i h. ap (slot_at i) e ∙ slot_laid ws (z ++ r) fit i h;
          zeros = λ i low h.
              let up : top + (slot_bytes * i - top) ≡ slot_bytes * i = omega arith in
              ap (slot_at i) e
              ∙ ap (λ (j : ℕ). take slot_bytes (drop j (flat ws ++ (z ++ r)))) (sym up)
              ∙ ap (take slot_bytes) (sym (drop-drop (slot_bytes * i - top) top (flat ws ++ (z ++ r))) ∙ ap (drop (slot_bytes * i - top)) (drop_at (flat ws) (z ++ r) top k))
              ∙ zeros_among slot_bytes (slot_bytes * i - top) (needed - top) r (omega arith);
          rest = ap (drop needed) (e ∙ sym (append_assoc (flat ws) z r)) ∙ drop_at (flat ws ++ z) r needed long;
        }

    pub holding_laid : Holding n ws before after → after ≡ holding n ws before
    holding_laid x =
        let d : List ℕ = drop top after in
        let some : needed - top ≡ slot_bytes * (slots_of n - length ws) = omega arith in
        let up : top + (needed - top) ≡ needed = omega arith in
        let zeros : take (needed - top) d ≡ replicate (needed - top) 0 =
        ap (λ (j : ℕ). take j d) some
        ∙ zeros_laid after (length ws) (slots_of n - length ws) (λ i low high. x.zeros i low (omega arith))
        ∙ ap (λ (j : ℕ). replicate j 0) (sym some) in
        let rest : drop (needed - top) d ≡ drop needed before = drop-drop (needed - top) top after ∙ ap (λ (j : ℕ). drop j after) up ∙ x.rest in
        sym (take-append-drop top after)
        ∙ ap₂ (λ (a b : List ℕ). a ++ b) (paths_laid ws after x.paths) (sym (take-append-drop (needed - top) d) ∙ ap₂ (λ (a b : List ℕ). a ++ b) zeros rest)
