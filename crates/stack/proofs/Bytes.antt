-- The bytes of records: how many there are (`length-bytes`), those of a path's record (`record_slot`), and those of records that hold
-- paths, which are a room that holds them (`bytes-held`). For Ran.antt and Agree.antt; the bytes of records: reply/specs/Records.antt;
-- records as they are laid: specs/Stacked.antt; a room as it is laid: reply/specs/Laid.antt.
use mathlib.Core.List.{List, [], ◌∷◌, ◌++◌, map, append_assoc, append-nil}
use mathlib.Core.Path.{◌≡◌, refl, sym, ap, ap₂, ◌∙◌}
use Prim.Native.Nat.{ℕ, zero, suc, ◌+◌, ◌-◌, ◌*◌}
use native.Mathlib.Omega.{arith}
use lib.ListN.{length, drop, replicate, length-append, length-map, replicate-append-replicate}
use lib.Seq.{drop_at, drop-drop}
use Rattle.places.specs.Limits.{bundle_most}
use Rattle.places.specs.declared.BundlePlace.{BundlePlace}
use Rattle.order.specs.Slots.{slots_of}
use Rattle.reply.specs.Answer.{path_shown}
use Rattle.reply.specs.Laid.{flat, holding}
use Rattle.reply.specs.Numbers.{placed}
use Rattle.reply.specs.Records.{record_bytes, bytes_of}
use Rattle.reply.specs.Slots.{slot_bytes, padded, slot_of}
use Rattle.reply.specs.declared.path.Path.{Path}
use Rattle.stack.specs.Stacked.{blank, Whole, stacked, held_in}

-- ---- how many

pub whole-rest : (r : Path) (l : List Path) → Whole (r ∷ l) → Whole l
whole-rest r l w i h = w (suc i) (omega arith)

pub length_record : (r : Path) → length r.places ≡ bundle_most → length (record_bytes r) ≡ slot_bytes
length_record r e = simp length-map (omega arith)

pub length-bytes : (l : List Path) → Whole l → length (bytes_of l) ≡ slot_bytes * length l
length-bytes [] w = refl
length-bytes (r ∷ l) w =
    rw length-append (omega (arith, length_record r (w 0 (omega arith)), length-bytes l (whole-rest r l w)))

-- ---- the bytes of a path's record

numbers-placed : (l : List ℕ) → map (λ (i : BundlePlace). i.0) (map placed l) ≡ l
numbers-placed [] = refl
numbers-placed (x ∷ l) = ap (λ (t : List ℕ). x ∷ t) (numbers-placed l)

pub record_slot : (p : List ℕ) → record_bytes (path_shown p) ≡ slot_of p
unfolding path_shown slot_of
record_slot p = ap (λ (t : List ℕ). length p ∷ t) (numbers-placed (padded p))

pub blank-bytes : record_bytes blank ≡ replicate slot_bytes 0
unfolding path_shown padded
blank-bytes = refl

-- ---- the bytes of more records

pub bytes-append : (a b : List Path) → bytes_of (a ++ b) ≡ bytes_of a ++ bytes_of b
bytes-append [] b = refl
bytes-append (r ∷ a) b = rw (bytes-append a b) (sym (append_assoc (record_bytes r) (bytes_of a) (bytes_of b)))

bytes-stacked : (ws : List (List ℕ)) → bytes_of (stacked ws) ≡ flat ws
unfolding stacked flat
bytes-stacked [] = refl
bytes-stacked (p ∷ ws) =
    bytes-append (stacked ws) (path_shown p ∷ [])
    ∙ ap₂ (λ (a b : List ℕ). a ++ b) (bytes-stacked ws) (append-nil (record_bytes (path_shown p)) ∙ record_slot p)

bytes-zeros : (k : ℕ) → bytes_of (replicate k blank) ≡ replicate (slot_bytes * k) 0
bytes-zeros zero = refl
bytes-zeros (suc k) =
    let up : slot_bytes + slot_bytes * k ≡ slot_bytes * suc k = omega arith in
    ap₂ (λ (a b : List ℕ). a ++ b) blank-bytes (bytes-zeros k)
    ∙ replicate-append-replicate slot_bytes (slot_bytes * k) 0
    ∙ ap (λ (j : ℕ). replicate j 0) up

drop-none : (k : ℕ) → drop {A = ℕ} k [] ≡ []
drop-none zero = refl
drop-none (suc k) = refl

pub bytes_drop : (k : ℕ) (l : List Path) → Whole l → bytes_of (drop k l) ≡ drop (slot_bytes * k) (bytes_of l)
bytes_drop zero l w = refl
bytes_drop (suc k) [] w = sym (drop-none (slot_bytes * suc k))
bytes_drop (suc k) (r ∷ l) w =
    let up : slot_bytes + slot_bytes * k ≡ slot_bytes * suc k = omega arith in
    bytes_drop k l (whole-rest r l w)
    ∙ ap (drop (slot_bytes * k)) (sym (drop_at (record_bytes r) (bytes_of l) slot_bytes (length_record r (w 0 (omega arith)))))
    ∙ drop-drop (slot_bytes * k) slot_bytes (record_bytes r ++ bytes_of l)
    ∙ ap (λ (j : ℕ). drop j (record_bytes r ++ bytes_of l)) up

-- records that hold paths have the bytes of a room that does
pub bytes-held : (n : ℕ) (ws : List (List ℕ)) (before : List Path) → Whole before → bytes_of (held_in n ws before) ≡ holding n ws (bytes_of before)
bytes-held n ws before w =
    let some : slot_bytes * (slots_of n - length ws) ≡ slot_bytes * slots_of n - slot_bytes * length ws = omega arith in
    bytes-append (stacked ws) (replicate (slots_of n - length ws) blank ++ drop (slots_of n) before)
    ∙ ap₂ (λ (a b : List ℕ). a ++ b) (bytes-stacked ws)
    (bytes-append (replicate (slots_of n - length ws) blank) (drop (slots_of n) before)
    ∙ ap₂ (λ (a b : List ℕ). a ++ b) (bytes-zeros (slots_of n - length ws) ∙ ap (λ (j : ℕ). replicate j 0) some) (bytes_drop (slots_of n) before w))
