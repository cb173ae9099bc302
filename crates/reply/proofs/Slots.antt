-- Paths in their slots: one path and a place more (`length_slot`, `slot_child`), then the slots of a list of paths (`length-flat`,
-- `flat_append`). For Laid.antt and steps; a slot: specs/Slots.antt, the slots of a list: specs/Laid.antt.
use mathlib.Core.Path.{◌≡◌, refl, sym, ap, ◌∙◌}
use mathlib.Core.List.Memᴰ.{head as here}
use mathlib.Core.List.Memᴰ.{tail as there}
use mathlib.Core.List.{List, [], ◌∷◌, ◌++◌, append_assoc, append-nil}
use Prim.Native.Nat.{ℕ, suc, ◌+◌, ◌-◌, ◌*◌, ◌≤◌, ◌<◌}
use native.Mathlib.Numerals.{add-one}
use native.Mathlib.Omega.{arith}
use lib.ListN.{length, set, replicate, length-replicate, length-append}
use lib.Seq.{set-append_seam, append_snoc}
use Rattle.places.specs.Limits.{bundle_most}
use Rattle.order.specs.Listing.{◌among◌}
use Rattle.reply.specs.Laid.{flat}
use Rattle.reply.specs.Slots.{slot_bytes, padded, slot_of}

-- ---- one path

pub length-snoc : (p : List ℕ) (i : ℕ) → length (p ++ (i ∷ [])) ≡ length p + 1
length-snoc p i = length-append p (i ∷ [])

pub length_slot : (p : List ℕ) → length p ≤ bundle_most → length (slot_of p) ≡ slot_bytes
unfolding slot_of padded
length_slot p h = simp (length-append, length-replicate) (omega arith)

pub slot_child : (p : List ℕ) (i : ℕ) → length p < bundle_most → set (set (slot_of p) (length p + 1) i) 0 (length p + 1) ≡ slot_of (p ++ (i ∷ []))
unfolding slot_of padded
slot_child p i h =
    let e : bundle_most - length p ≡ suc (bundle_most - (length p + 1)) = omega arith in
    let l : set (p ++ replicate (bundle_most - length p) 0) (length p) i ≡ (p ++ (i ∷ [])) ++ replicate (bundle_most - (length p + 1)) 0 =
    ap (λ (n : ℕ). set (p ++ replicate n 0) (length p) i) e
    ∙ set-append_seam p 0 (replicate (bundle_most - (length p + 1)) 0) i
    ∙ sym (append_snoc p i (replicate (bundle_most - (length p + 1)) 0)) in
    ap (λ (n : ℕ). set (set (length p ∷ (p ++ replicate (bundle_most - length p) 0)) n i) 0 (length p + 1)) (add-one (length p))
    ∙ ap (λ (r : List ℕ). (length p + 1) ∷ r) l
    ∙ ap (λ (n : ℕ). n ∷ ((p ++ (i ∷ [])) ++ replicate (bundle_most - n) 0)) (sym (length-snoc p i))

-- ---- the slots of a list of paths

pub length-flat : (ws : List (List ℕ)) → ((p : List ℕ) → p among ws → length p ≤ bundle_most) → length (flat ws) ≡ slot_bytes * length ws
unfolding flat
length-flat [] h = refl
length-flat (p ∷ ws) h =
    rw length-append (omega (arith, length-flat ws (λ q m. h q (there m)), length_slot p (h p (here refl))))

pub flat_append : (a st : List (List ℕ)) → flat (a ++ st) ≡ flat st ++ flat a
unfolding flat
flat_append [] st = sym (append-nil (flat st))
flat_append (p ∷ a) st = rw (flat_append a st) (append_assoc (flat st) (flat a) (slot_of p))
