-- The path of a slot (`path_slot`, `slot_len`, `slot_next`), and the room that holds paths (`push_room`). For Laid.antt and `lay_row`;
-- `path_of` is in specs/Parts.antt, `slot_of` in reply/specs/Slots.antt.
use mathlib.Core.Path.{◌≡◌, sym, ap, ◌∙◌}
use mathlib.Core.List.{List, [], ◌∷◌, ◌++◌, append_assoc}
use Prim.Native.Nat.{ℕ, ◌+◌, ◌-◌, ◌*◌, ◌≤◌, ◌<◌}
use native.Mathlib.Omega.{arith}
use lib.ListN.{length, take, drop, get_or, set, replicate, length-append}
use lib.Seq.{paste, take-append_seam, take_at, drop_at, take_all, drop-drop, length-take-le}
use Rattle.places.specs.Limits.{bundle_most}
use Rattle.reply.specs.Slots.{slot_bytes, padded, slot_of}
use Rattle.reply.proofs.Slots.{slot_child}
use Rattle.steps.specs.Parts.{path_of}

-- ---- slots

pub path_slot : (p : List ℕ) → path_of (slot_of p) ≡ p
unfolding slot_of padded path_of
path_slot p = take-append_seam p (replicate (bundle_most - length p) 0)

pub slot_len : (s : List ℕ) → s ≡ slot_of (path_of s) → get_or s 0 0 ≡ length (path_of s)
unfolding slot_of padded
slot_len s e = ap (λ (l : List ℕ). get_or l 0 0) e

pub slot_next : (s : List ℕ) (i : ℕ) → s ≡ slot_of (path_of s) → length (path_of s) < bundle_most
    → set (set s (get_or s 0 0 + 1) i) 0 (get_or s 0 0 + 1) ≡ slot_of (path_of s ++ (i ∷ []))
slot_next s i e h =
    rw (slot_len s e) (ap (λ (l : List ℕ). set (set l (length (path_of s) + 1) i) 0 (length (path_of s) + 1)) e ∙ slot_child (path_of s) i h)

-- ---- the room

-- room with f from slot m up to slot top
abbrev pub laid_out : List ℕ → ℕ → List ℕ → ℕ → List ℕ
laid_out room m f top = take (slot_bytes * m) room ++ (f ++ drop (slot_bytes * top) room)

pub push_room : (room : List ℕ) (m top : ℕ) (f k : List ℕ) → slot_bytes * m + length f ≡ slot_bytes * top → slot_bytes * top + slot_bytes ≤ length room → length k ≡ slot_bytes
    → paste (laid_out room m f top) (slot_bytes * top) k slot_bytes ≡ laid_out room m (f ++ k) (top + 1)
push_room room m top f k h b l =
    let A : List ℕ = take (slot_bytes * m) room in
    let D : List ℕ = drop (slot_bytes * top) room in
    let X : List ℕ = A ++ (f ++ D) in
    let up : slot_bytes * top + slot_bytes ≡ slot_bytes * (top + 1) = omega arith in
    let x : X ≡ (A ++ f) ++ D = sym (append_assoc A f D) in
    let a : length (A ++ f) ≡ slot_bytes * top = length-append A f ∙ omega (arith, length-take-le (slot_bytes * m) room (omega arith)) in
    let t : take (slot_bytes * top) X ≡ A ++ f = ap (take (slot_bytes * top)) x ∙ take_at (A ++ f) D (slot_bytes * top) a in
    let d : drop (slot_bytes * top + slot_bytes) X ≡ drop (slot_bytes * (top + 1)) room =
    sym (drop-drop slot_bytes (slot_bytes * top) X) ∙ ap (λ (r : List ℕ). drop slot_bytes r) (ap (drop (slot_bytes * top)) x ∙ drop_at (A ++ f) D (slot_bytes * top) a)
    ∙ drop-drop slot_bytes (slot_bytes * top) room ∙ ap (λ (n : ℕ). drop n room) up in
    let k17 : take slot_bytes k ≡ k = take_all slot_bytes k (omega arith) in
    rw (t, k17, d) (simp append_assoc)
