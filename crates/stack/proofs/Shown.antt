-- A path in a record: one place more (`child_shown`), and its places read back (`places_are`). For `child`, `look` and `drive`; the record:
-- `path_shown` of reply/specs/Answer.antt.
use mathlib.Core.Path.{◌≡◌, refl, sym, ap, ◌∙◌}
use mathlib.Core.List.{List, [], ◌∷◌, ◌++◌, map}
use Prim.Native.Nat.{ℕ, zero, suc, ◌+◌, ◌-◌, ◌≤◌, ◌<◌}
use native.Mathlib.Numerals.{add-one}
use native.Mathlib.Omega.{arith}
use lib.ListN.{length, drop, set, take, replicate, length-take, length-map}
use lib.Seq.{take-append_seam}
use Rattle.std.proofs.lemmas.List.{take-map}
use Rattle.places.specs.Limits.{bundle_most}
use Rattle.places.specs.declared.BundlePlace.{BundlePlace}
use Rattle.order.specs.Walk.{snoc}
use Rattle.reply.specs.Answer.{path_shown}
use Rattle.reply.specs.Numbers.{placed}
use Rattle.reply.specs.Slots.{padded, slot_of}
use Rattle.reply.specs.declared.Answer.{Answer}
use Rattle.reply.specs.declared.Reply.{Reply}
use Rattle.reply.specs.declared.path.Path.{Path}
use Rattle.reply.proofs.Slots.{length-snoc, slot_child}
use Rattle.stack.specs.Stacked.{places_in}

map-set : (l : List ℕ) (k i : ℕ) → set (map placed l) k (placed i) ≡ map placed (set l k i)
map-set [] k i = refl
map-set (x ∷ l) zero i = refl
map-set (x ∷ l) (suc k) i = ap (λ (r : List BundlePlace). placed x ∷ r) (map-set l k i)

padded_child : (p : List ℕ) (i : ℕ) → length p < bundle_most → set (padded p) (length p) i ≡ padded (snoc p i)
unfolding slot_of
padded_child p i h = ap (drop 1) (rw add-one at (slot_child p i h))

pub child_shown : {path : Path} (p : List ℕ) (i : ℕ) → path ≡ path_shown p → length p < bundle_most
    → record { length = path.length + 1; places = set path.places path.length (placed i) } ≡ path_shown (snoc p i)
unfolding path_shown
child_shown p i e h = rw (e, map-set (padded p) (length p) i, padded_child p i h, length-snoc p i)

unplaced : (l : List ℕ) → map (λ (i : BundlePlace). i.0) (map placed l) ≡ l
unplaced [] = refl
unplaced (x ∷ l) = ap (λ (r : List ℕ). x ∷ r) (unplaced l)

places_shown_lem : (p : List ℕ) → places_in (path_shown p) ≡ p
unfolding places_in path_shown padded
places_shown_lem p =
    let pad : List ℕ = replicate (bundle_most - length p) 0 in
    sym (take-map (λ (i : BundlePlace). i.0) (length p) (map placed (p ++ pad)))
    ∙ rw (unplaced (p ++ pad)) (take-append_seam p pad)

pub places_are : {path : Path} (p : List ℕ) → path ≡ path_shown p → places_in path ≡ p
places_are p e = ap places_in e ∙ places_shown_lem p

pub shown-places : {path : Path} (p : List ℕ) → path ≡ path_shown p → path ≡ path_shown (places_in path)
shown-places p e = e ∙ ap path_shown (sym (places_are p e))

pub length-shown : {path : Path} (p : List ℕ) → path ≡ path_shown p → path.length ≡ length p
unfolding path_shown
length-shown p e = rw e

-- no path has more places than a record
pub places-few : {path : Path} → path ≡ path_shown (places_in path) → length path.places ≡ bundle_most → path.length ≤ bundle_most
unfolding places_in
places-few {path} e h =
    let some = take path.length path.places in
    omega (arith, length-shown _ e, length-map some (λ (i : BundlePlace). i.0), length-take path.length path.places)

-- an answer by its two parts
pub answer-is : {a : Answer} {r : Reply} {p : Path} → a.reply ≡ r → a.path ≡ p → a ≡ record { reply = r; path = p }
answer-is e f = rw (← e, ← f)
