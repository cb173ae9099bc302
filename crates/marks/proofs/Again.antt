-- A mark that a call has set can be used in the next (`set_usable`): the mark at a path has that path, and a fresh one has none
-- (`path_marked`, `path-fresh`); and a mark that can be used stands after so many paths (`usable_began`). For Fresh.antt, Total.antt,
-- Cut.antt and the crates that take a search up again. When a mark can be used: specs/Marks.antt; which one a call sets: specs/Marked.antt.
use mathlib.Core.List.{List, [], ◌∷◌, map}
use mathlib.Core.Logic.{inl, inr}
use mathlib.Core.Path.{◌≡◌, refl, ap, ◌∙◌}
use Prim.Native.Nat.{ℕ, ◌-◌, ◌≤◌}
use native.Mathlib.Omega.{arith}
use lib.ListN.{length, take, replicate}
use lib.Seq.{take-append_seam}
use Rattle.places.specs.Limits.{bundle_most}
use Rattle.order.specs.Paths.{Places, Simple}
use Rattle.order.proofs.Rank.{rank_exists}
use Rattle.order.proofs.Simple.{simple-length}
use Rattle.reply.specs.declared.Answer.{Answer}
use Rattle.reply.specs.Answer.{path_shown}
use Rattle.reply.specs.Numbers.{placed}
use Rattle.reply.specs.Settles.{Reach, Outcome, accepted, refused, exhausted}
use Rattle.reply.specs.Slots.{padded}
use Rattle.marks.specs.declared.Mark.{Mark}
use Rattle.marks.specs.Began.{Began, unbegun, after}
use Rattle.marks.specs.Later.{Later, SettlesIn}
use Rattle.marks.specs.Marked.{Sets, TakenUp}
use Rattle.marks.specs.Marks.{path_in, mark_at, Usable, fresh, simple}

-- ---- the mark at a path

places_back : (l : List ℕ) → map (λ i. i.0) (map placed l) ≡ l
places_back [] = refl
places_back (x ∷ l) = ap (λ r. x ∷ r) (places_back l)

pub path_marked : (p : List ℕ) → path_in (mark_at p) ≡ p
unfolding path_shown padded
path_marked p = ap (take (length p)) (places_back (padded p)) ∙ take-append_seam p (replicate (bundle_most - length p) 0)

length_marked : (p : List ℕ) → (mark_at p).length ≡ length p
unfolding path_shown
length_marked p = refl

-- a fresh mark has the empty path
pub path-fresh : (m : Mark) → m.length ≡ 0 → path_in m ≡ []
path-fresh m e = rw e

module _ {g : Places} where
  -- so many paths are taken up to a mark that can be used
  pub usable_began : {m : Mark} → Usable g m → (r : ℕ) × Began g (path_in m) r
  usable_began {m} (fresh e) = (0, rw e unbegun)
  usable_began (simple h s) = let (r, q) = rank_exists g s in (r, after s q)

  -- ---- the mark that a call sets

  module _ (few : g.size ≤ bundle_most) where
    simple_usable : {p : List ℕ} → Simple g p → Usable g (mark_at p)
    simple_usable {p} s = simple (rw length_marked (omega (arith, simple-length g s))) (rw path_marked s)

    sets_usable : (w : Reach) (k : ℕ) {m n : Mark} (o : Outcome) → SettlesIn (Later g (path_in m)) w k o → Sets g m n o → Usable g m → Usable g n
    sets_usable w k (accepted p r s) a e u = rw e (simple_usable a.there.0)
    sets_usable w k (refused s) a e u = rw e (fresh (length_marked []))
    sets_usable w k (exhausted s) a (inl (_, e)) u = rw e u
    sets_usable w k (exhausted s) a (inr (p, l, _, e)) u = rw e (simple_usable l.0)

    pub set_usable : {w : Reach} {k : ℕ} {m n : Mark} {before after : List ℕ} {a : Answer} → TakenUp g w k m n before after a → Usable g m → Usable g n
    set_usable {w} {k} t = sets_usable w k t.outcome t.settled t.sets
