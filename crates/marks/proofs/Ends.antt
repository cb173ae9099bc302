-- How a search through a list of paths ends, by the places in the list (`Met`): the same as an outcome that settles the search through the
-- paths of the list (`met_settles`, `settles_met`). Each search ends (`met_some`), and where the first b are in vain it ends as the search
-- through the rest does, b steps later (`met_more`). For Total.antt and Cut.antt. The outcomes: specs/Later.antt.
use mathlib.Core.Bool.{Bool, true, false}
use mathlib.Core.List.Memᴰ
use mathlib.Core.List.{List, [], ◌∷◌, ◌++◌}
use mathlib.Core.Logic.{⊎_elim}
use mathlib.Core.Path.{◌≡◌, refl, sym, ◌∙◌}
use Prim.Native.Nat.{ℕ, zero, suc, ◌+◌, ◌≤◌, ◌<◌, zero-le}
use native.Mathlib.Omega.{arith}
use borrow.Author.Tests.{ltb-true, ltb-false}
use lib.Dec.{ltb}
use lib.ListN.{length, take, drop, get_or, length-drop, length-take, take-append-drop}
use lib.Seq.{split_at, take-add, get_or-take, get_or-drop}
use Rattle.places.specs.Lowest.{seek}
use Rattle.places.proofs.Lowest.{seek_least}
use Rattle.order.specs.Listing.{◌among◌, Lists}
use Rattle.order.specs.Paths.{Before}
use Rattle.order.proofs.Lists.{lists_before, mem_at, mem_index}
use Rattle.order.proofs.Order.{irrefl, trans}
use Rattle.reply.specs.Settles.{Reach, QualifiesBy, Qualifies, Outcome, accepted, refused, exhausted}
use Rattle.reply.proofs.Least.{least_lowest, least_none}
use Rattle.marks.specs.Later.{SettlesIn}
use Rattle.marks.proofs.Settled.{rank_in, in_rank, count_in_unique, accepts_in, refuses_in, exhausts_in}

-- none of the first k qualifies
abbrev pub Barren : Reach → List (List ℕ) → ℕ → Type 0
Barren w ps k = (q : List ℕ) → q among take k ps → ¬ Qualifies w q

-- the search through ps with budget k: which one it accepts, or how many there are, and that those before are in vain
abbrev pub Met : Reach → List (List ℕ) → ℕ → Outcome → Type 0
Met w ps k (accepted p r s) = (j : ℕ) × (s ≡ suc j) × (s ≤ k) × (j < length ps) × (get_or ps j [] ≡ p) × QualifiesBy w p r × ((i : ℕ) → QualifiesBy w p i → r ≤ i) × Barren w ps j
Met w ps k (refused s) = (s ≡ length ps) × (s ≤ k) × Barren w ps s
Met w ps k (exhausted s) = (s ≡ k) × (s < length ps) × Barren w ps s

-- ---- the same in words

module _ (P : List ℕ → Type 0) {ps : List (List ℕ)} (l : Lists Before P ps) (w : Reach) where
  pub met_settles : (k : ℕ) (o : Outcome) → Met w ps k o → SettlesIn P w k o
  met_settles k (accepted p r s) (j, e, c, h, at, q, low, b) =
      let d : suc j ≤ k = omega arith in
      rw (e, ← at) (accepts_in P l w b k r h d (rw at q) (rw at low))
  met_settles k (refused s) (e, c, b) = refuses_in P l w b k e c
  met_settles k (exhausted s) (e, h, b) = rw (← e) (exhausts_in P l w b h)

  pub settles_met : (k : ℕ) (o : Outcome) → SettlesIn P w k o → Met w ps k o
  settles_met k (accepted p r s) a =
      let (j, h, at, e) = in_rank P l a.there a.rank in (
        j,
        e,
        a.covered,
        h,
        at,
        a.qualifies,
        a.lowest,
        λ q m.
            let (t, f) = (lists_before irrefl trans (take j ps) (drop (suc j) ps) (rw (split_at ps j []) at l)).only q m in
            a.first q t (rw at at f),
      )
  settles_met k (refused s) a = (
    count_in_unique P a.all (ps, l, refl),
    a.covered,
    λ q m.
        let n : q among take s ps ++ drop s ps = Memᴰ.append_left (drop s ps) m in
        a.none q (l.only q (rw take-append-drop at n)),
  )
  settles_met k (exhausted s) a =
      let (c, n, h) = a.more in
      let e : c ≡ length ps = count_in_unique P n (ps, l, refl) in (
        a.spent,
        omega (arith, a.spent),
        λ q m.
            let (j, i, f) = mem_index m [] in
            let i' : (j < s) × (j < length ps) = (omega (arith, length-take s ps), omega (arith, length-take s ps)) in
            let at : get_or ps j [] ≡ q = sym (get_or-take s ps j [] i'.0) ∙ f in
            a.none q (suc j) (l.only q (rw at at (mem_at ps j [] i'.1))) (rw at at (rank_in P l j i'.1)) (omega (arith, i'.0, a.spent)),
      )

-- ---- going on

-- the outcome with b steps more
abbrev pub further : ℕ → Outcome → Outcome
further b (accepted p r s) = accepted p r (b + s)
further b (refused s) = refused (b + s)
further b (exhausted s) = exhausted (b + s)

module _ (w : Reach) where
  pub met_more : (ps : List (List ℕ)) (b : ℕ) → b ≤ length ps → Barren w ps b → (k : ℕ) (o : Outcome) → Met w (drop b ps) k o → Met w ps (b + k) (further b o)
  met_more ps b h vain = go
    where
      both : (j : ℕ) → Barren w (drop b ps) j → Barren w ps (b + j)
      both j v q m = ⊎_elim (vain q) (v q) (Memᴰ.append_cases (take b ps) (rw (take-add b j ps) at m))

      go : (k : ℕ) (o : Outcome) → Met w (drop b ps) k o → Met w ps (b + k) (further b o)
      go k (accepted p r s) (j, e, c, n, at, q, low, v) =
          (b + j, omega arith, omega arith, omega (arith, length-drop b ps), sym (get_or-drop b ps j []) ∙ at, q, low, both j v)
      go k (refused s) (e, c, v) = (omega (arith, length-drop b ps), omega arith, both s v)
      go k (exhausted s) (e, n, v) = (omega arith, omega (arith, length-drop b ps), both s v)

  none_yet : (ps : List (List ℕ)) → Barren w ps 0
  none_yet ps q m = absurd (Memᴰ.not-nil m)

  pub met_some : (ps : List (List ℕ)) (k : ℕ) → (o : Outcome) × Met w ps k o
  met_some [] k = (refused 0, (refl, zero-le, none_yet []))
  met_some (p ∷ ps) zero = (exhausted 0, (refl, omega arith, none_yet (p ∷ ps)))
  met_some (p ∷ ps) (suc k) = go (met_some ps k) (ltb (seek (w.good p) 0 w.count) w.count) refl
    where
      go : ((o : Outcome) × Met w ps k o) → (t : Bool) → ltb (seek (w.good p) 0 w.count) w.count ≡ t → (o : Outcome) × Met w (p ∷ ps) (suc k) o
      go _ true y =
          let f = seek_least (w.good p) 0 w.count in
          let h : seek (w.good p) 0 w.count < w.count = ltb-true _ _ y in
          (accepted p (seek (w.good p) 0 w.count) 1, (0, refl, omega arith, omega arith, refl, (h, f.passes (omega arith)), least_lowest w f, none_yet (p ∷ ps)))
      go (o, x) false y =
          let n : ¬ Qualifies w p = least_none w (seek_least (w.good p) 0 w.count) (ltb-false _ _ y) in
          let c : 1 + k ≡ suc k = omega arith in
          (further 1 o, rw c at (met_more (p ∷ ps) 1 (omega arith) (λ q m. let e : q ≡ p = Memᴰ.eq_of_singleton m in rw e n) k o x))
