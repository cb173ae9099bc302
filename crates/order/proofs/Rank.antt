-- A path's rank is its place in the listing, counted from 1 (`rank-at`, `rank_is`): each simple path has one rank (`rank_exists`,
-- `rank_unique`), two have two (`rank-tells`), and there is one number of simple paths (`count_exists`, `count_unique`). Rank and number:
-- specs/Paths.antt; the listing: Tree.antt.
use mathlib.Core.List.{List, []}
use mathlib.Core.Path.{◌≡◌, refl, sym, ap, ◌∙◌}
use Prim.Native.Nat.{ℕ, suc, ◌<◌}
use native.Mathlib.Nat.{le_of_lt}
use native.Mathlib.Omega.{arith}
use lib.ListN.{length, take, drop, get_or}
use lib.Seq.{split_at, length-take-le}
use Rattle.order.specs.Paths.{Places, Simple, Listing, Rank, Count}
use Rattle.order.proofs.Lists.{lists_unique, lists_before, mem_index}
use Rattle.order.proofs.Order.{irrefl, trans}
use Rattle.order.proofs.Tree.{listing_unique, listing_exists}

module _ (g : Places) where
  pub rank_unique : (p : List ℕ) {r r' : ℕ} → Rank g p r → Rank g p r' → r ≡ r'
  rank_unique p (qs, l, e) (qs', l', e') = e ∙ ap (λ q. suc (length q)) (lists_unique irrefl trans l l') ∙ sym e'

  module _ {ps : List (List ℕ)} (l : Listing g ps) where
    pub rank-at : (k : ℕ) → k < length ps → Rank g (get_or ps k []) (suc k)
    rank-at k h = (take k ps, lists_before irrefl trans (take k ps) (drop (suc k) ps) (rw (split_at ps k []) at l), ap suc (sym (length-take-le k ps (le_of_lt h))))

    pub rank_is : {p : List ℕ} {r : ℕ} → Simple g p → Rank g p r → (k : ℕ) × (k < length ps) × (get_or ps k [] ≡ p) × (r ≡ suc k)
    rank_is {p} s q = let (k, h, e) = mem_index (l.all p s) [] in (k, h, e, rank_unique p q (rw e at (rank-at k h)))

  pub rank_exists : {p : List ℕ} → Simple g p → (r : ℕ) × Rank g p r
  rank_exists {p} s =
      let (ps, l) = listing_exists g in
      let (k, h, e) = mem_index (l.all p s) [] in
      (suc k, rw e at (rank-at l k h))

  -- simple paths of one rank are one path
  pub rank-tells : {p q : List ℕ} {r : ℕ} → Simple g p → Simple g q → Rank g p r → Rank g q r → p ≡ q
  rank-tells s t h h' =
      let (ps, l) = listing_exists g in
      let (k, _, e, f) = rank_is l s h in
      let (k', _, e', f') = rank_is l t h' in
      let m : k ≡ k' = omega arith in
      sym e ∙ ap (λ n. get_or ps n []) m ∙ e'

  pub count_exists : (c : ℕ) × Count g c
  count_exists = let (ps, l) = listing_exists g in (length ps, (ps, l, refl))

  pub count_unique : {c d : ℕ} → Count g c → Count g d → c ≡ d
  count_unique (ps, l, e) (qs, m, f) = e ∙ ap length (listing_unique g l m) ∙ sym f
