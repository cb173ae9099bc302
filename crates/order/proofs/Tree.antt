-- The walk of the tree lists the simple paths (`paths-listing`): there is a listing, and only one (`listing_exists`, `listing_unique`). In
-- order: children, the walk, induction over the tree (`tree`), the walk with as much fuel as it needs, the listing. The walk:
-- specs/Walk.antt; listings: specs/Paths.antt; the stack that follows it: Stack.antt.
use mathlib.Core.List.Memᴰ
use mathlib.Core.List.Memᴰ.{head as here}
use mathlib.Core.List.Memᴰ.{tail as there}
use mathlib.Core.List.{List, [], ◌∷◌, ◌++◌, flat_map, append_assoc, append-nil, concat-ne-nil}
use mathlib.Core.Logic.{◌⊎◌, inl, inr, ⊎_elim}
use mathlib.Core.Path.{◌≡◌, refl, sym, ap, ◌∙◌}
use Prim.Native.Nat.{ℕ, zero, suc, ◌+◌, ◌-◌, ◌≤◌, ◌<◌}
use native.Mathlib.Nat.{eq-zero-or-pos}
use native.Mathlib.Omega.{arith}
use lib.ListN.{length, length-append}
use Rattle.order.specs.Listing.{◌among◌, Sorted, nil, cons}
use Rattle.order.specs.Paths.{Places, Simple, Before, Listing}
use Rattle.order.specs.Walk.{snoc, next, kids, walk, visit, paths}
use Rattle.order.proofs.Lists.{none-nil, mem_flat, flat_mem, flat-same, sorted_one, sorted-map, sorted-flat, lists_unique}
use Rattle.order.proofs.Order.{irrefl, trans, longer, fork}
use Rattle.order.proofs.Simple.{next-sorted, next_lists, simple-size, simple-length, simple_prefix}

module _ (g : Places) where
  -- ---- children

  pub kids_mem : (p : List ℕ) {c : List ℕ} → c among kids g p → (i : ℕ) × i among next g p × (snoc p i ≡ c)
  unfolding kids
  kids_mem p m = Memᴰ.of_map (snoc p) (next g p) m

  mem_kids : {p : List ℕ} (i : ℕ) → Simple g p → Simple g (snoc p i) → snoc p i among kids g p
  unfolding kids
  mem_kids {p} i s q = Memᴰ.map (snoc p) ((next_lists g s).all i q)

  pub kid_simple : {p c : List ℕ} → Simple g p → c among kids g p → Simple g c
  kid_simple {p} s m = let (i, k, e) = kids_mem p m in rw e at ((next_lists g s).only i k)

  pub kid_length : (p : List ℕ) {c : List ℕ} → c among kids g p → length c ≡ suc (length p)
  kid_length p m = let (i, k, e) = kids_mem p m in omega (arith, simp length-append at (ap length e))

  -- each child's paths are before those of a later child
  kids-sorted : (p : List ℕ) → Sorted (λ a b. (s t : List ℕ) → Before (a ++ s) (b ++ t)) (kids g p)
  unfolding kids
  kids-sorted p = sorted-map (snoc p) (λ i j h s t. simp append_assoc (fork p i j s t h)) (next-sorted g p)

  -- ---- the walk

  walk_self : (f : ℕ) (p : List ℕ) → p among walk g f p
  unfolding walk
  walk_self zero p = here refl
  walk_self (suc f) p = here refl

  -- what goes on from a child of p goes on from p
  flat-more : (h : List ℕ → List (List ℕ)) → ((c q : List ℕ) → q among h c → (s : List ℕ) × (q ≡ c ++ s)) → (p : List ℕ) {q : List ℕ}
      → q among flat_map h (kids g p) → (i : ℕ) × (s : List ℕ) × (q ≡ p ++ i ∷ s)
  flat-more h f p {q} m =
      let (c, l, k) = flat_mem h (kids g p) m in
      let (i, _, e) = kids_mem p l in
      let (s, e') = f c q k in
      (i, s, e' ∙ ap (λ r. r ++ s) (sym e) ∙ append_assoc p (i ∷ []) s)

  walk_more : (f : ℕ) (p q : List ℕ) → q among walk g f p → (s : List ℕ) × (q ≡ p ++ s)
  unfolding walk
  walk_more zero p q m = ([], Memᴰ.eq_of_singleton m ∙ sym (append-nil p))
  walk_more (suc f) p q m =
      ⊎_elim (λ e. ([], e ∙ sym (append-nil p))) (λ k. let (i, s, e) = flat-more (walk g f) (walk_more f) p k in (i ∷ s, e)) (Memᴰ.cases_cons m)

  walk-sorted : (f : ℕ) (p : List ℕ) → Sorted Before (walk g f p)
  unfolding walk
  walk-sorted zero p = sorted_one p
  walk-sorted (suc f) p = cons {x = p}
      (λ q m. let (i, s, e) = flat-more (walk g f) (walk_more f) p m in rw e (longer p i s))
      (sorted-flat (walk g f) (λ a b r x y m k. let (s, e) = walk_more f a x m in let (t, e') = walk_more f b y k in rw (e, e') (r s t))
      (λ c m. walk-sorted f c) (kids-sorted p))

  -- ---- induction over the tree: to prove P of a simple path, take it for its children

  pub tree : (P : List ℕ → Type 0) → ((p : List ℕ) → Simple g p → ((c : List ℕ) → c among kids g p → P c) → P p) → {p : List ℕ} → Simple g p → P p
  tree P step {p} s = go g.size p s (omega arith)
    where
      go : (f : ℕ) (p : List ℕ) → Simple g p → g.size ≤ f + length p → P p
      go zero p s h = step p s (λ c m. absurd (omega (arith, simple-length g (kid_simple s m), kid_length p m)))
      go (suc f) p s h = step p s (λ c m. go f c (kid_simple s m) (omega (arith, kid_length p m)))

  -- ---- the walk with as much fuel as it needs

  pub visit_self : (p : List ℕ) → p among visit g p
  unfolding visit
  visit_self p = walk_self (g.size - length p) p

  pub visit-is : {p : List ℕ} → Simple g p → visit g p ≡ p ∷ flat_map (visit g) (kids g p)
  unfolding visit walk flat_map
  visit-is {p} s = go (g.size - length p) refl
    where
      go : (f : ℕ) → g.size - length p ≡ f → walk g f p ≡ p ∷ flat_map (visit g) (kids g p)
      go zero e = rw (none-nil (kids g p) (λ c m. omega (arith, simple-length g (kid_simple s m), kid_length p m)))
      go (suc f) e = ap (λ r. p ∷ r) (flat-same (walk g f) (visit g) (kids g p) (λ c m.
          let h : f ≡ g.size - length c = omega (arith, kid_length p m) in ap (λ k. walk g k c) h))

  pub visit_cases : {p q : List ℕ} → Simple g p → q among visit g p → (q ≡ p) ⊎ ((c : List ℕ) × c among kids g p × q among visit g c)
  visit_cases {p} s m = ⊎_elim (λ e. inl e) (λ k. inr (flat_mem (visit g) (kids g p) k)) (Memᴰ.cases_cons (rw (visit-is s) at m))

  pub visit-below : {p c q : List ℕ} → Simple g p → c among kids g p → q among visit g c → q among visit g p
  visit-below s m k = rw (visit-is s) (there (mem_flat (visit g) m k))

  pub visit-simple : {p : List ℕ} → Simple g p → (q : List ℕ) → q among visit g p → Simple g q
  visit-simple = tree (λ p. (q : List ℕ) → q among visit g p → Simple g q) (λ p s ih q m.
      ⊎_elim (λ e. rw e s) (λ (c, k, l). ih c k q l) (visit_cases s m))

  -- with a path its children
  visit_closed : {p : List ℕ} → Simple g p → (q c : List ℕ) → q among visit g p → c among kids g q → c among visit g p
  visit_closed = tree (λ p. (q c : List ℕ) → q among visit g p → c among kids g q → c among visit g p) (λ p s ih q c m k.
      ⊎_elim (λ e. visit-below s (rw e at k) (visit_self c)) (λ (d, l, m'). visit-below s l (ih d l q c m' k)) (visit_cases s m))

  -- ---- the listing

  module _ (some : 0 < g.size) where
    pub start-simple : Simple g (0 ∷ [])
    start-simple = record {
      start = ([], refl);
      inside = λ x m. rw (Memᴰ.eq_of_singleton m) some;
      once = sorted_one 0;
      linked = tt;
    }

    complete : (r p : List ℕ) → p among paths g → Simple g (p ++ r) → p ++ r among paths g
    complete [] p m q = rw append-nil m
    complete (i ∷ r) p m q =
        let s : Simple g p = visit-simple start-simple p m in
        let t : Simple g (snoc p i ++ r) = rw append_assoc q in
        let k : snoc p i among kids g p = mem_kids i s (simple_prefix g (snoc p i) r (concat-ne-nil i p) t) in
        rw append_assoc at (complete r (snoc p i) (visit_closed start-simple p (snoc p i) m k) t)

    pub paths-listing : Listing g (paths g)
    unfolding visit
    paths-listing = record {
      sorted = walk-sorted (g.size - 1) (0 ∷ []);
      only = visit-simple start-simple;
      all = λ q s. rw s.start.1 (complete s.start.0 (0 ∷ []) (visit_self (0 ∷ [])) (rw s.start.1 at s));
    }

    pub listing-is : {ps : List (List ℕ)} → Listing g ps → ps ≡ paths g
    listing-is l = lists_unique irrefl trans l paths-listing

  pub listing_unique : {ps qs : List (List ℕ)} → Listing g ps → Listing g qs → ps ≡ qs
  listing_unique l m = lists_unique irrefl trans l m

  -- without certificates there is no path
  pub none-listing : g.size ≡ 0 → Listing g []
  none-listing e = record {
    sorted = nil;
    only = λ p m. absurd (Memᴰ.not-nil m);
    all = λ p s. absurd (omega (arith, simple-size g s));
  }

  pub listing_exists : (ps : List (List ℕ)) × Listing g ps
  listing_exists = ⊎_elim (λ e. ([], none-listing e)) (λ some. (paths g, paths-listing some)) (eq-zero-or-pos g.size)
