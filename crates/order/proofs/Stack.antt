-- Upstream's stack hands the simple paths out in order (`stack-rest`, `taken_is`), and holds what waits (`stack-waits`). The same of any
-- listing, for those who speak of what waits: Waiting.antt. The stack: specs/Walk.antt; the walk that it follows: Tree.antt.
use mathlib.Core.List.Memᴰ
use mathlib.Core.List.Memᴰ.{head as here}
use mathlib.Core.List.Memᴰ.{tail as there}
use mathlib.Core.List.{List, [], ◌∷◌, ◌++◌, flat_map, drop_last, append-nil}
use mathlib.Core.Logic.{◌⊎◌, inl, inr, ⊎_elim}
use mathlib.Core.Path.{◌≡◌, refl, sym, ap, ◌∙◌}
use Prim.Native.Nat.{ℕ, zero, suc, ◌<◌}
use native.Mathlib.Numerals.{add-one}
use lib.ListN.{take, drop, take-append-drop}
use lib.Seq.{drop-drop, take-add}
use Rattle.order.specs.Listing.{◌among◌, Sorted}
use Rattle.order.specs.Paths.{Places, Simple, Before}
use Rattle.order.specs.Waiting.{Waiting}
use Rattle.order.specs.Walk.{snoc, kids, visit, paths, pop, stack, top, taken}
use Rattle.order.proofs.Lists.{mem_flat, flat_mem, flat_append, sorted_split, sorted_heads}
use Rattle.order.proofs.Order.{irrefl}
use Rattle.order.proofs.Simple.{simple-some}
use Rattle.order.proofs.Tree.{kids_mem, kid_simple, tree, visit_self, visit-is, visit_cases, visit-below, visit-simple, start-simple, paths-listing}

front_snoc : (p : List ℕ) (i : ℕ) → drop_last (snoc p i) ≡ p
front_snoc [] i = refl
front_snoc (x ∷ []) i = refl
front_snoc (x ∷ y ∷ p) i = ap (λ r. x ∷ r) (front_snoc (y ∷ p) i)

module _ (g : Places) where
  kid_front : (p : List ℕ) {c : List ℕ} → c among kids g p → drop_last c ≡ p
  kid_front p m = let (i, _, e) = kids_mem g p m in ap drop_last (sym e) ∙ front_snoc p i

module _ (g : Places) (some : 0 < g.size) where
  -- ---- what is left of the listing is what the stack's paths lead to

  pub stack-simple : (k : ℕ) (p : List ℕ) → p among stack g k → Simple g p
  stack-simple zero p m = rw (Memᴰ.eq_of_singleton m) (start-simple g some)
  stack-simple (suc k) p m = go (stack g k) (stack-simple k) m
    where
      go : (s : List (List ℕ)) → ((q : List ℕ) → q among s → Simple g q) → p among pop g s → Simple g p
      go [] h m = absurd (Memᴰ.not-nil m)
      go (q ∷ s) h m = ⊎_elim (λ l. kid_simple g (h q (here refl)) l) (λ r. h p (there r)) (Memᴰ.append_cases (kids g q) m)

  pop-rest : (s : List (List ℕ)) → ((q : List ℕ) → q among s → Simple g q) → drop 1 (flat_map (visit g) s) ≡ flat_map (visit g) (pop g s)
  unfolding flat_map
  pop-rest [] h = refl
  pop-rest (q ∷ s) h = rw (visit-is g (h q (here refl))) (sym (flat_append (visit g) (kids g q) s))

  pub stack-rest : (k : ℕ) → drop k (paths g) ≡ flat_map (visit g) (stack g k)
  unfolding flat_map
  stack-rest zero = sym (append-nil (paths g))
  stack-rest (suc k) = rw (← add-one k) (sym (drop-drop 1 k (paths g))) ∙ ap (drop 1) (stack-rest k) ∙ pop-rest (stack g k) (stack-simple k)

  -- ---- what the stack hands out is the listing, as far as it got

  top-next : (s : List (List ℕ)) → ((q : List ℕ) → q among s → Simple g q) → top s ≡ take 1 (flat_map (visit g) s)
  unfolding flat_map
  top-next [] h = refl
  top-next (q ∷ s) h = rw (visit-is g (h q (here refl)))

  take-suc : (k : ℕ) → take (suc k) (paths g) ≡ take k (paths g) ++ top (stack g k)
  take-suc k = rw (← add-one k, take-add k 1 (paths g)) (ap (λ r. take k (paths g) ++ r) (ap (take 1) (stack-rest k) ∙ sym (top-next (stack g k) (stack-simple k))))

  pub taken_is : (k : ℕ) → taken g k ≡ take k (paths g)
  taken_is zero = refl
  taken_is (suc k) = ap (λ r. r ++ top (stack g k)) (taken_is k) ∙ sym (take-suc k)

  -- ---- the stack is what waits

  stack-parent : (k : ℕ) (p : List ℕ) → p among stack g k → (p ≡ 0 ∷ []) ⊎ (drop_last p among take k (paths g))
  stack-parent zero p m = inl (Memᴰ.eq_of_singleton m)
  stack-parent (suc k) p m = go (stack g k) (take-suc k) (stack-parent k p) m
    where
      go : (s : List (List ℕ)) → take (suc k) (paths g) ≡ take k (paths g) ++ top s
          → (p among s → (p ≡ 0 ∷ []) ⊎ (drop_last p among take k (paths g))) → p among pop g s
          → (p ≡ 0 ∷ []) ⊎ (drop_last p among take (suc k) (paths g))
      go [] e h m = absurd (Memᴰ.not-nil m)
      go (q ∷ s) e h m = rw e (⊎_elim
          (λ l. inr (Memᴰ.append_right (take k (paths g)) (here (kid_front g q l))))
          (λ r. ⊎_elim (λ n. inl n) (λ t. inr (Memᴰ.append_left (q ∷ []) t)) (h (there r)))
          (Memᴰ.append_cases (kids g q) m))

  -- all but the last place of a path below p is below p too, unless it is p
  visit_front : {p : List ℕ} → Simple g p → (q : List ℕ) → q among visit g p → (q ≡ p) ⊎ (drop_last q among visit g p)
  visit_front = tree g (λ p. (q : List ℕ) → q among visit g p → (q ≡ p) ⊎ (drop_last q among visit g p)) (λ p s ih q m.
      ⊎_elim (λ e. inl e)
      (λ (c, k, l). inr (⊎_elim (λ e. Memᴰ.cast (ap drop_last e ∙ kid_front g p k) (visit_self g p)) (λ n. visit-below g s k n) (ih c k q l)))
      (visit_cases g s m))

  parts : (k : ℕ) → Sorted Before (take k (paths g)) × Sorted Before (drop k (paths g))
      × ((p q : List ℕ) → p among take k (paths g) → q among drop k (paths g) → Before p q)
  parts k =
      let s : Sorted Before (take k (paths g) ++ drop k (paths g)) = rw take-append-drop (paths-listing g some).sorted in
      sorted_split (take k (paths g)) s

  pub stack-waits : (k : ℕ) → Waiting (paths g) k (stack g k)
  stack-waits k = record {
    sorted = sorted_heads (visit g) (stack g k) (λ p m. visit_self g p) (rw stack-rest at (parts k).1);
    only = λ p m. record { untaken = rw stack-rest (mem_flat (visit g) m (visit_self g p)); parent = stack-parent k p m };
    all = λ p w.
        let (q, m, l) = flat_mem (visit g) (stack g k) (rw stack-rest at w.untaken) in
        let s = stack-simple k q m in
        ⊎_elim (λ e. Memᴰ.cast e m)
        (λ n. absurd (⊎_elim (λ e. simple-some g (visit-simple g s (drop_last p) n) (ap drop_last e))
        (λ t. irrefl (drop_last p) ((parts k).2 (drop_last p) (drop_last p) t (rw stack-rest (mem_flat (visit g) m n)))) w.parent))
        (visit_front s p l);
  }
