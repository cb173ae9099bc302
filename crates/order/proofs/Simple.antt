-- Simple paths: their last place, their beginnings (`simple_prefix`), the places by which one goes on (`simple-snoc`, `next_lists`), and
-- how long one can be (`simple-length`). What a simple path is: specs/Paths.antt; all that go on from one: Tree.antt; upstream's
-- `is_simple_path`: search/proofs/Valid.antt.
use mathlib.Core.Bool.{Bool, true, false, not, ◌&&◌, ◌||◌, and-eq-true_iff, false≢true}
use mathlib.Core.List.Memᴰ
use mathlib.Core.List.Memᴰ.{head as here}
use mathlib.Core.List.Memᴰ.{tail as there}
use mathlib.Core.List.{List, [], ◌∷◌, ◌++◌, cons≢nil, head-eq_of_cons-eq}
use mathlib.Core.Logic.{◌≢◌, ⊎_elim}
use mathlib.Core.Path.{◌≡◌, refl, sym, ap, ◌∙◌}
use Prim.Native.Nat.{ℕ, zero, suc, ◌+◌, ◌-◌, ◌≤◌, ◌<◌}
use native.Mathlib.Nat.{eq-or-lt_of_le, le_of_suc-le-suc, le_refl, lt_irrefl, not-suc-le-zero}
use native.Mathlib.Omega.{arith}
use lib.Dec.{T, eqb, eqb→eq, eqb_refl}
use lib.ListN.{length, get_or, length-append}
use Rattle.order.specs.Listing.{◌among◌, Sorted, nil, cons, Lists}
use Rattle.order.specs.Paths.{Places, Linked, Simple, last}
use Rattle.order.specs.Walk.{down, used, snoc, next}
use Rattle.order.proofs.Lists.{pigeon, sorted_one, sorted-append, sorted_split, sorted_imp, sorted-keep, keep_mem, mem_keep}

-- ---- the last place

pub last-at : (x : ℕ) (l : List ℕ) → last x l ≡ get_or (x ∷ l) (length (x ∷ l) - 1) 0
last-at x [] = refl
last-at x (y ∷ l) =
    let e : suc (length (y ∷ l) - 1) ≡ length (x ∷ y ∷ l) - 1 = omega arith in
    last-at y l ∙ ap (λ (n : ℕ). get_or (x ∷ y ∷ l) n 0) e

pub last_snoc : (x : ℕ) (p : List ℕ) (i : ℕ) → last x (snoc p i) ≡ i
last_snoc x [] i = refl
last_snoc x (y ∷ p) i = last_snoc y p i

pub last_among : (x : ℕ) (l : List ℕ) → last x l among (x ∷ l)
last_among x [] = here refl
last_among x (y ∷ l) = there (last_among y l)

-- ---- the tests

T_true : (b : Bool) → T b → b ≡ true
T_true true t = refl
T_true false t = absurd t

not-true : (b : Bool) → not b ≡ true → b ≡ false
not-true true e = sym e
not-true false e = refl

not-false : (b : Bool) → (b ≡ true → ⊥) → not b ≡ true
not-false true h = absurd (h refl)
not-false false h = refl

used_mem : (i : ℕ) (p : List ℕ) → used i p ≡ true → i among p
used_mem i [] e = absurd (false≢true e)
used_mem i (x ∷ p) e = go (λ h. used_mem i p h) (eqb i x) refl e
  where
    go : (used i p ≡ true → i among p) → (b : Bool) → eqb i x ≡ b → (b || used i p) ≡ true → i among x ∷ p
    go rest true t h = here (eqb→eq i x (rw t tt))
    go rest false t h = there (rest h)

pub mem_used : (i : ℕ) (p : List ℕ) → i among p → used i p ≡ true
mem_used i [] m = elim m [ ]
mem_used i (x ∷ p) (here e) = rw (← e) (rw (T_true (eqb i i) (eqb_refl i)))
mem_used i (x ∷ p) (there m) = go (eqb i x) (mem_used i p m)
  where
    go : (b : Bool) → used i p ≡ true → (b || used i p) ≡ true
    go true h = refl
    go false h = h

-- ---- the places below n

pub down_mem : (n : ℕ) {i : ℕ} → i among down n → i < n
down_mem zero m = absurd (Memᴰ.not-nil m)
down_mem (suc n) {i} m = ⊎_elim (λ e. rw e (le_refl (suc n))) (λ k. let h : i < n = down_mem n k in omega arith) (Memᴰ.cases_cons m)

pub mem_down : (n : ℕ) {i : ℕ} → i < n → i among down n
mem_down zero h = absurd (not-suc-le-zero h)
mem_down (suc n) h = ⊎_elim (λ e. here e) (λ k. there (mem_down n k)) (eq-or-lt_of_le (le_of_suc-le-suc h))

length-down : (n : ℕ) → length (down n) ≡ n
length-down zero = refl
length-down (suc n) = ap suc (length-down n)

sorted-down : (n : ℕ) → Sorted (λ a b. b < a) (down n)
sorted-down zero = nil
sorted-down (suc n) = cons (λ y m. down_mem n m) (sorted-down n)

-- ---- beginnings, and one place more

module _ (g : Places) where
  linked_prefix : (p s : List ℕ) → Linked g (p ++ s) → Linked g p
  linked_prefix [] s l = tt
  linked_prefix (x ∷ []) s l = tt
  linked_prefix (x ∷ y ∷ p) s l = (l.0, linked_prefix (y ∷ p) s l.1)

  linked-snoc : (p : List ℕ) (i : ℕ) → Linked g p → g.issued i (last 0 p) ≡ true → Linked g (snoc p i)
  linked-snoc [] i l e = tt
  linked-snoc (x ∷ []) i l e = (e, tt)
  linked-snoc (x ∷ y ∷ p) i l e = (l.0, linked-snoc (y ∷ p) i l.1 e)

  pub linked-last : (p : List ℕ) (i : ℕ) → p ≢ [] → Linked g (snoc p i) → g.issued i (last 0 p) ≡ true
  linked-last [] i h l = absurd (h refl)
  linked-last (x ∷ []) i h l = l.0
  linked-last (x ∷ y ∷ p) i h l = linked-last (y ∷ p) i cons≢nil l.1

  pub simple-some : {p : List ℕ} → Simple g p → p ≢ []
  simple-some s e = cons≢nil (sym s.start.1 ∙ e)

  pub simple-size : {p : List ℕ} → Simple g p → 0 < g.size
  simple-size s = s.inside 0 (rw s.start.1 (here refl))

  pub simple_prefix : (p s : List ℕ) → p ≢ [] → Simple g (p ++ s) → Simple g p
  simple_prefix [] s h q = absurd (h refl)
  simple_prefix (x ∷ p) s h q = record {
    start = (p, ap (λ y. y ∷ p) (head-eq_of_cons-eq q.start.1));
    inside = λ y m. q.inside y (Memᴰ.append_left s m);
    once = (sorted_split (x ∷ p) q.once).0;
    linked = linked_prefix (x ∷ p) s q.linked;
  }

  pub simple-length : {p : List ℕ} → Simple g p → length p ≤ g.size
  simple-length {p} s = rw length-down at (pigeon p (down g.size) s.once (λ x m. mem_down g.size (s.inside x m)))

  pub next-sorted : (p : List ℕ) → Sorted (λ a b. b < a) (next g p)
  unfolding next
  next-sorted p = sorted-keep (λ i. not (used i p) && g.issued i (last 0 p)) (sorted-down g.size)

  module _ {p : List ℕ} (s : Simple g p) where
    pub simple-snoc : (i : ℕ) → i < g.size → (i among p → ⊥) → g.issued i (last 0 p) ≡ true → Simple g (snoc p i)
    simple-snoc i h d e = record {
      start = (snoc s.start.0 i, ap (λ q. snoc q i) s.start.1);
      inside = λ x m. ⊎_elim (λ l. s.inside x l) (λ r. let e : x ≡ i = Memᴰ.eq_of_singleton r in rw e h) (Memᴰ.append_cases p m);
      once = sorted-append s.once (sorted_one i) (λ x y m k z. d (rw (z ∙ Memᴰ.eq_of_singleton k) at m));
      linked = linked-snoc p i s.linked e;
    }

    -- the places by which p goes on are those with which it stays simple
    pub next_lists : Lists (λ a b. b < a) (λ i. Simple g (snoc p i)) (next g p)
    unfolding next
    next_lists = record {
      sorted = next-sorted p;
      only = λ i m.
          let (k, t) = keep_mem test (down g.size) m in
          let (a, e) = (and-eq-true_iff (not (used i p)) (g.issued i (last 0 p))).0 t in
          simple-snoc i (down_mem g.size k) (λ l. false≢true (sym (not-true (used i p) a) ∙ mem_used i p l)) e;
      all = λ i q. mem_keep test (mem_down g.size (q.inside i (Memᴰ.append_right p (here refl))))
          ((and-eq-true_iff (not (used i p)) (g.issued i (last 0 p))).1
          (not-false (used i p) (λ e. (sorted_split p q.once).2 i i (used_mem i p e) (here refl) refl), linked-last p i (simple-some s) q.linked));
    }
      where
        test : ℕ → Bool
        test i = not (used i p) && g.issued i (last 0 p)

    -- p and the places by which it goes on are distinct places
    pub next-few : length (next g p) + length p ≤ g.size
    next-few = rw (← length-append (next g p) p) (rw length-down at (pigeon (next g p ++ p) (down g.size)
        (sorted-append (sorted_imp (λ a b h e. lt_irrefl b (rw e at h)) (next-sorted p)) s.once (λ x y m k e. apart x m (rw (sym e) at k)))
        (λ x m. mem_down g.size (⊎_elim (λ l. below x l) (λ r. s.inside x r) (Memᴰ.append_cases (next g p) m)))))
      where
        below : (x : ℕ) → x among next g p → x < g.size
        below x m = (next_lists.only x m).inside x (Memᴰ.append_right p (here refl))

        apart : (x : ℕ) → x among next g p → x among p → ⊥
        apart x m k = (sorted_split p (next_lists.only x m).once).2 x x k (here refl) refl
