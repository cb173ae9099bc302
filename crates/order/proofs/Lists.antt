-- Laws of `among`, `Sorted` and `Lists`, for lists of any element type: first membership (of parts, of a flattened list, of the elements
-- that pass a test), then sorted lists, then what a listing is determined by (`lists_unique`, `lists_before`). Nothing here speaks of
-- paths: those are in Simple.antt and Tree.antt. Definitions: specs/Listing.antt.
use mathlib.Core.Bool.{Bool, true, false}
use mathlib.Core.List.Memᴰ
use mathlib.Core.List.Memᴰ.{head as here}
use mathlib.Core.List.Memᴰ.{tail as there}
use mathlib.Core.List.{List, [], ◌∷◌, ◌++◌, map, flat_map, append_assoc}
use mathlib.Core.Logic.{◌≢◌, ◌⊎◌, inl, inr, ⊎_elim}
use mathlib.Core.Path.{◌≡◌, refl, sym, ap, ap₂, ◌∙◌, subst}
use Prim.Native.Nat.{ℕ, zero, suc, ◌≤◌, ◌<◌, zero-le, suc-le-suc}
use native.Mathlib.Nat.{le_of_suc-le-suc, not-suc-le-zero}
use native.Mathlib.Omega.{arith}
use lib.ListN.{length, get_or, length-append}
use Rattle.order.specs.Listing.{◌among◌, Sorted, nil, cons, Lists}
use Rattle.order.specs.Walk.{put, keep}

-- ---- membership

module _ {A : Type 0} where
  mem_split : {x : A} {xs : List A} → x among xs → (a b : List A) × (xs ≡ a ++ x ∷ b)
  mem_split (here {xs} e) = ([], xs, ap (λ y. y ∷ xs) (sym e))
  mem_split (there {x} m) = let (a, b, e) = mem_split m in (x ∷ a, b, ap (λ r. x ∷ r) e)

  pub mem_index : {x : A} {xs : List A} → x among xs → (d : A) → (k : ℕ) × (k < length xs) × (get_or xs k d ≡ x)
  mem_index (here e) d = (0, suc-le-suc zero-le, sym e)
  mem_index (there m) d = let (k, h, e) = mem_index m d in (suc k, suc-le-suc h, e)

  pub mem_at : (xs : List A) (k : ℕ) (d : A) → k < length xs → get_or xs k d among xs
  mem_at [] k d h = absurd (not-suc-le-zero h)
  mem_at (x ∷ xs) zero d h = here refl
  mem_at (x ∷ xs) (suc k) d h = there (mem_at xs k d (le_of_suc-le-suc h))

  -- without one element that is not y, y is still there
  mem_drop : (a b : List A) {x y : A} → y among (a ++ x ∷ b) → y ≢ x → y among (a ++ b)
  mem_drop a b m h = ⊎_elim (λ l. Memᴰ.append_left b l) (λ r. Memᴰ.append_right a (⊎_elim (λ e. absurd (h e)) (λ t. t) (Memᴰ.cases_cons r))) (Memᴰ.append_cases a m)

  pub none-nil : (xs : List A) → ((x : A) → x among xs → ⊥) → xs ≡ []
  none-nil [] h = refl
  none-nil (x ∷ xs) h = absurd (h x (here refl))

  -- distinct elements of ys are no more than ys has
  pub pigeon : (xs ys : List A) → Sorted ◌≢◌ xs → ((x : A) → x among xs → x among ys) → length xs ≤ length ys
  pigeon [] ys s h = zero-le
  pigeon (x ∷ xs) ys (cons d s) h =
      let (a, b, e) = mem_split (h x (here refl)) in
      let i : length xs ≤ length (a ++ b) = pigeon xs (a ++ b) s (λ y m. mem_drop a b (rw e at (h y (there m))) (λ k. d y m (sym k))) in
      omega (arith, simp length-append at i, simp length-append at (ap length e))

module _ {A B : Type 0} (f : A → List B) where
  pub flat_append : (xs ys : List A) → flat_map f (xs ++ ys) ≡ flat_map f xs ++ flat_map f ys
  unfolding flat_map
  flat_append [] ys = refl
  flat_append (x ∷ xs) ys = rw (flat_append xs ys, append_assoc)

  pub mem_flat : {x : A} {xs : List A} {y : B} → x among xs → y among f x → y among flat_map f xs
  unfolding flat_map
  mem_flat {y} (here e) k = Memᴰ.append_left _ (rw e at k)
  mem_flat (there {x} m) k = Memᴰ.append_right (f x) (mem_flat m k)

  pub flat_mem : (xs : List A) {y : B} → y among flat_map f xs → (x : A) × x among xs × y among f x
  unfolding flat_map
  flat_mem [] m = absurd (Memᴰ.not-nil m)
  flat_mem (x ∷ xs) {y} m = go (λ r. flat_mem xs r) (Memᴰ.append_cases (f x) m)
    where
      go : (y among flat_map f xs → (a : A) × a among xs × y among f a) → (y among f x) ⊎ (y among flat_map f xs) → (a : A) × a among x ∷ xs × y among f a
      go rest (inl k) = (x, here refl, k)
      go rest (inr k) = let (a, m', k') = rest k in (a, there m', k')

  pub flat-same : (h : A → List B) (xs : List A) → ((x : A) → x among xs → f x ≡ h x) → flat_map f xs ≡ flat_map h xs
  unfolding flat_map
  flat-same h [] e = refl
  flat-same h (x ∷ xs) e = ap₂ ◌++◌ (e x (here refl)) (flat-same h xs (λ y m. e y (there m)))

-- ---- the elements that pass a test

module _ {A : Type 0} where
  put_mem : (b : Bool) {x y : A} {xs : List A} → y among put b x xs → ((y ≡ x) × (b ≡ true)) ⊎ (y among xs)
  put_mem true m = ⊎_elim (λ e. inl (e, refl)) (λ t. inr t) (Memᴰ.cases_cons m)
  put_mem false m = inr m

  mem_put : (b : Bool) (x : A) {y : A} {xs : List A} → y among xs → y among put b x xs
  mem_put true x m = there m
  mem_put false x m = m

  module _ (f : A → Bool) where
    pub keep_mem : (xs : List A) {y : A} → y among keep f xs → (y among xs) × (f y ≡ true)
    keep_mem [] m = absurd (Memᴰ.not-nil m)
    keep_mem (x ∷ xs) {y} m =
        ⊎_elim (λ (e, t). (here e, ap f e ∙ t)) (λ k. let (l, t) = keep_mem xs k in (there l, t)) (put_mem (f x) m)

    pub mem_keep : {y : A} {xs : List A} → y among xs → f y ≡ true → y among keep f xs
    mem_keep (here {x} {xs} e) t = rw (sym (ap f e) ∙ t) (here e)
    mem_keep (there {x} m) t = mem_put (f x) x (mem_keep m t)

-- ---- sorted lists

module _ {A : Type 0} {R : A → A → Type 0} where
  pub sorted_one : (x : A) → Sorted R (x ∷ [])
  sorted_one x = cons (λ y m. absurd (Memᴰ.not-nil m)) nil

  pub sorted-append : {xs ys : List A} → Sorted R xs → Sorted R ys → ((x y : A) → x among xs → y among ys → R x y) → Sorted R (xs ++ ys)
  sorted-append nil t h = t
  sorted-append (cons {x} {xs} b s) t h =
      cons (λ y m. ⊎_elim (b y) (h x y (here refl)) (Memᴰ.append_cases xs m)) (sorted-append s t (λ a c m k. h a c (there m) k))

  pub sorted_split : (xs : List A) {ys : List A} → Sorted R (xs ++ ys) → Sorted R xs × Sorted R ys × ((x y : A) → x among xs → y among ys → R x y)
  sorted_split [] s = (nil, s, λ x y m k. absurd (Memᴰ.not-nil m))
  sorted_split (x ∷ xs) {ys} (cons b s) =
      let (l, r, h) = sorted_split xs s in (
        cons (λ y m. b y (Memᴰ.append_left ys m)) l,
        r,
        λ a y m k.
            ⊎_elim (λ e. rw e (b y (Memᴰ.append_right xs k))) (λ m'. h a y m' k) (Memᴰ.cases_cons m),
      )

  pub sorted_imp : {S : A → A → Type 0} → ((a b : A) → R a b → S a b) → {xs : List A} → Sorted R xs → Sorted S xs
  sorted_imp f nil = nil
  sorted_imp f (cons {x} h s) = cons (λ y m. f x y (h y m)) (sorted_imp f s)

  pub sorted-keep : (f : A → Bool) {xs : List A} → Sorted R xs → Sorted R (keep f xs)
  sorted-keep f nil = nil
  sorted-keep f (cons {x} {xs} b s) = go (f x) (sorted-keep f s)
    where
      go : (t : Bool) → Sorted R (keep f xs) → Sorted R (put t x (keep f xs))
      go true k = cons (λ y m. b y (keep_mem f xs m).0) k
      go false k = k

  -- where each x stands in its own part
  pub sorted_heads : (f : A → List A) (xs : List A) → ((x : A) → x among xs → x among f x) → Sorted R (flat_map f xs) → Sorted R xs
  unfolding flat_map
  sorted_heads f [] h s = nil
  sorted_heads f (x ∷ xs) h s =
      let (l, r, c) = sorted_split (f x) s in
      cons (λ y m. c x y (h x (here refl)) (mem_flat f m (h y (there m)))) (sorted_heads f xs (λ y m. h y (there m)) r)

module _ {A B : Type 0} {R : A → A → Type 0} {S : B → B → Type 0} where
  pub sorted-map : (f : A → B) → ((a b : A) → R a b → S (f a) (f b)) → {xs : List A} → Sorted R xs → Sorted S (map f xs)
  sorted-map f h nil = nil
  sorted-map f h (cons {x} {xs} b s) =
      cons {x = f x} (λ y m. let (a, k, e) = Memᴰ.of_map f xs m in rw (← e) (h x a (b a k))) (sorted-map f h s)

  pub sorted-flat : (f : A → List B) {xs : List A} → ((a b : A) → R a b → (x y : B) → x among f a → y among f b → S x y)
      → ((a : A) → a among xs → Sorted S (f a)) → Sorted R xs → Sorted S (flat_map f xs)
  unfolding flat_map
  sorted-flat f h t nil = nil
  sorted-flat f h t (cons {x} {xs} b s) =
      sorted-append (t x (here refl)) (sorted-flat f h (λ a m. t a (there m)) s)
      (λ a y m k. let (c, l, k') = flat_mem f xs k in h x c (b c l) a y m k')

-- ---- listings

module _ {A : Type 0} {R : A → A → Type 0} (irrefl : (x : A) → R x x → ⊥) (trans : (x y z : A) → R x y → R y z → R x z) where
  -- two sorted lists with the same elements are one
  sorted-same : {xs ys : List A} → Sorted R xs → Sorted R ys → ((x : A) → x among xs → x among ys) → ((x : A) → x among ys → x among xs) → xs ≡ ys
  sorted-same nil nil f b = refl
  sorted-same nil (cons {x = y} h t) f b = absurd (Memᴰ.not-nil (b y (here refl)))
  sorted-same (cons {x} h s) nil f b = absurd (Memᴰ.not-nil (f x (here refl)))
  sorted-same (cons {x} {xs} h s) (cons {x = y} {xs = ys} k t) f b =
      ap₂ ◌∷◌ top (sorted-same s t
      (λ z m. ⊎_elim (λ e. absurd (irrefl z (subst (λ w. R w z) (top ∙ sym e) (h z m)))) (λ l. l) (Memᴰ.cases_cons (f z (there m))))
      (λ z m. ⊎_elim (λ e. absurd (irrefl z (subst (λ w. R w z) (sym top ∙ sym e) (k z m)))) (λ l. l) (Memᴰ.cases_cons (b z (there m)))))
    where
      top : x ≡ y
      top = ⊎_elim (λ e. e) (λ m. ⊎_elim (λ e. sym e) (λ l. absurd (irrefl x (trans x y x (h y l) (k x m)))) (Memᴰ.cases_cons (b y (here refl)))) (Memᴰ.cases_cons (f x (here refl)))

  pub lists_unique : {P : A → Type 0} {xs ys : List A} → Lists R P xs → Lists R P ys → xs ≡ ys
  lists_unique l k = sorted-same l.sorted k.sorted (λ x m. k.all x (l.only x m)) (λ x m. l.all x (k.only x m))

  -- what stands before x in a listing of P lists what is of P and before x
  pub lists_before : {P : A → Type 0} (ls : List A) {x : A} (bs : List A) → Lists R P (ls ++ x ∷ bs) → Lists R (λ y. P y × R y x) ls
  lists_before {P} ls {x} bs l =
      let (s, t, c) = sorted_split ls l.sorted in record {
        sorted = s;
        only = λ y m. (l.only y (Memᴰ.append_left (x ∷ bs) m), c y x m (here refl));
        all = λ y (p, r). ⊎_elim (λ m. m) (λ m. absurd (late y r t (Memᴰ.cases_cons m))) (Memᴰ.append_cases ls (l.all y p));
      }
    where
      late : (y : A) → R y x → Sorted R (x ∷ bs) → (y ≡ x) ⊎ (y among bs) → ⊥
      late y r t (inl e) = irrefl x (rw e at r)
      late y r (cons h t) (inr m) = irrefl x (trans x y x (h y m) r)
