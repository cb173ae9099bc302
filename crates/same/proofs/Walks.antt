-- Two things walked side by side: whether the walk came through (`walk_both`), a loop that counts two rows down (`walk_none`, `walk_on`,
-- `walk_differs`), rows with their counts before them (`counted_passes`, `counted_fails`, `counted_same`, and where a count can't be read),
-- each for any element, relation, test of the lengths and reader. For src/walk.rt and subtree; a walk: specs/Walks.antt.
use Prim.Native.Nat.{ℕ, suc}
use mathlib.Core.Path.{◌≡◌, refl, sym, ◌∙◌}
use mathlib.Core.Bool.{Bool, true, false, cond, ◌&&◌}
use mathlib.Core.List.{List, ◌∷◌}
use lib.ListN.{length}
use lib.Dec.{eqb}
use borrow.Author.Tests.{eq-eqb}
use Rattle.std.specs.Prelude.{Option, Some, None, is_some}
use Rattle.fields.specs.Fields.{Parsed, got, stop, after, count_p, many, counted_p}
use Rattle.fields.proofs.Many.{many-length}
use Rattle.same.specs.Same.{places}
use Rattle.same.specs.Answers.{both_read}
use Rattle.same.specs.Walks.{walk}

-- the next two things are walked where the last two end
abbrev pub on : Option (ℕ × ℕ) → (ℕ → ℕ → Option (ℕ × ℕ)) → Option (ℕ × ℕ)
on (Some (e, f)) g = g e f
on None g = None

-- what can't be read on the right differs from everything
pub stop-right : {A : Type 0} (q : A → A → Bool) (x : Parsed A) (r : ℕ) → walk q x (stop r) ≡ None
stop-right q (got x e) r = refl
stop-right q (stop o) r = refl

-- ---- a walk as a yes or no

through_test : (t : Bool) (e f : ℕ) → is_some {T = ℕ × ℕ} (cond t (Some (e, f)) None) ≡ t
through_test true e f = refl
through_test false e f = refl

pub walk_both : {A : Type 0} (q : A → A → Bool) (x y : Parsed A) → is_some (walk q x y) ≡ both_read q x y
walk_both q (got x e) (got y f) = through_test (q x y) e f
walk_both q (got x e) (stop r) = refl
walk_both q (stop r) y = refl

-- ---- rows of n things

module _ {A : Type 0} (q : A → A → Bool) where
  first_and_rest : (t : Bool) (x y : A) → q x y ≡ t → (l m : Parsed (List A)) (e f : ℕ) (g : ℕ → ℕ → Option (ℕ × ℕ))
      → g e f ≡ walk (places q) l m
      → walk (places q) (after l (λ k i. got (x ∷ k) i)) (after m (λ k i. got (y ∷ k) i)) ≡ on (cond t (Some (e, f)) None) g
  unfolding places
  first_and_rest true x y h (got l i) (got m j) e f g r = rw (h, r)
  first_and_rest false x y h (got l i) (got m j) e f g r = rw h
  first_and_rest true x y h (got l i) (stop o) e f g r = sym r
  first_and_rest false x y h (got l i) (stop o) e f g r = refl
  first_and_rest true x y h (stop o) m e f g r = sym r
  first_and_rest false x y h (stop o) m e f g r = refl

  module _ (p : List ℕ → ℕ → Parsed A) (s t : List ℕ) where
    step : (n : ℕ) (a b : Parsed A)
        → walk (places q)
        (after a (λ x e. after (many p n s e) (λ l f. got (x ∷ l) f)))
        (after b (λ x e. after (many p n t e) (λ l f. got (x ∷ l) f)))
        ≡ on (walk q a b) (λ e f. walk (places q) (many p n s e) (many p n t f))
    step n (got x e) (got y f) = first_and_rest (q x y) x y refl (many p n s e) (many p n t f) e f _ refl
    step n (got x e) (stop r) = stop-right (places q) (after (many p n s e) (λ l f. got (x ∷ l) f)) r
    step n (stop r) b = refl

    pub walk_none : (n at bt : ℕ) → n ≡ 0 → walk (places q) (many p n s at) (many p n t bt) ≡ Some (at, bt)
    unfolding many places
    walk_none n at bt h = rw h

    walk_some : (n m at bt : ℕ) → n ≡ suc m
        → walk (places q) (many p n s at) (many p n t bt) ≡ on (walk q (p s at) (p t bt)) (λ e f. walk (places q) (many p m s e) (many p m t f))
    unfolding many
    walk_some n m at bt h = rw h (step m (p s at) (p t bt))

    pub walk_on : (n m at bt e f : ℕ) → n ≡ suc m → walk q (p s at) (p t bt) ≡ Some (e, f)
        → walk (places q) (many p n s at) (many p n t bt) ≡ walk (places q) (many p m s e) (many p m t f)
    walk_on n m at bt e f h w = walk_some n m at bt h ∙ rw w

    pub walk_differs : (n m at bt : ℕ) → n ≡ suc m → walk q (p s at) (p t bt) ≡ None
        → walk (places q) (many p n s at) (many p n t bt) ≡ None
    walk_differs n m at bt h w = walk_some n m at bt h ∙ rw w

-- ---- rows whose lengths are tested

-- the lengths pass, and the rows are related
abbrev pub tested : {A : Type 0} → (ℕ → ℕ → Bool) → (List A → List A → Bool) → List A → List A → Bool
tested test q a b = test (length a) (length b) && q a b

module _ {A : Type 0} (test : ℕ → ℕ → Bool) (q : List A → List A → Bool) (p : List ℕ → ℕ → Parsed A) (s t : List ℕ) where
  -- rows that were read with the counts n and m, and what the test of their lengths comes to
  by_length : (n m at bt : ℕ) (u : Bool) → test n m ≡ u → (x y : Parsed (List A)) → many p n s at ≡ x → many p m t bt ≡ y
      → walk (tested test q) x y ≡ cond u (walk q x y) None
  by_length n m at bt true h (got a e) (got b f) i j = rw (many-length p s n at a e i, many-length p t m bt b f j, h)
  by_length n m at bt false h (got a e) (got b f) i j = rw (many-length p s n at a e i, many-length p t m bt b f j, h)
  by_length n m at bt true h (got a e) (stop r) i j = refl
  by_length n m at bt false h (got a e) (stop r) i j = refl
  by_length n m at bt true h (stop r) y i j = refl
  by_length n m at bt false h (stop r) y i j = refl

  -- ---- with their counts before them

  module _ (least most at bt n m e f : ℕ) (h : count_p least most s at ≡ got n e) (k : count_p least most t bt ≡ got m f) where
    pub counted_passes : test n m ≡ true
        → walk (tested test q) (counted_p least most p s at) (counted_p least most p t bt)
        ≡ walk q (counted_p least most p s at) (counted_p least most p t bt)
    unfolding counted_p
    counted_passes i = rw (h, k) (by_length n m e f true i _ _ refl refl)

    pub counted_fails : test n m ≡ false → walk (tested test q) (counted_p least most p s at) (counted_p least most p t bt) ≡ None
    unfolding counted_p
    counted_fails i = rw (h, k) (by_length n m e f false i _ _ refl refl)

-- as many, from the places past their counts on
pub counted_same : {A : Type 0} (q : List A → List A → Bool) (p : List ℕ → ℕ → Parsed A) (s t : List ℕ) (least most at bt n m e f : ℕ)
    → count_p least most s at ≡ got n e → count_p least most t bt ≡ got m f → n ≡ m
    → walk (tested eqb q) (counted_p least most p s at) (counted_p least most p t bt) ≡ walk q (many p n s e) (many p n t f)
unfolding counted_p
counted_same q p s t least most at bt n m e f h k i =
    counted_passes eqb q p s t least most at bt n m e f h k (eq-eqb n m i) ∙ rw (h, k, ← i)

-- ---- a count that can't be read, whatever relates the rows

module _ {A : Type 0} (q : List A → List A → Bool) (p : List ℕ → ℕ → Parsed A) (s t : List ℕ) (least most at bt r : ℕ) where
  pub no_count_left : count_p least most s at ≡ stop r → walk q (counted_p least most p s at) (counted_p least most p t bt) ≡ None
  unfolding counted_p
  no_count_left h = rw h

  pub no_count_right : count_p least most t bt ≡ stop r → walk q (counted_p least most p s at) (counted_p least most p t bt) ≡ None
  unfolding counted_p
  no_count_right h = rw h (stop-right q (counted_p least most p s at) r)
