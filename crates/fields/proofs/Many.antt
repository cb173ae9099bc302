-- So many of a thing in a row, for any thing: where none end and where some do (`many-none`, `many-some`), the first and the rest
-- (`many_split`), the first m and the rest (`many_prefix`), how many were read, what stands at a place of the row (`many_nth`). A loop that
-- keeps what it reads: Filling.antt; a loop past the row, a count before it: Runs.antt.
use Prim.Native.Nat.{ℕ, zero, suc, ◌-◌, ◌<◌, ◌≤◌}
use mathlib.Core.Path.{◌≡◌, refl, sym, ap, ◌∙◌}
use mathlib.Core.List.{List, [], ◌∷◌}
use native.Mathlib.Omega.{arith}
use native.Mathlib.Nat.{add-zero, sub-zero, suc-sub-suc}
use lib.ListN.{length, get_or, take, drop}
use lib.Seq.{get_or-drop}
use Rattle.fields.specs.Fields.{Parsed, got, stop, after, many}
use Rattle.fields.specs.Answers.{passing}

-- ---- where things end, whatever they are

-- the place past a thing that is read after another is found from the place past the other
pub passing_after : {A B : Type 0} (x : Parsed A) (f : A → ℕ → Parsed B) (g : ℕ → Parsed (Unit {0}))
    → ((a : A) (e : ℕ) → passing (f a e) ≡ g e) → passing (after x f) ≡ after (passing x) (λ _ e. g e)
passing_after (got a e) f g h = h a e
passing_after (stop r) f g h = refl

module _ {A : Type 0} (p : List ℕ → ℕ → Parsed A) (s : List ℕ) where
  pub many-none : (n at : ℕ) → n ≤ 0 → passing (many p n s at) ≡ got tt at
  unfolding many
  many-none zero at h = refl
  many-none (suc n) at h = absurd (omega arith)

  pub many-some : (n at : ℕ) → 0 < n → passing (many p n s at) ≡ after (passing (p s at)) (λ _ e. passing (many p (n - 1) s e))
  unfolding many
  many-some zero at h = absurd (omega arith)
  many-some (suc n) at h =
      let k : suc n - 1 ≡ n = omega arith in
      rw k (passing_after (p s at) _ _ (λ a e. passing_after (many p n s e) _ _ (λ l f. refl) ∙ same_place (many p n s e)))
    where
      same_place : (x : Parsed (List A)) → after (passing x) (λ _ e. got tt e) ≡ passing x
      same_place (got l e) = refl
      same_place (stop r) = refl

-- ---- a row that was read

module _ {A : Type 0} (p : List ℕ → ℕ → Parsed A) (s : List ℕ) where
  -- a row's first thing, and the n that follow it
  pub record Split (n at : ℕ) (l : List A) (e : ℕ) : Type 0 where
    pub head : A
    pub mid : ℕ
    pub tail : List A
    pub first : p s at ≡ got head mid
    pub rest : many p n s mid ≡ got tail e
    pub whole : l ≡ head ∷ tail

  rest_of : (n at : ℕ) (l : List A) (e : ℕ) (a : A) (m : ℕ) → p s at ≡ got a m → (y : Parsed (List A)) → many p n s m ≡ y
      → after y (λ k f. got (a ∷ k) f) ≡ got l e → Split n at l e
  rest_of n at l e a m h (got k f) q r =
      let z : f ≡ e = cc in
      record { head = a; mid = m; tail = k; first = h; rest = cc; whole = cc }
  rest_of n at l e a m h (stop r) q o = let z : ◌≡◌ {A = ℕ} 0 1 = cc in absurd (omega arith)

  first_of : (n at : ℕ) (l : List A) (e : ℕ) (x : Parsed A) → p s at ≡ x
      → after x (λ a m. after (many p n s m) (λ k f. got (a ∷ k) f)) ≡ got l e → Split n at l e
  first_of n at l e (got a m) h r = rest_of n at l e a m h (many p n s m) refl r
  first_of n at l e (stop r) h o = let z : ◌≡◌ {A = ℕ} 0 1 = cc in absurd (omega arith)

  split : (n at : ℕ) (l : List A) (e : ℕ) → many p (suc n) s at ≡ got l e → Split n at l e
  unfolding many
  split n at l e h = first_of n at l e (p s at) refl h

  pub many_split : (n at : ℕ) (l : List A) (e : ℕ) → 0 < n → many p n s at ≡ got l e → Split (n - 1) at l e
  many_split zero at l e h r = absurd (omega arith)
  many_split (suc n) at l e h r =
      let k : suc n - 1 ≡ n = omega arith in
      rw k (split n at l e r)

  pub many-length : (n at : ℕ) (l : List A) (e : ℕ) → many p n s at ≡ got l e → length l ≡ n
  unfolding many
  many-length zero at l e r = let z : [] ≡ l = cc in rw (← z)
  many-length (suc n) at l e r =
      let t = split n at l e r in
      rw t.whole (ap suc (many-length n t.mid t.tail e t.rest))

  -- where a row's first m things end, and the others begin
  pub record Prefix (m n at : ℕ) (l : List A) (e : ℕ) : Type 0 where
    pub place : ℕ
    pub front : many p m s at ≡ got (take m l) place
    pub back : many p (n - m) s place ≡ got (drop m l) e

  pub many_prefix : (m n at : ℕ) (l : List A) (e : ℕ) → m ≤ n → many p n s at ≡ got l e → Prefix m n at l e
  unfolding many
  many_prefix zero n at l e h r = record { place = at; front = refl; back = rw sub-zero r }
  many_prefix (suc m) zero at l e h r = absurd (omega arith)
  many_prefix (suc m) (suc n) at l e h r =
      let t = split n at l e r in
      let u = many_prefix m n t.mid t.tail e (omega arith) t.rest in
      let front : many p (suc m) s at ≡ got (t.head ∷ take m t.tail) u.place = rw (t.first, u.front) in
      let back : many p (suc n - suc m) s u.place ≡ got (drop m t.tail) e = rw suc-sub-suc u.back in
      record {
        place = u.place;
        front = front ∙ ap (λ (k : List A). got (take (suc m) k) u.place) (sym t.whole);
        back = back ∙ ap (λ (k : List A). got (drop (suc m) k) e) (sym t.whole);
      }

  -- the place of the i-th thing of a row, where a loop past the i things before it comes to, and what stands there
  pub record Nth (d : A) (i at : ℕ) (l : List A) : Type 0 where
    pub place : ℕ
    pub past : ℕ
    pub placed : passing (many p i s at) ≡ got tt place
    pub is : p s place ≡ got (get_or l i d) past

  pub many_nth : (d : A) (i n at : ℕ) (l : List A) (e : ℕ) → i < n → many p n s at ≡ got l e → Nth d i at l
  many_nth d i n at l e h r =
      let t = many_prefix i n at l e (omega arith) r in
      let u = many_split (n - i) t.place (drop i l) e (omega arith) t.back in
      let first : get_or (drop i l) 0 d ≡ get_or l i d = rw (get_or-drop, add-zero) in
      let head : get_or l i d ≡ u.head = sym first ∙ ap (λ (k : List A). get_or k 0 d) u.whole in
      record { place = t.place; past = u.mid; placed = ap passing t.front; is = cc }
