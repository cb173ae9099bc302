-- A thing read by its value and the same thing read by its place: what one finds is what stands where the other found it, with the same
-- faults; for any readers, one after the other, so many in a row, and read again. It is for the Values.antt of lists, extensions, record,
-- verdicts, task and card, which join what a file says to where it stands.
use Prim.Native.Nat.{ℕ, zero, suc}
use mathlib.Core.Path.{◌≡◌, refl, sym, ap, ◌∙◌}
use mathlib.Core.List.{List, map}
use Rattle.fields.specs.Fields.{Parsed, got, stop, after, count_p, many, counted_p}
use Rattle.fields.specs.Spans.{list_of}

-- the value of what was found
abbrev pub valued : {A B : Type 0} → (A → B) → Parsed A → Parsed B
valued v x = after x (λ a e. got (v a) e)

-- ---- one after the other

module _ {A B : Type 0} where
  -- what comes next may go by what was found
  pub after-known : (x : Parsed A) {f g : A → ℕ → Parsed B} → ((a : A) (e : ℕ) → x ≡ got a e → f a e ≡ g a e) → after x f ≡ after x g
  after-known (got a e) h = h a e refl
  after-known (stop r) h = refl

  pub after_same : (x : Parsed A) {f g : A → ℕ → Parsed B} → ((a : A) (e : ℕ) → f a e ≡ g a e) → after x f ≡ after x g
  after_same x h = after-known x (λ a e _. h a e)

module _ {A B C : Type 0} where
  pub after-after : (x : Parsed A) (f : A → ℕ → Parsed B) (g : B → ℕ → Parsed C) → after (after x f) g ≡ after x (λ a e. after (f a e) g)
  after-after (got a e) f g = refl
  after-after (stop r) f g = refl

  -- a value is read on as the place that it stands at
  pub by_place : (x : Parsed A) (v : A → B) {y : Parsed B} (k : B → ℕ → Parsed C) → y ≡ valued v x → after y k ≡ after x (λ a e. k (v a) e)
  by_place x v k h = ap (λ y. after y k) h ∙ after-after x (λ a e. got (v a) e) k

-- ---- so many in a row

module _ {A B : Type 0} (p : List ℕ → ℕ → Parsed A) (q : List ℕ → ℕ → Parsed B) (v : A → B) (s : List ℕ) (each : (at : ℕ) → q s at ≡ valued v (p s at)) where
  pub many_valued : (n at : ℕ) → many q n s at ≡ valued (map v) (many p n s at)
  unfolding many
  many_valued zero at = refl
  many_valued (suc n) at =
      by_place (p s at) v _ (each at)
      ∙ after_same (p s at) (λ a e. by_place (many p n s e) (map v) _ (many_valued n e) ∙ sym (after-after (many p n s e) _ _))
      ∙ sym (after-after (p s at) _ _)

  pub counted_valued : (least most at : ℕ) → counted_p least most q s at ≡ valued (map v) (counted_p least most p s at)
  unfolding counted_p
  counted_valued least most at = after_same (count_p least most s at) (λ n e. many_valued n e) ∙ sym (after-after (count_p least most s at) _ _)

-- ---- a list that is read again

module _ {A : Type 0} where
  pub read_again : {B : Type 0} (x : Parsed (List A)) (k : List A → ℕ → Parsed B) → after x k ≡ after x (λ _ e. k (list_of x) e)
  read_again (got l e) k = refl
  read_again (stop r) k = refl

  pub listed_again : (x : Parsed (List A)) → x ≡ after x (λ _ e. got (list_of x) e)
  listed_again (got l e) = refl
  listed_again (stop r) = refl
