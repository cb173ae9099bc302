-- What two normal forms go on with inside a word, `rest` of what is left of each string, compared by those strings: where they go together
-- (`go_on`), where both have spaces (`gaps`), where one has only spaces left (`first_through`), and where they part otherwise
-- (`first_goes_on`); and the spaces that a string begins with (`past_start`). By places: Abreast.antt; the form byte by byte:
-- text/proofs/NormalFrom.antt; the counts: specs/Values.antt.
use Prim.Native.Nat.{ℕ, zero, suc}
use mathlib.Core.Path.{◌≡◌, refl, sym, ap, ◌∙◌}
use mathlib.Core.Bool.{Bool, true, false, cond, ◌&&◌, false≢true}
use mathlib.Core.List.{List, [], ◌∷◌, ◌++◌, cons≢nil}
use mathlib.Core.Logic.{◌⊎◌, inl, inr, ⊎_elim}
use native.Mathlib.Omega.{arith}
use lib.ListN.{length, drop}
use lib.Dec.{eqb}
use borrow.Author.Tests.{eqb-true, eqb-false}
use Rattle.text.specs.Bytes.{lowered, same}
use Rattle.text.proofs.NormalFrom.{normal_from}
use Rattle.text.proofs.Lowering.{lowered_sign}
use Rattle.text.proofs.Same.{differ}
use Rattle.same.specs.Values.{together, spaces}
use Rattle.same.proofs.Counts.{space_more}

-- what a form goes on with inside a word
abbrev pub rest : List ℕ → List ℕ
rest l = normal_from true false l

-- the string behind the spaces that it begins with
abbrev pub past : List ℕ → List ℕ
past l = drop (spaces l) l

-- ---- a space, and another byte

module _ (b : ℕ) (l : List ℕ) where
  from_space : (nw ws : Bool) → eqb b 32 ≡ true → normal_from nw ws (b ∷ l) ≡ normal_from nw true l
  unfolding normal_from
  from_space nw ws e = rw e

  from_byte : (nw ws : Bool) → eqb b 32 ≡ false → normal_from nw ws (b ∷ l) ≡ cond (nw && ws) (32 ∷ []) [] ++ lowered b ∷ rest l
  unfolding normal_from
  from_byte nw ws e = rw e

  past_space : eqb b 32 ≡ true → past (b ∷ l) ≡ past l
  past_space e = rw (space_more b l e)

  past_byte : eqb b 32 ≡ false → past (b ∷ l) ≡ b ∷ l
  unfolding spaces
  past_byte e = rw e

-- ---- spaces passed over: at the start they are gone, between words they come to one if a word follows

pub past_start : (ws : Bool) (l : List ℕ) → normal_from false ws l ≡ rest (past l)
unfolding normal_from spaces
past_start ws [] = refl
past_start ws (b ∷ l) = go (past_start true l) (eqb b 32) refl where
  go : normal_from false true l ≡ rest (past l) → (t : Bool) → eqb b 32 ≡ t → normal_from false ws (b ∷ l) ≡ rest (past (b ∷ l))
  go h true e = from_space b l false ws e ∙ h ∙ ap rest (sym (past_space b l e))
  go h false e = from_byte b l false ws e ∙ sym (from_byte b l true false e) ∙ ap rest (sym (past_byte b l e))

-- a space in front of a form that goes on
unfoldable owed : List ℕ → List ℕ
owed [] = []
owed (x ∷ l) = 32 ∷ x ∷ l

past_gap : (l : List ℕ) → normal_from true true l ≡ owed (rest (past l))
unfolding normal_from spaces owed
past_gap [] = refl
past_gap (b ∷ l) = go (past_gap l) (eqb b 32) refl where
  go : normal_from true true l ≡ owed (rest (past l)) → (t : Bool) → eqb b 32 ≡ t → normal_from true true (b ∷ l) ≡ owed (rest (past (b ∷ l)))
  go h true e = from_space b l true true e ∙ h ∙ ap (λ m. owed (rest m)) (sym (past_space b l e))
  go h false e = from_byte b l true true e ∙ ap owed (sym (from_byte b l true false e)) ∙ ap (λ m. owed (rest m)) (sym (past_byte b l e))

same_owed : (a b : List ℕ) → same (owed a) (owed b) ≡ same a b
unfolding same owed
same_owed [] [] = refl
same_owed [] (y ∷ b) = refl
same_owed (x ∷ a) [] = refl
same_owed (x ∷ a) (y ∷ b) = refl

after_gap : (l : List ℕ) → (spaces l ≡ 0 → ⊥) → rest l ≡ owed (rest (past l))
unfolding spaces
after_gap [] n = absurd (n refl)
after_gap (b ∷ l) n = go (eqb b 32) refl where
  go : (t : Bool) → eqb b 32 ≡ t → rest (b ∷ l) ≡ owed (rest (past (b ∷ l)))
  go true e = from_space b l true false e ∙ past_gap l ∙ ap (λ m. owed (rest m)) (sym (past_space b l e))
  go false e = absurd (n (rw e))

-- both have a space here: each goes on behind its spaces
pub gaps : (a b : List ℕ) → (spaces a ≡ 0 → ⊥) → (spaces b ≡ 0 → ⊥) → same (rest a) (rest b) ≡ same (rest (past a)) (rest (past b))
gaps a b m n = rw (after_gap a m, after_gap b n) (same_owed (rest (past a)) (rest (past b)))

-- ---- bytes that go together

module _ (x y : ℕ) (a b : List ℕ) where
  -- either both go on by a byte, or not at all
  abbrev Goes : Type 0
  Goes = ((together (x ∷ a) (y ∷ b) ≡ suc (together a b)) × (eqb x 32 ≡ false) × (eqb (lowered x) (lowered y) ≡ true))
      ⊎ ((together (x ∷ a) (y ∷ b) ≡ zero) × (eqb x 32 ≡ false → eqb (lowered x) (lowered y) ≡ false))

  goes : Goes
  unfolding together
  goes = go (eqb x 32) refl (eqb (lowered x) (lowered y)) refl where
    go : (t : Bool) → eqb x 32 ≡ t → (u : Bool) → eqb (lowered x) (lowered y) ≡ u → Goes
    go true e u f = inr (rw e, λ n. absurd (false≢true (sym n ∙ e)))
    go false e true f = inl (rw (e, f) (omega arith), e, f)
    go false e false f = inr (rw (e, f), λ n. f)

  -- bytes that are the same lowered are both spaces or neither
  space_too : eqb (lowered x) (lowered y) ≡ true → eqb x 32 ≡ eqb y 32
  space_too f =
      sym (lowered_sign 32 x (omega arith)) ∙ ap (λ c. eqb c 32) (eqb-true (lowered x) (lowered y) f) ∙ lowered_sign 32 y (omega arith)

  same_bytes : eqb x 32 ≡ false → eqb (lowered x) (lowered y) ≡ true → same (rest (x ∷ a)) (rest (y ∷ b)) ≡ same (rest a) (rest b)
  unfolding same
  same_bytes e f = rw (from_byte x a true false e, from_byte y b true false (sym (space_too f) ∙ e), f)

pub go_on : (a b : List ℕ) → same (rest a) (rest b) ≡ same (rest (drop (together a b) a)) (rest (drop (together a b) b))
unfolding together
go_on [] b = refl
go_on (x ∷ a) [] = refl
go_on (x ∷ a) (y ∷ b) = ⊎_elim
    (λ g. same_bytes x y a b g.1 g.2 ∙ go_on a b ∙ rw g.0)
    (λ g. rw g.0)
    (goes x y a b)

pub parted : (a b : List ℕ) → together (drop (together a b) a) (drop (together a b) b) ≡ zero
unfolding together
parted [] b = refl
parted (x ∷ a) [] = refl
parted (x ∷ a) (y ∷ b) = ⊎_elim (λ g. rw g.0 (parted a b)) (λ g. rw (g.0, g.0)) (goes x y a b)

-- ---- what is left is spaces, or something comes after them

none_left : (nw ws : Bool) (l : List ℕ) → spaces l ≡ length l → normal_from nw ws l ≡ []
unfolding spaces normal_from
none_left nw ws [] e = refl
none_left nw ws (b ∷ l) e = go (none_left nw true l) (eqb b 32) refl where
  go : (spaces l ≡ length l → normal_from nw true l ≡ []) → (t : Bool) → eqb b 32 ≡ t → normal_from nw ws (b ∷ l) ≡ []
  go h true f =
      let q = space_more b l f in
      from_space b l nw ws f ∙ h (omega arith)
  go h false f =
      let q : 0 ≡ suc (length l) = rw f at e in
      absurd (omega arith)

some_left : (t : Bool) (b : ℕ) (l : List ℕ) → cond t (32 ∷ []) [] ++ b ∷ l ≡ [] → ⊥
some_left true b l e = cons≢nil e
some_left false b l e = cons≢nil e

only-spaces : (nw ws : Bool) (l : List ℕ) → normal_from nw ws l ≡ [] → spaces l ≡ length l
unfolding spaces normal_from
only-spaces nw ws [] e = refl
only-spaces nw ws (b ∷ l) e = go (only-spaces nw true l) (eqb b 32) refl where
  go : (normal_from nw true l ≡ [] → spaces l ≡ length l) → (t : Bool) → eqb b 32 ≡ t → spaces (b ∷ l) ≡ length (b ∷ l)
  go h true f = space_more b l f ∙ ap suc (h (sym (from_space b l nw ws f) ∙ e))
  go h false f = absurd (some_left (nw && ws) (lowered b) (rest l) (sym (from_byte b l nw ws f) ∙ e))

-- the first has only spaces left: so must the second
pub first_through : (a b : List ℕ) → spaces a ≡ length a → same (rest a) (rest b) ≡ eqb (spaces b) (length b)
unfolding same
first_through a b e = rw (none_left true false a e) (go (eqb (spaces b) (length b)) refl) where
  go : (t : Bool) → eqb (spaces b) (length b) ≡ t → same [] (rest b) ≡ t
  go true f = rw (none_left true false b (eqb-true _ _ f))
  go false f = differ [] (rest b) (λ n. eqb-false _ _ f (only-spaces true false b (sym n)))

module _ (b : ℕ) (l : List ℕ) where
  -- what a form goes on with is nothing, or begins with the next byte lowered
  abbrev Heads : Type 0
  Heads = (rest (b ∷ l) ≡ []) ⊎ ((m : List ℕ) × (rest (b ∷ l) ≡ lowered b ∷ m))

  heads : Heads
  unfolding owed
  heads = go (eqb b 32) refl where
    owing : (m : List ℕ) → lowered b ≡ 32 → rest (b ∷ l) ≡ owed m → Heads
    owing [] f e = inl e
    owing (x ∷ m) f e = inr (x ∷ m, e ∙ ap (λ c. c ∷ x ∷ m) (sym f))

    go : (t : Bool) → eqb b 32 ≡ t → Heads
    go true f = owing (rest (past l)) (eqb-true (lowered b) 32 (lowered_sign 32 b (omega arith) ∙ f)) (from_space b l true false f ∙ past_gap l)
    go false f = inr (rest l, from_byte b l true false f)

  not_a_space : spaces (b ∷ l) ≡ 0 → eqb b 32 ≡ false
  unfolding spaces
  not_a_space e = go (eqb b 32) refl where
    go : (t : Bool) → eqb b 32 ≡ t → t ≡ false
    go true f = let q = space_more b l f in absurd (omega arith)
    go false f = refl

module _ (x y : ℕ) (a b : List ℕ) where
  heads_differ : eqb (lowered x) (lowered y) ≡ false → (rest (x ∷ a) ≡ [] → ⊥) → same (rest (x ∷ a)) (rest (y ∷ b)) ≡ false
  unfolding same
  heads_differ o n = go (heads x a) (heads y b) where
    go : Heads x a → Heads y b → same (rest (x ∷ a)) (rest (y ∷ b)) ≡ false
    go (inl e) k = absurd (n e)
    go (inr (m, e)) (inl f) = rw (e, f)
    go (inr (m, e)) (inr (l, f)) = rw (e, f, o)

  -- two bytes at which the strings part, not both spaces
  parting_bytes : together (x ∷ a) (y ∷ b) ≡ zero → (spaces (x ∷ a) ≡ 0) ⊎ (spaces (y ∷ b) ≡ 0) → eqb (lowered x) (lowered y) ≡ false
  parting_bytes z s = ⊎_elim
      (λ g. let q : suc (together a b) ≡ 0 = sym g.0 ∙ z in absurd (omega arith))
      (λ g. ⊎_elim (λ e. g.1 (not_a_space x a e)) (λ e. go (not_a_space y b e) g.1 (eqb (lowered x) (lowered y)) refl) s)
      (goes x y a b)
    where
      go : eqb y 32 ≡ false → (eqb x 32 ≡ false → eqb (lowered x) (lowered y) ≡ false) → (t : Bool) → eqb (lowered x) (lowered y) ≡ t → t ≡ false
      go e h true f = sym f ∙ h (space_too x y a b f ∙ e)
      go e h false f = refl

-- something comes after the first one's spaces, and not both have a space here
pub first_goes_on : (a b : List ℕ) → together a b ≡ zero → (spaces a ≡ 0) ⊎ (spaces b ≡ 0) → (spaces a ≡ length a → ⊥)
    → same (rest a) (rest b) ≡ false
unfolding same spaces normal_from
first_goes_on [] b z s n = absurd (n refl)
first_goes_on (x ∷ a) [] z s n = ⊎_elim (λ e. absurd (n (only-spaces true false (x ∷ a) e))) (λ h. rw h.1) (heads x a)
first_goes_on (x ∷ a) (y ∷ b) z s n = heads_differ x y a b (parting_bytes x y a b z s) (λ e. n (only-spaces true false (x ∷ a) e))
