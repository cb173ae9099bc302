-- How many bytes go together, and how many spaces come first, as the code counts them by what it takes (`together_taken`, `spaces_taken`), and
-- that neither is more than there is (`together_most`, `spaces_most`). What they count: specs/Values.antt; what the walk makes of it:
-- Abreast.antt.
use Prim.Native.Nat.{ℕ, zero, suc, ◌+◌, ◌≤◌, min}
use mathlib.Core.Path.{◌≡◌, refl, ap}
use mathlib.Core.Bool.{Bool, true, false, cond, not, ◌&&◌}
use mathlib.Core.List.{List, [], ◌∷◌}
use native.Mathlib.Omega.{arith}
use lib.ListN.{length, take}
use lib.Dec.{eqb}
use Rattle.std.proofs.Math.Nat.{le-min}
use Rattle.std.specs.List.{zip, take_while, common_prefix_len, prefix_len}
use Rattle.std.proofs.lemmas.List.Folds.{length-prefix_len}
use Rattle.std.proofs.lemmas.List.Sums.{prefix_len-le-length, common_prefix_len-le}
use Rattle.text.specs.Bytes.{lowered}
use Rattle.same.specs.Values.{together, spaces}

pairs_taken : {A B : Type 0} (e : A → B → Bool) (a : List A) (b : List B) → prefix_len (λ p. e p.0 p.1) (zip a b) ≡ common_prefix_len e a b
pairs_taken e [] b = refl
pairs_taken e (x ∷ a) [] = refl
pairs_taken e (x ∷ a) (y ∷ b) = rw (pairs_taken e a b)

pub together_taken : (a b : List ℕ) → length (take_while (λ p. not (eqb p.0 32) && eqb (lowered p.0) (lowered p.1)) (zip a b)) ≡ together a b
unfolding together
together_taken a b =
    rw (length-prefix_len, pairs_taken (λ x y. not (eqb x 32) && eqb (lowered x) (lowered y)) a b)

-- what is as long as the prefix has it too
cut : {A B : Type 0} (e : A → B → Bool) (n : ℕ) (a : List A) (b : List B) → common_prefix_len e a b ≤ n
    → common_prefix_len e (take n a) (take n b) ≡ common_prefix_len e a b
cut e zero [] b h = refl
cut e (suc n) [] b h = refl
cut e zero (x ∷ a) [] h = refl
cut e (suc n) (x ∷ a) [] h = refl
cut e zero (x ∷ a) (y ∷ b) h = omega (arith, h)
cut e (suc n) (x ∷ a) (y ∷ b) h = by_test (e x y) refl (λ k. cut e n a b k)
  where
    by_test : (t : Bool) → e x y ≡ t → (common_prefix_len e a b ≤ n → common_prefix_len e (take n a) (take n b) ≡ common_prefix_len e a b)
        → cond t (1 + common_prefix_len e (take n a) (take n b)) 0 ≡ cond t (1 + common_prefix_len e a b) 0
    by_test true q rest =
        let less : 1 + common_prefix_len e a b ≤ suc n = rw q at h in
        ap (λ k. 1 + k) (rest (omega arith))
    by_test false q rest = refl

pub together_cut : (n : ℕ) (a b : List ℕ) → n ≡ min (length a) (length b) → together (take n a) (take n b) ≡ together a b
unfolding together
together_cut n a b h = cut _ n a b (rw h (le-min (common_prefix_len-le _ a b).0 (common_prefix_len-le _ a b).1))

pub spaces_taken : (l : List ℕ) → length (take_while (λ b. eqb b 32) l) ≡ spaces l
unfolding spaces
spaces_taken l = rw length-prefix_len

pub space_more : (b : ℕ) (l : List ℕ) → eqb b 32 ≡ true → spaces (b ∷ l) ≡ suc (spaces l)
unfolding spaces
space_more b l e = rw e (omega arith)

pub spaces_most : (l : List ℕ) → spaces l ≤ length l
unfolding spaces
spaces_most l = prefix_len-le-length _ l

pub together_most : (a b : List ℕ) → (together a b ≤ length a) × (together a b ≤ length b)
unfolding together
together_most a b = common_prefix_len-le _ a b
