-- Two values walked side by side for `same_normal`: what holds of what is left of both (`Abreast`), from behind the spaces that they begin
-- with (`begins`) by the bytes that go together and the spaces behind them (`next`) to where one of them has no space (`answers_second`,
-- `answers_no`). What is left of the forms: Rests.antt; the counts: specs/Values.antt.
use Prim.Native.Nat.{ℕ, ◌+◌, ◌-◌, ◌<◌}
use mathlib.Core.Path.{◌≡◌, sym, ◌∙◌}
use mathlib.Core.Bool.{false}
use mathlib.Core.List.{List}
use mathlib.Core.Logic.{◌⊎◌, inl, inr, ⊎_elim}
use native.Mathlib.Omega.{arith}
use lib.ListN.{length, take, drop, length-drop}
use lib.Dec.{eqb}
use Rattle.text.specs.Bytes.{same}
use Rattle.text.specs.Normal.{normal}
use Rattle.text.proofs.NormalFrom.{normal_from_lem}
use Rattle.text.proofs.Same.{tail}
use Rattle.same.specs.Values.{together, spaces}
use Rattle.same.proofs.Alike.{tests_agree}
use Rattle.same.proofs.Counts.{spaces_most}
use Rattle.same.proofs.Rests.{rest, past, past_start, go_on, parted, gaps, first_through, first_goes_on}

-- the forms are the same where what is left of them is
pub record Abreast (a b x y : List ℕ) : Type 0 where
  pub is : same (normal a) (normal b) ≡ same (rest x) (rest y)

pub begins : (a b x y : List ℕ) → x ≡ past a → y ≡ past b → Abreast a b x y
begins a b x y u v = record { is = rw (u, v, ← normal_from_lem a, ← normal_from_lem b, past_start false a, past_start false b) }

-- what is left behind a string's spaces
past_length : (l : List ℕ) → length (past l) + spaces l ≡ length l
past_length l = let k : length (past l) ≡ length l - spaces l = length-drop (spaces l) l in omega (arith, spaces_most l)

-- n bytes of x and y go together, x' and y' come after them, and u and v after the spaces that these begin with
module _ (a b x y : List ℕ) (h : Abreast a b x y) (n : ℕ) (c : n ≡ together x y) (x' y' u v : List ℕ)
    (p : x' ≡ take (length x - n) (drop n x)) (q : y' ≡ take (length y - n) (drop n y)) (e : u ≡ past x') (f : v ≡ past y')
  where
    here : same (normal a) (normal b) ≡ same (rest x') (rest y')
    here = h.is ∙ go_on x y ∙ rw (p, q, tail n x, tail n y, c)

    apart : together x' y' ≡ 0
    apart = rw (p, q, tail n x, tail n y, c) (parted x y)

    left : length u + spaces x' ≡ length x'
    left = rw e (past_length x')

    right : length v + spaces y' ≡ length y'
    right = rw f (past_length y')

    -- the first has only spaces left
    pub answers_second : length u ≡ 0 → eqb (length v) 0 ≡ same (normal a) (normal b)
    answers_second k =
        tests_agree (length v) 0 (spaces y') (length y') (λ t. omega (arith, right)) (λ t. omega (arith, right))
        ∙ sym (here ∙ first_through x' y' (omega (arith, left)))

    -- something comes after the first one's spaces, and one of the two has no space here
    pub answers_no : (length u ≡ 0 → ⊥) → (length u ≡ length x') ⊎ (length v ≡ length y') → false ≡ same (normal a) (normal b)
    answers_no k s =
        sym (here ∙ first_goes_on x' y' apart (⊎_elim (λ t. inl (omega (arith, left))) (λ t. inr (omega (arith, right))) s) (λ z. k (omega (arith, left))))

    pub next : (length u ≡ length x' → ⊥) → (length v ≡ length y' → ⊥) → Abreast a b u v
    next s t = record { is = here ∙ gaps x' y' (λ z. s (omega (arith, left))) (λ z. t (omega (arith, right))) ∙ rw (e, f) }

    -- and the walk has moved on in the first
    pub nearer : (length u ≡ length x' → ⊥) → length u < length x
    nearer s =
        let k : length x' ≡ length x - n = rw (p, tail n x) (length-drop n x) in
        omega (arith, left)
