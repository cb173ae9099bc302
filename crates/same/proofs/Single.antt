-- RDNs of one attribute each, by their counts as they were read (`one_walked`): their walk is the attributes' walk. For `rdn_walk`; rows of
-- one attribute: `one_each` of Members.antt; rows with their counts before them: Walks.antt.
use Prim.Native.Nat.{ℕ}
use mathlib.Core.Bool.{Bool, true, false, false≢true}
use mathlib.Core.List.{List}
use mathlib.Core.Path.{◌≡◌, refl, sym, ◌∙◌}
use lib.Dec.{eqb}
use borrow.Author.Tests.{eqb-true}
use Rattle.fields.specs.Fields.{Parsed, got, stop, count_p}
use Rattle.names.specs.Names.{attr_p, rdn_p, rdn_most}
use Rattle.same.specs.Same.{same_attr, same_rdn}
use Rattle.same.specs.Matching.{matched}
use Rattle.same.specs.Walks.{walk}
use Rattle.same.proofs.Members.{one_each}
use Rattle.same.proofs.Walks.{counted_same}

-- a count of one was read
abbrev pub is_one : Parsed ℕ → Bool
is_one (got n e) = eqb n 1
is_one (stop r) = false

-- the place past a count
abbrev pub past_of : Parsed ℕ → ℕ
past_of (got n e) = e
past_of (stop r) = 0

pub one_walked : (normalise : Bool) (s t : List ℕ) (at bt : ℕ) → is_one (count_p 1 rdn_most s at) ≡ true → is_one (count_p 1 rdn_most t bt) ≡ true
    → walk (same_rdn normalise) (rdn_p s at) (rdn_p t bt)
    ≡ walk (same_attr normalise) (attr_p s (past_of (count_p 1 rdn_most s at))) (attr_p t (past_of (count_p 1 rdn_most t bt)))
unfolding rdn_p same_rdn
one_walked normalise s t at bt = go (count_p 1 rdn_most s at) (count_p 1 rdn_most t bt) refl refl
  where
    go : (x y : Parsed ℕ) → count_p 1 rdn_most s at ≡ x → count_p 1 rdn_most t bt ≡ y → is_one x ≡ true → is_one y ≡ true
        → walk (same_rdn normalise) (rdn_p s at) (rdn_p t bt) ≡ walk (same_attr normalise) (attr_p s (past_of x)) (attr_p t (past_of y))
    go (got n e) (got m f) h k i j =
        let one : n ≡ 1 = eqb-true n 1 i in
        counted_same (matched normalise) attr_p s t 1 rdn_most at bt n m e f h k (one ∙ sym (eqb-true m 1 j)) ∙ sym (one_each normalise s t n e f one)
    go (got n e) (stop r) h k i j = absurd (false≢true j)
    go (stop r) y h k i j = absurd (false≢true i)
