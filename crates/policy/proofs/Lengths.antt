-- The rule on path lengths (RFC 5280, 4.2.1.9): it is kept exactly when each certificate allows as many as are below it and are not
-- self-issued (`path_lengths-told`), for whoever checks the rule against the RFC; and the rule on a list and one more, for Chains.antt. The
-- rule itself: `path_lengths` of specs/Policy.antt; what one certificate allows: `allows` of rules/specs/Rules.antt.
use Prim.Native.Nat.{ℕ, ◌+◌, ◌≤◌}
use mathlib.Core.Path.{◌≡◌, refl, sym, ap, ◌∙◌}
use mathlib.Core.Bool.{Bool, true, false, cond}
use mathlib.Core.List.{List, [], ◌∷◌, ◌++◌}
use mathlib.Core.Logic.{◌↔◌}
use native.Mathlib.Omega.{arith}
use lib.ListN.{length}
use Rattle.text.proofs.Each.{both_true}
use Rattle.record.specs.Certificate.{Certificate}
use Rattle.issuing.specs.Issued.{self_issued}
use Rattle.rules.specs.Rules.{allows}
use Rattle.policy.specs.Policy.{counts, path_lengths}

-- how many of these are not self-issued
unfoldable pub non_self_issued : List Certificate → ℕ
non_self_issued [] = 0
non_self_issued (c ∷ l) = counts c + non_self_issued l

pub counts_one : (c : Certificate) → counts c ≤ 1
counts_one c = by_test (self_issued c)
  where
    by_test : (b : Bool) → cond b 0 1 ≤ 1
    by_test true = omega arith
    by_test false = omega arith

pub counts-few : (l : List Certificate) → non_self_issued l ≤ length l
unfolding non_self_issued
counts-few [] = omega arith
counts-few (c ∷ l) = let one = counts_one c in let rest = counts-few l in omega arith

-- ---- a list and one more

module _ (t : Certificate) where
  pub lengths_more : (n : ℕ) (l : List Certificate) → path_lengths n l ≡ true → allows (n + non_self_issued l) t ≡ true → path_lengths n (l ++ t ∷ []) ≡ true
  unfolding path_lengths non_self_issued
  lengths_more n [] h k =
      let z : n + 0 ≡ n = omega arith in
      (both_true (allows n t) true).1 (ap (λ (m : ℕ). allows m t) (sym z) ∙ k, refl)
  lengths_more n (c ∷ l) h k =
      let p = (both_true (allows n c) (path_lengths (n + counts c) l)).0 h in
      let z : n + counts c + non_self_issued l ≡ n + non_self_issued (c ∷ l) = omega arith in
      (both_true (allows n c) _).1 (p.0, lengths_more (n + counts c) l p.1 (ap (λ (m : ℕ). allows m t) z ∙ k))

  pub lengths_front : (n : ℕ) (l : List Certificate) → path_lengths n (l ++ t ∷ []) ≡ true → path_lengths n l ≡ true
  unfolding path_lengths
  lengths_front n [] h = refl
  lengths_front n (c ∷ l) h =
      let p = (both_true (allows n c) (path_lengths (n + counts c) (l ++ t ∷ []))).0 h in
      (both_true (allows n c) _).1 (p.0, lengths_front (n + counts c) l p.1)

  -- whatever is above
  pub lengths_at : (n : ℕ) (l above : List Certificate) → path_lengths n (l ++ t ∷ above) ≡ true → allows (n + non_self_issued l) t ≡ true
  unfolding path_lengths non_self_issued
  lengths_at n [] above h =
      let z : n + 0 ≡ n = omega arith in
      ap (λ (m : ℕ). allows m t) z ∙ ((both_true (allows n t) (path_lengths (n + counts t) above)).0 h).0
  lengths_at n (c ∷ l) above h =
      let p = (both_true (allows n c) (path_lengths (n + counts c) (l ++ t ∷ above))).0 h in
      let z : n + counts c + non_self_issued l ≡ n + non_self_issued (c ∷ l) = omega arith in
      ap (λ (m : ℕ). allows m t) (sym z) ∙ lengths_at (n + counts c) l above p.1

-- ---- in the RFC's words

lengths_each : (n : ℕ) (l : List Certificate)
    → ((below : List Certificate) (c : Certificate) (above : List Certificate) → l ≡ below ++ c ∷ above → allows (n + non_self_issued below) c ≡ true)
    → path_lengths n l ≡ true
unfolding path_lengths non_self_issued
lengths_each n [] h = refl
lengths_each n (c ∷ l) h =
    let z : n + 0 ≡ n = omega arith in
    let rest : path_lengths (n + counts c) l ≡ true =
    lengths_each (n + counts c) l (λ below d above e.
    let y : n + counts c + non_self_issued below ≡ n + non_self_issued (c ∷ below) = omega arith in
    ap (λ (m : ℕ). allows m d) y ∙ h (c ∷ below) d above (ap (λ r. c ∷ r) e)) in
    (both_true (allows n c) _).1 (ap (λ (m : ℕ). allows m c) (sym z) ∙ h [] c l refl, rest)

-- wherever a certificate stands in the list, it allows as many as are below it and are not self-issued
pub path_lengths-told : (l : List Certificate) → (path_lengths 0 l ≡ true)
    ↔ ((below : List Certificate) (c : Certificate) (above : List Certificate) → l ≡ below ++ c ∷ above → allows (non_self_issued below) c ≡ true)
path_lengths-told l = (
  λ h below c above e. rw (← none below) (lengths_at c 0 below above (rw (← e) h)),
  λ h. lengths_each 0 l (λ below c above e. rw (none below) (h below c above e)),
)
  where
    none : (below : List Certificate) → 0 + non_self_issued below ≡ non_self_issued below
    none below = omega arith
