-- What a caller of `normalize_string` learns from its answer: the form that was written (`learnt`), and that room as long as the string is
-- enough (`roomy`). What is answered: specs/Normalize.antt.
use Prim.Native.Nat.{ℕ, ◌≤◌}
use mathlib.Core.Path.{◌≡◌, sym, ap, ◌∙◌}
use mathlib.Core.Bool.{Bool, true, false, cond}
use mathlib.Core.List.{List, ◌++◌}
use native.Mathlib.Omega.{arith}
use lib.ListN.{length, take, drop, length-append}
use lib.Seq.{take-append_seam}
use lib.Dec.{ltb}
use borrow.Author.Tests.{le-ltb}
use Rattle.std.specs.Prelude.{Option, Some, None}
use Rattle.text.specs.Normal.{normal}
use Rattle.text.specs.Normalize.{form_of, normalized, written}

module _ (s out₀ out : List ℕ) (n : ℕ) where
  pub record Learnt : Type 0 where
    pub whole : take n out ≡ normal s
    pub within : n ≤ length out

  learnt_by : (t : Bool) → form_of (Some n) ≡ cond t (record { number = 10; bytes = 0 }) (record { number = 0; bytes = length (normal s) })
      → out ≡ cond t out₀ (normal s ++ drop (length (normal s)) out₀)
      → Learnt
  learnt_by true e o = let z : ◌≡◌ {A = ℕ} 0 10 = ap (λ r. r.number) e in absurd (omega arith)
  learnt_by false e o =
      let k : n ≡ length (normal s) = ap (λ r. r.bytes) e in
      record {
        whole = rw (o, k) (take-append_seam _ _);
        within = omega (arith, simp length-append at (ap length o));
      }

  pub learnt : (r : Option ℕ) → form_of r ≡ normalized s out₀ → out ≡ written s out₀ → r ≡ Some n → Learnt
  unfolding normalized written
  learnt r p o e = learnt_by (ltb (length out₀) (length s)) (ap form_of (sym e) ∙ p) o

pub roomy : (s out₀ : List ℕ) (r : Option ℕ) → form_of r ≡ normalized s out₀ → length s ≤ length out₀ → r ≡ None → ⊥
unfolding normalized
roomy s out₀ r p h e =
    let q : form_of None ≡ record { number = 0; bytes = length (normal s) } = ap form_of (sym e) ∙ p ∙ rw (le-ltb (length out₀) (length s) h) in
    let z : ◌≡◌ {A = ℕ} 10 0 = ap (λ r. r.number) q in
    omega arith
