-- Things in a row up to the first that can't be read: what is asked of them one by one (`any_standing`), and a row that was read through
-- (`standing-whole`). For `has_attribute` and Rows.antt; `standing` is in specs/Rows.antt.
use Prim.Native.Nat.{ℕ, zero, suc, ◌-◌}
use mathlib.Core.Path.{◌≡◌, refl, sym}
use mathlib.Core.Bool.{Bool}
use mathlib.Core.List.{List}
use native.Mathlib.Omega.{arith}
use Rattle.text.specs.Each.{any}
use Rattle.fields.specs.Fields.{Parsed, got, stop, many}
use Rattle.fields.specs.Runs.{passes, any_of}
use Rattle.fields.proofs.Many.{many_split}
use Rattle.same.specs.Rows.{with_rest, standing}

module _ {A : Type 0} (p : List ℕ → ℕ → Parsed A) (s : List ℕ) where
  pub any_standing : (test : A → Bool) (n at : ℕ) → any_of test p n s at ≡ any test (standing p n s at)
  unfolding any_of passes standing
  any_standing test zero at = refl
  any_standing test (suc n) at = go (λ e. any_standing test n e) (p s at) where
    go : ((e : ℕ) → any_of test p n s e ≡ any test (standing p n s e)) → (x : Parsed A)
        → passes test x (λ e. any_of test p n s e) ≡ any test (with_rest x (λ e. standing p n s e))
    go rest (got a e) = rw (rest e)
    go rest (stop r) = refl

  pub standing-whole : (n at : ℕ) (l : List A) (e : ℕ) → many p n s at ≡ got l e → standing p n s at ≡ l
  unfolding standing many
  standing-whole zero at l e r = cc
  standing-whole (suc n) at l e r =
      let t = many_split p s (suc n) at l e (omega arith) r in
      let k : suc n - 1 ≡ n = omega arith in
      let rest : standing p n s t.mid ≡ t.tail = standing-whole n t.mid t.tail e (rw k at t.rest) in
      rw (t.first, rest) (sym t.whole)
