-- One of a run's things passes a test exactly where one of the list that was read does (`any_read`), for any things and any test. For
-- LeafRead.antt. What is asked of a run: `any_of` of fields/specs/Runs.antt; a loop that asks each: fields/proofs/Runs.antt.
use Prim.Native.Nat.{ℕ, zero, suc, ◌-◌}
use mathlib.Core.Path.{◌≡◌, sym, ap, ◌∙◌}
use mathlib.Core.Bool.{Bool, ◌||◌}
use mathlib.Core.List.{List, []}
use native.Mathlib.Omega.{arith}
use Rattle.text.specs.Each.{any}
use Rattle.fields.specs.Fields.{Parsed, got, many}
use Rattle.fields.specs.Runs.{passes, any_of}
use Rattle.fields.specs.declared.run.Run.{Run}
use Rattle.fields.proofs.Many.{many_split}
use Rattle.lists.proofs.Meaning.{RunRead}

module _ {A : Type 0} (test : A → Bool) (p : List ℕ → ℕ → Parsed A) (s : List ℕ) where
  any_things : (n at : ℕ) (l : List A) (e : ℕ) → many p n s at ≡ got l e → any_of test p n s at ≡ any test l
  unfolding any_of passes many
  any_things zero at l e h = let z : [] ≡ l = cc in rw (← z)
  any_things (suc n) at l e h =
      let t = many_split p s (suc n) at l e (omega arith) h in
      let k : suc n - 1 ≡ n = omega arith in
      rw t.first (ap (λ (b : Bool). test t.head || b) (any_things n t.mid t.tail e (rw k at t.rest))) ∙ sym (ap (any test) t.whole)

  -- the test of the things in a row is that of the list that was read
  pub any_read : (most : ℕ) (run : Run) (e : ℕ) (t : RunRead most p s run e) → any_of test p run.count s run.first ≡ any test t.things
  any_read most run e t = any_things run.count run.first t.things e t.are
