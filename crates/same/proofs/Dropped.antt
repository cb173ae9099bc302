-- How `.ok()?` meets an answer: the answer was a fault, which is dropped (`dropped`), or it was a value (`kept`). For the walks of src/walk.rt
-- and src/matching.rt, and subtree.
use mathlib.Core.Path.{◌≡◌, refl, sym, ◌∙◌}
use Rattle.std.specs.Prelude.{Option, Some, None, Result, Ok, Err}
use Rattle.std.specs.Result.{result_ok}

-- the answer was a fault
pub record Failed {A F : Type 0} (r : Result A F) : Type 0 where
  pub fault : F
  pub is : r ≡ Err fault

module _ {A F : Type 0} where
  failed : (r : Result A F) → result_ok r ≡ None → Failed r
  failed (Ok x) h = absurd (let z : ⊥ = cc in z)
  failed (Err f) h = record { fault = f; is = refl }

  was_ok : (r : Result A F) (x : A) → result_ok r ≡ Some x → r ≡ Ok x
  was_ok (Ok y) x h = cc
  was_ok (Err f) x h = cc

  pub dropped : {r : Result A F} {o : Option A} → o ≡ result_ok r → o ≡ None → Failed r
  dropped {r} h k = failed r (sym h ∙ k)

  pub kept : {r : Result A F} {o : Option A} {x : A} → o ≡ result_ok r → o ≡ Some x → r ≡ Ok x
  kept {r} {x = x} h k = was_ok r x (sym h ∙ k)
