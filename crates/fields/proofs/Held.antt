-- From where a thing ends to what is read after it, where the thing's value does not matter (`after_end`). For the readers of card, task
-- and verdicts. From the end to the thing itself: Ends.antt.
use Prim.Native.Nat.{ℕ}
use mathlib.Core.Path.{◌≡◌, refl}
use Rattle.fields.specs.Fields.{Parsed, got, stop, after}
use Rattle.fields.specs.Answers.{passing}

-- what is read after a thing is found from the place past it
pub after_end : {A B : Type 0} (x : Parsed A) (f : ℕ → Parsed B) → after x (λ _ e. f e) ≡ after (passing x) (λ _ e. f e)
after_end (got a e) f = refl
after_end (stop r) f = refl
