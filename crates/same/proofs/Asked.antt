-- What a relation of two arguments answers where both are fine and were walked side by side, for any things and any relation (`walked`). For
-- `ask`; what is answered: specs/Answers.antt; arguments judged through: fields/proofs/Judged.antt; walks: Walks.antt.
use Prim.Native.Nat.{ℕ}
use mathlib.Core.Path.{◌≡◌, ap}
use mathlib.Core.Bool.{Bool, cond}
use mathlib.Core.List.{List}
use Rattle.std.specs.Prelude.{Ok, is_some}
use Rattle.fields.specs.Fields.{Parsed, got, whole}
use Rattle.fields.proofs.Judged.{Holds}
use Rattle.same.specs.Answers.{said, asked}
use Rattle.same.specs.Walks.{walk}
use Rattle.same.proofs.Walks.{walk_both}

-- both are fine, and were walked side by side
pub walked : {A : Type 0} (p : List ℕ → ℕ → Parsed A) (rel : A → A → Bool) (a b : List ℕ) (e f : ℕ) → Holds p a e → Holds p b f
    → said (Ok (is_some (walk rel (p a 0) (p b 0)))) ≡ asked rel (whole p a) (whole p b)
walked p rel a b e f x y = rw (x.read, y.read, x.is, y.is) (let says : Bool → ℕ = λ t. cond t 1 0 in ap says (walk_both rel (got x.thing e) (got y.thing f)))
