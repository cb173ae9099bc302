-- Arguments that are judged through, for any thing: where they end (`whole_ends`), for src/thing.rt, and what the answer of `whole` tells of
-- the argument (`holds`, `stops`), for the six relations of same and subtree. What a relation then answers: same/proofs/Asked.antt; a whole
-- argument: `whole` of specs/Fields.antt.
use Prim.Native.Nat.{ℕ}
use mathlib.Core.Path.{◌≡◌, refl, sym, ap, ◌∙◌}
use mathlib.Core.Bool.{Bool, true, false, cond}
use mathlib.Core.List.{List}
use native.Mathlib.Omega.{arith}
use lib.ListN.{length}
use lib.Dec.{ltb}
use Rattle.fields.specs.Fields.{Parsed, got, stop, after, whole}
use Rattle.fields.specs.Answers.{number, passing, passed}
use Rattle.std.specs.Prelude.{Result, Ok, Err}
use Rattle.fields.specs.declared.fault.Fault.{Fault}
use Rattle.fields.proofs.Ends.{passing_stops}

-- what follows a thing that was read, where the bytes should end
abbrev judged : {A : Type 0} → List ℕ → Parsed A → Parsed A
judged s x = after x (λ a e. cond (ltb e (length s)) (stop 9) (got a e))

module _ {A : Type 0} (p : List ℕ → ℕ → Parsed A) (s : List ℕ) where
  -- ---- what `whole` has to show

  pub whole_ends : passing (whole p s) ≡ judged s (passing (p s 0))
  unfolding whole
  whole_ends = by_thing (p s 0)
    where
      by_end : (a : A) (e : ℕ) (over : Bool) → passing (cond over (stop 9) (got a e)) ≡ cond over (stop 9) (got tt e)
      by_end a e true = refl
      by_end a e false = refl

      by_thing : (x : Parsed A) → passing (judged s x) ≡ judged s (passing x)
      by_thing (got a e) = by_end a e (ltb e (length s))
      by_thing (stop r) = refl

  -- ---- what its answer tells

  -- the argument holds a thing and nothing else
  pub record Holds (e : ℕ) : Type 0 where
    pub thing : A
    pub read : p s 0 ≡ got thing e
    pub is : whole p s ≡ got thing e

  holds_by : (x : Parsed A) → p s 0 ≡ x → (e : ℕ) → passing (judged s x) ≡ got tt e → Holds e
  unfolding whole
  holds_by (got a f) h e k = go (ltb f (length s)) refl k where
    go : (u : Bool) → ltb f (length s) ≡ u → passing {A = A} (cond u (stop 9) (got a f)) ≡ got tt e → Holds e
    go true g k = let z : ◌≡◌ {A = ℕ} 0 1 = cc in absurd (omega arith)
    go false g k =
        let m : f ≡ e = cc in
        record { thing = a; read = h ∙ ap (got a) m; is = rw (h, g, m) }
  holds_by (stop r) h e k = let z : ◌≡◌ {A = ℕ} 0 1 = cc in absurd (omega arith)

  pub holds : (r : Result ℕ Fault) → passed r ≡ passing (whole p s) → (e : ℕ) → r ≡ Ok e → Holds e
  unfolding whole
  holds r h e k = holds_by (p s 0) refl e (sym h ∙ ap passed k)

  pub stops : (r : Result ℕ Fault) → passed r ≡ passing (whole p s) → (f : Fault) → r ≡ Err f → whole p s ≡ stop (number f)
  stops r h f k = passing_stops (whole p s) (number f) (sym h ∙ ap passed k)
