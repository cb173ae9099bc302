-- What a walk of two things side by side answers: where both end, or nothing where they differ. Which relation is walked: Same.antt; the
-- laws of walks: proofs/Walks.antt.
use Rattle.std.specs.Prelude.{ℕ, Bool, cond, List, Option, Some, None}
use Rattle.fields.specs.Fields.{Parsed, got, stop}
use Rattle.same.specs.declared.pair.Pair.{Pair}

-- both can be read and are related: where they end
abbrev pub walk : {A : Type 0} → (A → A → Bool) → Parsed A → Parsed A → Option (ℕ × ℕ)
walk q (got x e) (got y f) = cond (q x y) (Some (e, f)) None
walk q (got x e) (stop r) = None
walk q (stop r) b = None

-- the walk of two things of a pair, at a place of each text
abbrev pub walk_at : {A : Type 0} → (Bool → A → A → Bool) → (List ℕ → ℕ → Parsed A) → Pair → ℕ → ℕ → Option (ℕ × ℕ)
walk_at q p pair at bt = walk (q pair.normalise) (p pair.left.now at) (p pair.right.now bt)
