-- What each answer stands for, and what a relation of two encoded arguments answers; then two names by where they stand. The relations
-- themselves: Same.antt, Matching.antt, subtree/specs/Subtree.antt; that no two answers say the same: proofs/Pinned.antt.
use Rattle.std.specs.Prelude.{ℕ, Bool, false, cond, ◌||◌, List, Result, Ok, Err}
use Rattle.fields.specs.Fields.{Parsed, got, stop}
use Rattle.fields.specs.Spans.{bytes_of}
use Rattle.fields.specs.declared.string.Span.{Span}
use Rattle.text.specs.Bytes.{same}
use Rattle.names.specs.Names.{name_p}
use Rattle.same.specs.Same.{same_dn}
use Rattle.fields.specs.Answers.{number}
use Rattle.fields.specs.declared.fault.Fault.{Fault}

-- yes is 1, no is 0, else the number of the fault
abbrev pub said : Result Bool Fault → ℕ
said (Ok b) = cond b 1 0
said (Err f) = number f

-- the first argument is judged through before the second is looked at, then they are related
abbrev pub asked : {A B : Type 0} → (A → B → Bool) → Parsed A → Parsed B → ℕ
asked q (stop r) b = r
asked q (got x e) (stop r) = r
asked q (got x e) (got y f) = cond (q x y) 1 0

-- both can be read and q relates them; false if either can't be read
abbrev pub both_read : {A : Type 0} → (A → A → Bool) → Parsed A → Parsed A → Bool
both_read q (stop r) b = false
both_read q (got x e) (stop r) = false
both_read q (got x e) (got y f) = q x y

-- the name at the first span is the same as the one at the second: the same bytes, or both can be read and are the same in that direction
unfoldable pub same_names : Bool → Span → Span → List ℕ → Bool
same_names normalise a b s =
    same (bytes_of a s) (bytes_of b s) || both_read (same_dn normalise) (name_p s a.start) (name_p s b.start)
