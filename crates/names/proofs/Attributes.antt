-- An attribute by its places (`attr_by_spans`), and what the answer of a reader of attributes tells: the attribute that stands there
-- (`attr_read`), or the fault (`attr_stops`). For the callers of `attribute_at`, here and in same; an attribute by its places:
-- specs/Answers.antt, by its value: specs/Names.antt.
use Prim.Native.Nat.{ℕ}
use mathlib.Core.Path.{◌≡◌, ◌∙◌}
use mathlib.Core.List.{List}
use Rattle.std.specs.Prelude.{Result, Ok, Err}
use Rattle.fields.specs.Fields.{got, stop, after}
use Rattle.fields.specs.Answers.{number}
use Rattle.fields.specs.declared.fault.Fault.{Fault}
use Rattle.fields.proofs.Strings.{string_by_span}
use Rattle.fields.proofs.Values.{after-after}
use Rattle.names.specs.Names.{attr_p, oid_most, value_most}
use Rattle.names.specs.Answers.{spans_p, attributed, attr_of}
use Rattle.names.specs.declared.attribute.Attribute.{Attribute}

module _ (s : List ℕ) (at : ℕ) where
  pub attr_by_spans : attr_p s at ≡ after (spans_p 1 oid_most 0 value_most s at) (λ a e. got (attr_of a s) e)
  unfolding attr_p spans_p
  attr_by_spans = simp (string_by_span, after-after)

  module _ (r : Result Attribute Fault) (h : attributed r ≡ spans_p 1 oid_most 0 value_most s at) where
    pub attr_read : (a : Attribute) → r ≡ Ok a → attr_p s at ≡ got (attr_of a s) a.value.end
    attr_read a e = attr_by_spans ∙ rw (← h, e)

    pub attr_stops : (f : Fault) → r ≡ Err f → attr_p s at ≡ stop (number f)
    attr_stops f e = attr_by_spans ∙ rw (← h, e)
