-- What an answer stands for, and what stands at the places that it tells. Attributes, RDNs and names by their values: Names.antt; that no
-- two answers say the same: proofs/Pinned.antt.
use Rattle.std.specs.Prelude.{ℕ, List, Result, Ok, Err}
use Rattle.fields.specs.Fields.{Parsed, got, stop, after}
use Rattle.fields.specs.Spans.{span_p, bytes_of}
use Rattle.fields.specs.Answers.{number}
use Rattle.fields.specs.declared.fault.Fault.{Fault}
use Rattle.names.specs.Names.{Attr}
use Rattle.names.specs.declared.attribute.Attribute.{Attribute}

-- the places of an attribute's OID and value, by their limits
unfoldable pub spans_p : ℕ → ℕ → ℕ → ℕ → List ℕ → ℕ → Parsed Attribute
spans_p oid_least oid_most value_least value_most s at =
    after (span_p oid_least oid_most s at) (λ o e.
    after (span_p value_least value_most s e) (λ v f.
    got (record { oid = o; value = v }) f))

-- an attribute ends where its value does
abbrev pub attributed : Result Attribute Fault → Parsed Attribute
attributed (Ok a) = got a a.value.end
attributed (Err f) = stop (number f)

-- the attribute that stands at the places of one that was read
abbrev pub attr_of : Attribute → List ℕ → Attr
attr_of a s = record { oid = bytes_of a.oid s; value = bytes_of a.value s }
