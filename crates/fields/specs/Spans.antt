-- Where a string stands, for readers that copy nothing: its span, the bytes of a span, and a list that is read again. The string by its
-- value: `string_p` of Fields.antt; that the two read the same: `string_by_span` of proofs/Strings.antt.
use Rattle.std.specs.Prelude.{ℕ, ◌+◌, ◌-◌, cond, ◌&&◌, List, [], length, take, drop, leb}
use Rattle.fields.specs.Fields.{Parsed, got, stop, after, count_p}
use Rattle.fields.specs.declared.string.Span.{Span}

-- the place of a string's bytes: the length is judged first, then its bytes must be there
unfoldable pub span_p : ℕ → ℕ → List ℕ → ℕ → Parsed Span
span_p least most s at =
    after (count_p least most s at) (λ n e.
    cond (leb (e + n) (length s)) (got (record { start = e; end = e + n }) (e + n)) (stop 6))

-- the bytes of a span; none where it does not lie within the file
unfoldable pub bytes_of : Span → List ℕ → List ℕ
bytes_of p s = cond (leb p.start p.end && leb p.end (length s)) (take (p.end - p.start) (drop p.start s)) []

-- the span of a part that is not there
abbrev pub nowhere : Span
nowhere = record { start = 0; end = 0 }

-- the list that was read; none where it can't be read
abbrev pub list_of : {A : Type 0} → Parsed (List A) → List A
list_of (got l e) = l
list_of (stop r) = []
