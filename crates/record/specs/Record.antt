-- Where a record's parts stand, for readers that copy nothing: in their order, each with its limits, judged from left to right. What is
-- found are numbers and the places of strings, names and lists; a record keeps four of them.
-- Not here: the certificate by its values (Certificate.antt); what the four places say (Parts.antt); the extensions
-- (extensions/specs/Extensions.antt).
use Rattle.std.specs.Prelude.{ℕ, ◌+◌, ◌%◌, List}
use Rattle.fields.specs.Fields.{Parsed, got, after, byte_p, big_p}
use Rattle.fields.specs.Spans.{span_p}
use Rattle.names.specs.Names.{name_p}
use Rattle.extensions.specs.Flags.{serial_most}
use Rattle.extensions.specs.Extensions.{extensions_p}
use Rattle.record.specs.Certificate.{flags_p, algorithm_most}
use Rattle.record.specs.declared.head.Head.{Head}
use Rattle.record.specs.declared.strings.Strings.{Strings}
use Rattle.record.specs.declared.parties.Names.{Names}
use Rattle.record.specs.declared.Record.{Record}

-- version and flags
unfoldable pub opening_p : List ℕ → ℕ → Parsed (ℕ × ℕ)
opening_p s at =
    after (byte_p s at) (λ version e.
    after (flags_p s e) (λ flags f.
    got (version, flags) f))

-- not-before and not-after
unfoldable pub dates_p : List ℕ → ℕ → Parsed (ℕ × ℕ)
dates_p s at =
    after (big_p 8 s at) (λ notBefore e.
    after (big_p 8 s e) (λ notAfter f.
    got (notBefore, notAfter) f))

unfoldable pub head_p : List ℕ → ℕ → Parsed Head
head_p s at =
    after (opening_p s at) (λ v e.
    after (dates_p s e) (λ d f.
    got (record { version = v.0; flags = v.1; not_before = d.0; not_after = d.1 }) f))

-- serial 1..20, outer and inner algorithm 1..32 each
unfoldable pub strings_p : List ℕ → ℕ → Parsed Strings
strings_p s at =
    after (span_p 1 serial_most s at) (λ serial e.
    after (span_p 1 algorithm_most s e) (λ outer f.
    after (span_p 1 algorithm_most s f) (λ inner g.
    got (record { serial = serial; outer = outer; inner = inner }) g)))

-- issuer name and subject name
unfoldable pub names_p : List ℕ → ℕ → Parsed Names
names_p s at =
    after (name_p s at) (λ _ e.
    after (name_p s e) (λ _ f.
    got (record { issuer = at; subject = e }) f))

-- the last place that a record can hold: a u16
abbrev pub place_most : ℕ
place_most = 65535

-- a place as a record holds it: every place of a card file fits
abbrev pub place_of : ℕ → ℕ
place_of at = at % (place_most + 1)

abbrev pub placed : ℕ → ℕ → ℕ → ℕ → Record
placed start issuer subject rest =
    record { start = place_of start; issuer = place_of issuer; subject = place_of subject; rest = place_of rest }

-- where a record's parts stand; each part is judged when it is read
unfoldable pub record_p : List ℕ → ℕ → Parsed Record
record_p s at =
    after (head_p s at) (λ head e.
    after (strings_p s e) (λ _ f.
    after (names_p s f) (λ names g.
    after (extensions_p head.flags s g) (λ _ h.
    got (placed at names.issuer names.subject g) h))))
