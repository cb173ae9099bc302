-- What an answer stands for: the paper's number of a fault, and what was read with the place past it. What a reader must find: Fields.antt and
-- Spans.antt; that no two answers say the same: proofs/Pinned.antt.
use Rattle.std.specs.Prelude.{ℕ, ◌≡◌, Result, Ok, Err}
use Rattle.fields.specs.Fields.{Parsed, got, stop}
use Rattle.fields.specs.declared.fault.Fault.{Fault}
use Rattle.fields.specs.declared.fault.Fault.TheVariants.{UnknownEdition, TooLong, CutShort, BadCount, BadValue, LeftOver}
use Rattle.fields.specs.declared.run.Run.{Run}
use Rattle.fields.specs.declared.string.Span.{Span}

-- the numbers of the table of replies
abbrev pub number : Fault → ℕ
number UnknownEdition = 4
number TooLong = 5
number CutShort = 6
number BadCount = 7
number BadValue = 8
number LeftOver = 9

-- a value and the place past it
abbrev pub read : {A : Type 0} → Result (A × ℕ) Fault → Parsed A
read (Ok (a, e)) = got a e
read (Err f) = stop (number f)

-- a string by its span, which ends where the string does
abbrev pub spanned : Result Span Fault → Parsed Span
spanned (Ok p) = got p p.end
spanned (Err f) = stop (number f)

-- a count of things, and the place of the first
abbrev pub begun : Result Run Fault → Parsed ℕ
begun (Ok r) = got r.count r.first
begun (Err f) = stop (number f)

-- the place past a thing, whatever the thing is
abbrev pub passing : {A : Type 0} → Parsed A → Parsed (Unit {0})
passing (got a e) = got tt e
passing (stop r) = stop r

abbrev pub passed : Result ℕ Fault → Parsed (Unit {0})
passed (Ok e) = got tt e
passed (Err f) = stop (number f)

-- a value that was lent, beside the place past it: with a fault the value says nothing
abbrev pub held : {A : Type 0} → Result ℕ Fault → A → Parsed A
held (Ok e) a = got a e
held (Err f) a = stop (number f)

-- with a fault, the value of nothing
abbrev pub Emptied : {A : Type 0} → Result ℕ Fault → A → A → Type 0
Emptied (Ok e) a none = Unit {0}
Emptied (Err f) a none = a ≡ none

-- what is left of a reading where the place past the thing is not told: the thing, or the number of the fault
abbrev pub handed : {A : Type 0} → Parsed A → Result A ℕ
handed (got a e) = Ok a
handed (stop r) = Err r

abbrev pub numbered : {A : Type 0} → Result A Fault → Result A ℕ
numbered (Ok a) = Ok a
numbered (Err f) = Err (number f)
