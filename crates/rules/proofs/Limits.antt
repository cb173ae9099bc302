-- A path length is a byte (`path_length_byte`), for `limit`. Of as many certificates as a path can have the limit says what the path length
-- allows (`limit_allows`, for policy/proofs/SeatsRead.antt). The limit: specs/Limits.antt; the rule: specs/Rules.antt.
use Prim.Native.Nat.{ℕ, ◌≤◌}
use mathlib.Core.Path.{◌≡◌, refl}
use mathlib.Core.List.{List}
use mathlib.Core.Option.{Option, none, some}
use native.Mathlib.Omega.{arith}
use lib.Dec.{leb}
use borrow.Author.Tests.{le-leb}
use Rattle.fields.specs.Fields.{Parsed, got, stop}
use Rattle.extensions.specs.Extensions.{extensions_p}
use Rattle.record.specs.Certificate.{Certificate}
use Rattle.record.specs.Parts.{value_or, extensions_of}
use Rattle.record.specs.Fresh.{no_extensions}
use Rattle.extensions.proofs.Meaning.{extensions_read}
use Rattle.extensions.specs.declared.Extensions.{Extensions}
use Rattle.record.specs.declared.Record.{Record}
use Rattle.rules.specs.Rules.{at_most, allows}
use Rattle.rules.specs.Limits.{or_no_limit, limit_of}

-- a path length is a byte, and 0 where it can't be read
pub path_length_byte : (flags : ℕ) (r : Record) (s : List ℕ) (x : Extensions) → x ≡ extensions_of flags r s → x.path_length ≤ 255
unfolding extensions_of
path_length_byte flags r s x q = rw q (go (extensions_p flags s r.rest) refl) where
  go : (p : Parsed Extensions) → extensions_p flags s r.rest ≡ p → (value_or no_extensions p).path_length ≤ 255
  go (got y e) h = (extensions_read flags s r.rest y e h).path-length
  go (stop fault) h = omega arith

limit_says : (n : ℕ) (p : Option ℕ) → n ≤ 255 → leb n (or_no_limit p) ≡ at_most n p
limit_says n none h = le-leb n 255 h
limit_says n (some p) h = refl

pub limit_allows : (n : ℕ) (c : Certificate) → n ≤ 255 → leb n (limit_of c) ≡ allows n c
unfolding limit_of allows
limit_allows n c h = limit_says n c.path-length h
