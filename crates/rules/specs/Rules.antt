-- What is asked of one certificate, in the order of docs/CARD-FILE.md, "Policy". In RFC 5280: dates 4.1.2.5, critical extensions 4.2, CA
-- and path length 4.2.1.9, key usage 4.2.1.3, usages 4.2.1.12. A reader must believe this file (docs/MAP.md).
-- Not here: which certificates of a chain each is asked of (policy/specs/Policy.antt); how a pattern matches (text/specs/Wildcard.antt);
-- the leaf's rules over a record (Records.antt); the path length as one number (Limits.antt).
use Rattle.std.specs.Prelude.{ℕ, Bool, true, not, ◌&&◌, ◌||◌, List, map, eqb, leb, length}
use Rattle.std.proofs.Math.Option.{Option, none, some}
use Rattle.extensions.specs.Flags.{ca, has_key_usage, may_sign, unhandled}
use Rattle.text.specs.Bytes.{lowered, same}
use Rattle.text.specs.Each.{any}
use Rattle.text.specs.Wildcard.{match_name}
use Rattle.record.specs.Certificate.{Certificate}
use Rattle.rules.specs.declared.rules.Time.{Time}

-- certificates are judged at now
unfoldable pub at : ℕ → Time
at now = record { now = now }

-- not-before ≤ now ≤ not_after: of all that is asked this alone opens the time
unfoldable pub in_date : Time → Certificate → Bool
in_date time c = leb c.not-before time.now && leb time.now c.not_after

-- version 2 and equal algorithm strings
unfoldable pub well_formed : Certificate → Bool
well_formed c = eqb c.version 2 && same c.outer c.inner

-- no unhandled critical extension
unfoldable pub handled : Certificate → Bool
handled c = not (unhandled c.flags)

-- a CA, and where key usage is present, it may sign certificates
unfoldable pub authority : Certificate → Bool
authority c = ca c.flags && (not (has_key_usage c.flags) || may_sign c.flags)

-- n is no more than a path length, where there is one
abbrev pub at_most : ℕ → Option ℕ → Bool
at_most n none = true
at_most n (some p) = leb n p

-- a path length, if there is one, lets n certificates that count stand between this one and the leaf
unfoldable pub allows : ℕ → Certificate → Bool
allows n c = at_most n c.path-length

-- usage 0 (server) or 6 (any)
unfoldable pub serving : ℕ → Bool
serving u = eqb u 0 || eqb u 6

-- no usage is listed, or one is 0 or 6
unfoldable pub for_servers : Certificate → Bool
for_servers c = eqb (length c.usages) 0 || any serving c.usages

-- a DNS name matches a host, both lowered
unfoldable pub names_host : List ℕ → List ℕ → Bool
names_host host dns = match_name (map lowered dns) (map lowered host)

-- if a host is asked, some DNS name matches it
unfoldable pub for_host : List ℕ → Certificate → Bool
for_host host c = eqb (length host) 0 || any (names_host host) c.dns_names
