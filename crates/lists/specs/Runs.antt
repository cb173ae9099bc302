-- Where a record's lists stand, for readers that copy nothing: how many things a list has and where the first one stands. A usage and a DNS
-- name themselves, and the limits: Lists.antt; that a list by its value is the same: proofs/Values.antt.
use Rattle.std.specs.Prelude.{ℕ, List}
use Rattle.fields.specs.Fields.{Parsed}
use Rattle.fields.specs.Runs.{run_p}
use Rattle.fields.specs.Spans.{span_p}
use Rattle.fields.specs.declared.run.Run.{Run}
use Rattle.fields.specs.declared.string.Span.{Span}
use Rattle.lists.specs.Lists.{usages_most, dns_name_most, dns_names_most, usage_p, dns_name_p}

-- where a DNS name stands
abbrev pub dns_span_p : List ℕ → ℕ → Parsed Span
dns_span_p = span_p 1 dns_name_most

-- 0..8 usages
abbrev pub usages_p : List ℕ → ℕ → Parsed Run
usages_p = run_p 0 usages_most usage_p

-- 0..32 DNS names
abbrev pub dns_names_p : List ℕ → ℕ → Parsed Run
dns_names_p = run_p 0 dns_names_most dns_name_p
