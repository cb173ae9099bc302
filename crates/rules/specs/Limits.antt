-- The path-length rule as one number for each certificate, which is what `limit` answers. The rule itself is `allows` of Rules.antt; that
-- the number comes to it: `limit_allows` of proofs/Limits.antt.
use Rattle.std.specs.Prelude.{ℕ}
use Rattle.std.proofs.Math.Option.{Option, none, some}
use Rattle.record.specs.Certificate.{Certificate}

-- a path length, or more than a path can have
abbrev pub or_no_limit : Option ℕ → ℕ
or_no_limit none = 255
or_no_limit (some p) = p

-- how many certificates that count its path length lets stand between it and the leaf
unfoldable pub limit_of : Certificate → ℕ
limit_of c = or_no_limit c.path-length
