-- When a host name fits a pattern (docs/CARD-FILE.md, "Text"; RFC 6125, 6.4.3: a star is compared with a name's left-most label and with
-- nothing else). Upstream's `match_name` lets a star fit the bare domain too (docs/DIFFERENCES.md, D30), and is this in all else, by the law
-- `match_upstream_lem` of proofs/Upstream.antt. A reader must believe this file (docs/MAP.md).
-- In order: the left-most label, a name under a domain, a pattern. All byte for byte: `names_host` of rules/specs/Rules.antt lowers host and
-- DNS name before.
use Rattle.std.specs.Prelude.{ℕ, Bool, cond, ◌&&◌, List, [], ◌∷◌, length, drop, ltb, eqb}
use Rattle.text.specs.Bytes.{same, starts_with}

-- "*."
abbrev pub star_dot : List ℕ
star_dot = 42 ∷ 46 ∷ []

-- the left-most label: the bytes before the first dot
unfoldable pub label : List ℕ → List ℕ
label [] = []
label (b ∷ l) = cond (eqb b 46) [] (b ∷ label l)

-- a label of at least one byte, then a dot, then the domain
unfoldable pub under_domain : List ℕ → List ℕ → Bool
under_domain domain name = ltb 0 (length (label name)) && same (drop (length (label name)) name) (46 ∷ domain)

-- a star before a dot and a domain stands for the left-most label, and for nothing else; "*." alone fits no name, any other pattern fits itself
unfoldable pub match_name : List ℕ → List ℕ → Bool
match_name pattern name =
    cond (starts_with pattern star_dot)
    (ltb 2 (length pattern) && under_domain (drop 2 pattern) name)
    (same pattern name)
