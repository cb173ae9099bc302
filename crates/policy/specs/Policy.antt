-- The policy on a chain (docs/CARD-FILE.md, "Policy"; upstream leaves it open: docs/DIFFERENCES.md, D16): a chain and its parts; path
-- lengths, counted up the chain (RFC 5280, 4.2.1.9); the seven rules, and whom each is asked of; then the chain of a card's path and root.
-- A reader must believe this file (docs/MAP.md).
-- Not here: what a rule asks of one certificate (rules/specs/Rules.antt); who is self-issued (issuing/specs/Issued.antt); who issued whom
-- (Qualifies.antt, order/specs/Paths.antt).
use Rattle.std.specs.Prelude.{ℕ, ◌+◌, Bool, true, cond, ◌&&◌, List, [], ◌∷◌, ◌++◌, map}
use Rattle.text.specs.Each.{all}
use Rattle.record.specs.Certificate.{Certificate}
use Rattle.card.specs.Content.{Content, root, bundled, certificate_at}
use Rattle.issuing.specs.Issued.{self_issued}
use Rattle.rules.specs.Rules.{in_date, well_formed, handled, authority, allows, for_servers, for_host}
use Rattle.rules.specs.declared.rules.Time.{Time}

-- a chain c0 to ck: the leaf, those between, the root
pub record Chain : Type 0 where
  pub leaf : Certificate
  pub between : List Certificate
  pub top : Certificate

-- c0 to ck
abbrev pub everyone : Chain → List Certificate
everyone ch = ch.leaf ∷ (ch.between ++ (ch.top ∷ []))

-- c1 to ck
abbrev pub above_leaf : Chain → List Certificate
above_leaf ch = ch.between ++ (ch.top ∷ [])

-- what a certificate adds to the number that path lengths count: a self-issued one nothing
abbrev pub counts : Certificate → ℕ
counts c = cond (self_issued c) 0 1

-- if cj has a path length p, then at most p of c1..c(j-1) are not self-issued (RFC 5280, 4.2.1.9: "the maximum number of non-self-issued
-- intermediate certificates that may follow this certificate"): below the first of these stand n that are not self-issued
unfoldable pub path_lengths : ℕ → List Certificate → Bool
path_lengths n [] = true
path_lengths n (c ∷ l) = allows n c && path_lengths (n + counts c) l

unfoldable pub policy : Time → List ℕ → Chain → Bool
policy time host ch =
    all (in_date time) (everyone ch)
    && all well_formed (ch.leaf ∷ ch.between)
    && all handled (everyone ch)
    && all authority (above_leaf ch)
    && path_lengths 0 (above_leaf ch)
    && for_servers ch.leaf
    && for_host host ch.leaf

-- ---- of a card's places

-- the chain of a path, by its first place and those after it, and a root
abbrev pub chain_of : Content → ℕ → List ℕ → ℕ → Chain
chain_of c leaf between r =
    let at : ℕ → Certificate = λ i. certificate_at c (bundled i) in
    record { leaf = at leaf; between = map at between; top = certificate_at c (root r) }
