-- Upstream's top-level specification, `Query::valid` (validator.rs), over a file's content and in its own words, for the theorem that a
-- search with budget enough accepts exactly when it holds (`accepted_valid` of proofs/Valid.antt). The search's promise does not use it:
-- that is Search.antt.
use Rattle.std.specs.Prelude.{true, List, [], ◌∷◌, ◌≢◌, ◌≡◌, ℕ, suc, ◌-◌, ◌<◌, length, get_or}
use Rattle.card.specs.Content.{Content, root, bundled}
use Rattle.issuing.specs.Issued.{issued}
use Rattle.policy.specs.Policy.{policy, chain_of}
use Rattle.rules.specs.Rules.{at as timeAt}

-- place i of a path
abbrev pub at : List ℕ → ℕ → ℕ
at p i = get_or p i 0

-- is_simple_path
pub record SimplePath (c : Content) (p : List ℕ) : Type 0 where
  pub some : 0 < length p
  pub leaf : at p 0 ≡ 0
  pub inside : (i : ℕ) → i < length p → at p i < length c.bundle
  pub once : (i j : ℕ) → i < length p → j < length p → i ≢ j → at p i ≢ at p j
  pub linked : (i : ℕ) → suc i < length p → issued c (bundled (at p (suc i))) (at p i) ≡ true

-- is_simple_path_to_root
pub record ToRoot (c : Content) (p : List ℕ) (r : ℕ) : Type 0 where
  pub there : r < length c.roots
  pub simple : SimplePath c p
  pub issues : issued c (root r) (at p (length p - 1)) ≡ true

-- path_satisfies_policy
abbrev pub Satisfies : Content → List ℕ → ℕ → Type 0
Satisfies c [] r = ⊥
Satisfies c (x ∷ l) r = policy (timeAt c.now) c.host (chain_of c x l r) ≡ true

-- valid
abbrev pub Valid : Content → Type 0
Valid c = (0 < length c.bundle) × ((p : List ℕ) × (r : ℕ) × ToRoot c p r × Satisfies c p r)
