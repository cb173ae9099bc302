-- By which roots a path qualifies at a time (docs/CARD-FILE.md, "Policy" and "The search"; upstream's `path_satisfies_policy`, and what
-- `is_simple_path_to_root` asks of the root). A reader must believe this file (docs/MAP.md).
-- Not here: the policy (Policy.antt); who issued whom (issuing/specs/Issued.antt); a path that is simple (order/specs/Paths.antt); the same
-- by what was judged once per certificate (Judging.antt; `root_judged` of proofs/Qualified.antt says that it is).
use Rattle.std.specs.Prelude.{ℕ, Bool, false, ◌&&◌, List, [], ◌∷◌}
use Rattle.card.specs.Content.{Content, root}
use Rattle.issuing.specs.Issued.{issued}
use Rattle.order.specs.Paths.{last}
use Rattle.rules.specs.declared.rules.Time.{Time}
use Rattle.policy.specs.Policy.{policy, chain_of}

-- root r issued the last of a path, and the chain satisfies the policy
abbrev pub qualifies : Content → Time → List ℕ → ℕ → Bool
qualifies c time [] r = false
qualifies c time (p ∷ l) r = issued c (root r) (last p l) && policy time c.host (chain_of c p l r)
