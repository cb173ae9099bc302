-- Two alike certificates stay two: a path that goes on by one of them can go on by the other (`alike_paths`), and these are two paths, of
-- two ranks (`alike_ranks`). Two places that hold the same bytes have two records: card/proofs/Two.antt. A search that takes two for one:
-- `merged` of search/proofs/Frauds.antt.
use mathlib.Core.List.{List, [], ◌∷◌, ◌++◌}
use mathlib.Core.Logic.{◌↔◌, ◌≢◌}
use mathlib.Core.Path.{◌≡◌, sym, ap, ap₂, ◌∙◌}
use mathlib.Core.Bool.{◌&&◌}
use Prim.Native.Nat.{ℕ, ◌<◌}
use native.Mathlib.Omega.{arith}
use lib.ListN.{length}
use Rattle.card.specs.Content.{Content, Issuer, bundled, certificate_at, signed}
use Rattle.issuing.specs.Issued.{likely_issued, issued}
use Rattle.order.specs.Listing.{◌among◌}
use Rattle.order.specs.Paths.{Places, Simple, Rank, last}
use Rattle.order.proofs.Rank.{rank-tells}
use Rattle.order.proofs.Simple.{last_snoc, linked-last, simple_prefix, simple-snoc}
use Rattle.question.specs.Asked.{places_in}

-- places i and j hold alike certificates, and the verdicts on them and by them are alike
pub record Alike (c : Content) (i j : ℕ) : Type 0 where
  pub inside : (i < length c.bundle) × (j < length c.bundle)
  pub certificates : certificate_at c (bundled i) ≡ certificate_at c (bundled j)
  pub as_issuer : (k : ℕ) → signed c (bundled i) k ≡ signed c (bundled j) k
  pub as_subject : (x : Issuer) → signed c x i ≡ signed c x j

alike_issue : {c : Content} {i j : ℕ} → Alike c i j → (k : ℕ) → issued c (bundled i) k ≡ issued c (bundled j) k
unfolding issued
alike_issue {c} a k = ap₂ (λ x s. likely_issued x (certificate_at c (bundled k)) && s) a.certificates (a.as_issuer k)

-- a path that goes on by i can go on by j, which it does not hold, where j issued what i did
instead : (g : Places) {i j : ℕ} → j < g.size → ((k : ℕ) → g.issued i k ≡ g.issued j k) → (p : List ℕ) → p ≢ [] → ¬ (j among p)
    → Simple g (p ++ i ∷ []) → Simple g (p ++ j ∷ [])
instead g {i} {j} h same p some free s =
    simple-snoc g (simple_prefix g p (i ∷ []) some s) j h free (sym (same (last 0 p)) ∙ linked-last g p i some s.linked)

-- p and then i is a simple path exactly when p and then j is
pub alike_paths : {c : Content} {i j : ℕ} → Alike c i j → (p : List ℕ) → 0 < length p → ¬ (i among p) → ¬ (j among p)
    → Simple (places_in c) (p ++ i ∷ []) ↔ Simple (places_in c) (p ++ j ∷ [])
alike_paths {c} {i} {j} a p h free-of-i free-of-j = (
  instead (places_in c) a.inside.1 (alike_issue a) p some free-of-j,
  instead (places_in c) a.inside.0 (λ k. sym (alike_issue a k)) p some free-of-i,
)
  where
    some : p ≢ []
    some e = let n = ap length e in omega arith

-- and where i and j are two places, the two paths have two ranks
pub alike_ranks : (g : Places) {i j : ℕ} → i ≢ j → (p : List ℕ) {r q : ℕ} → Simple g (p ++ i ∷ []) → Simple g (p ++ j ∷ [])
    → Rank g (p ++ i ∷ []) r → Rank g (p ++ j ∷ []) q → r ≢ q
alike_ranks g {i} {j} two p s t h k e =
    two (sym (last_snoc 0 p i) ∙ ap (last 0) (rank-tells g s t h (rw (← e) at k)) ∙ last_snoc 0 p j)
