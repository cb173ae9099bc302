-- Two tests that both come out true (`both_true`), and what is said of each place below a number, taken apart at the first place
-- (`each_more`): by these a definition that tests a row from its head is the quantified form of the same test. For the Upstream.antt of
-- keys, same and subtree, and policy/proofs/Chains.antt; `any` and `all` are in specs/Each.antt.
use Prim.Native.Nat.{ℕ, zero, suc, ◌<◌}
use mathlib.Core.Path.{◌≡◌, refl}
use mathlib.Core.Bool.{Bool, true, false, ◌&&◌, false≢true}
use mathlib.Core.Logic.{◌↔◌}
use native.Mathlib.Omega.{arith}

pub both_true : (t u : Bool) → (t && u ≡ true) ↔ ((t ≡ true) × (u ≡ true))
both_true true u = (λ e. (refl, e), λ h. h.1)
both_true false u = (λ e. absurd (false≢true e), λ h. h.0)

module _ (P : ℕ → Type 0) where
  -- the first place and those after it
  pub each_more : (n : ℕ) → (P 0 × ((i : ℕ) → i < n → P (suc i))) ↔ ((i : ℕ) → i < suc n → P i)
  each_more n = (λ h. go h.0 h.1, λ h. (h 0 (omega arith), λ i l. h (suc i) (omega arith))) where
    go : P 0 → ((i : ℕ) → i < n → P (suc i)) → (i : ℕ) → i < suc n → P i
    go first rest zero l = first
    go first rest (suc i) l = rest i (omega arith)
