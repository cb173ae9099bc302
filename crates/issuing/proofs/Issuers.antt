-- Those that issued any. Who stands in one of the rows is among them (`issuer_among`, for policy/proofs/Qualified.antt). The loop of
-- `issuers_of` begins with none (`issuers_all`), each turn takes one row in (`issuers_next`), and at the end all are (`issuers_done`).
use Prim.Native.Nat.{ℕ, zero, suc, ◌+◌, ◌≤◌, ◌<◌}
use mathlib.Core.Bool.{true, or-true, false≢true}
use mathlib.Core.List.{List, [], ◌∷◌}
use mathlib.Core.Path.{◌≡◌, sym, ◌∙◌}
use native.Mathlib.Omega.{arith}
use lib.ListN.{length, get_or, drop}
use lib.Seq.{drop-cons}
use Rattle.std.proofs.Common.{add-one}
use Rattle.std.proofs.lemmas.List.{drop_all}
use Rattle.std.proofs.lemmas.Nat.Bits.{bit_at_or, same_from_bits}
use Rattle.std.specs.Int.Bits.{or_zero_l, or_zero_r}
use Rattle.rows.specs.Rows.{has, either}
use Rattle.rows.proofs.Places.{has-none, has_either}
use Rattle.issuing.specs.Records.{issuers_of}

pub issuer_among : (rows : List ℕ) (j i : ℕ) → has i (get_or rows j 0) ≡ true → has i (issuers_of rows) ≡ true
unfolding issuers_of
issuer_among [] j i h = absurd (false≢true (sym (has-none i) ∙ h))
issuer_among (row ∷ rows) zero i h = has_either i row (issuers_of rows) ∙ rw h
issuer_among (row ∷ rows) (suc j) i h = has_either i row (issuers_of rows) ∙ rw (issuer_among rows j i h, or-true)

-- bit by bit
either_assoc : (a b c : ℕ) → either a (either b c) ≡ either (either a b) c
unfolding either
either_assoc a b c = same_from_bits _ _ (λ i. simp bit_at_or (omega arith))

module _ (rows : List ℕ) where
  pub issuers_all : issuers_of rows ≡ either 0 (issuers_of rows)
  unfolding either
  issuers_all = sym (or_zero_l _)

  pub issuers_next : (i all : ℕ) → i < length rows → issuers_of rows ≡ either all (issuers_of (drop i rows))
      → issuers_of rows ≡ either (either all (get_or rows i 0)) (issuers_of (drop (i + 1) rows))
  unfolding issuers_of
  issuers_next i all below e = e ∙ rw (add-one, drop-cons rows i 0) (either_assoc all (get_or rows i 0) (issuers_of (drop (suc i) rows)))

  pub issuers_done : (i all : ℕ) → length rows ≤ i → issuers_of rows ≡ either all (issuers_of (drop i rows)) → all ≡ issuers_of rows
  unfolding issuers_of either
  issuers_done i all whole e = sym (e ∙ rw (drop_all i rows whole) (or_zero_r all))
