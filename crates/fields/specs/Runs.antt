-- So many of a thing in a row, for readers that copy nothing: how many there are and where the first one stands; and what is asked of them
-- one by one. The same by values: `counted_p` and `many` of Fields.antt.
use Rattle.std.specs.Prelude.{ℕ, zero, suc, Bool, false, ◌||◌, List}
use Rattle.fields.specs.Fields.{Parsed, got, stop, after, count_p, many}
use Rattle.fields.specs.declared.run.Run.{Run}

-- how many of a thing there are, and where the first one stands
unfoldable pub run_p : {A : Type 0} → ℕ → ℕ → (List ℕ → ℕ → Parsed A) → List ℕ → ℕ → Parsed Run
run_p least most p s at =
    after (count_p least most s at) (λ n e.
    after (many p n s e) (λ _ f.
    got (record { count = n; first = e }) f))

-- what was found passes, or else `rest` where it ends
unfoldable pub passes : {A : Type 0} → (A → Bool) → Parsed A → (ℕ → Bool) → Bool
passes test (got a e) rest = test a || rest e
passes test (stop r) rest = false

-- of n things in a row one passes, read from the left as far as they can be
unfoldable pub any_of : {A : Type 0} → (A → Bool) → (List ℕ → ℕ → Parsed A) → ℕ → List ℕ → ℕ → Bool
any_of test p zero s at = false
any_of test p (suc n) s at = passes test (p s at) (λ e. any_of test p n s e)
