-- Where the verdicts stand, for readers that copy nothing: a row for each issuer, roots first, and a column for each subject; and the
-- verdict on an issuer and a subject. By their values: Verdicts.antt, and `signed` of card/specs/Content.antt, joined to this in
-- proofs/Values.antt and card/proofs/Signed.antt.
use Rattle.std.specs.Prelude.{ℕ, ◌+◌, ◌*◌, Bool, cond, ◌&&◌, List, eqb, ltb, get_or}
use Rattle.fields.specs.Fields.{Parsed, got, stop, after, big_p, many}
use Rattle.verdicts.specs.Verdicts.{verdict_p}
use Rattle.verdicts.specs.declared.Verdicts.{Verdicts}

-- where the verdicts of so many roots and so large a bundle stand
unfoldable pub grid_p : ℕ → ℕ → List ℕ → ℕ → Parsed Verdicts
grid_p roots bundle s at =
    after (big_p 2 s at) (λ n e.
    cond (eqb n ((roots + bundle) * bundle))
    (after (many verdict_p n s e) (λ _ f. got (record { roots = roots; bundle = bundle; first = e }) f))
    (stop 7))

-- what stands where nothing was read
abbrev pub fresh-verdicts : Verdicts
fresh-verdicts = record { roots = 0; bundle = 0; first = 0 }

-- ---- by place

-- row and column of the verdicts hold a 1; false if the file has no such place
unfoldable pub signed_at : Verdicts → List ℕ → ℕ → ℕ → Bool
signed_at v s row column = ltb column v.bundle && eqb (get_or s (v.first + (row * v.bundle + column)) 0) 1

-- root place i signed bundle place j: one row per issuer (roots first), one column per bundle subject
unfoldable pub root_signed : Verdicts → List ℕ → ℕ → ℕ → Bool
root_signed v s i j = ltb i v.roots && signed_at v s i j

-- bundle place i signed bundle place j
unfoldable pub bundle_signed : Verdicts → List ℕ → ℕ → ℕ → Bool
bundle_signed v s i j = ltb i v.bundle && signed_at v s (v.roots + i) j
