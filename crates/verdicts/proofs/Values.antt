-- The verdicts by their values are what stands where their reader found them, with the same faults (`grid_valued`), for
-- card/proofs/Values.antt. By their place: specs/Grid.antt; by their values: specs/Verdicts.antt.
use Prim.Native.Nat.{ℕ, ◌+◌, ◌*◌}
use mathlib.Core.Path.{◌≡◌, refl, sym, ◌∙◌}
use mathlib.Core.Bool.{Bool, true, false, cond}
use mathlib.Core.List.{List}
use lib.Dec.{eqb}
use borrow.Author.Tests.{eqb-true}
use Rattle.fields.specs.Fields.{got, stop, after, big_p, many}
use Rattle.fields.specs.Spans.{list_of}
use Rattle.fields.proofs.Values.{valued, after_same, after-after, listed_again}
use Rattle.verdicts.specs.Verdicts.{verdict_p, verdicts_p}
use Rattle.verdicts.specs.Grid.{grid_p}
use Rattle.verdicts.specs.declared.Verdicts.{Verdicts}

-- the verdicts that stand there
abbrev pub verdicts_of : List ℕ → Verdicts → List ℕ
verdicts_of s v = list_of (many verdict_p ((v.roots + v.bundle) * v.bundle) s v.first)

module _ (roots bundle : ℕ) (s : List ℕ) where
  abbrev asked : ℕ
  asked = (roots + bundle) * bundle

  pub grid_valued : (at : ℕ) → verdicts_p roots bundle s at ≡ valued (verdicts_of s) (grid_p roots bundle s at)
  unfolding verdicts_p grid_p
  grid_valued at = after_same (big_p 2 s at) (λ n e. judged n e (eqb n asked) refl) ∙ sym (after-after (big_p 2 s at) _ _)
    where
      judged : (n e : ℕ) (b : Bool) → eqb n asked ≡ b
          → cond b (many verdict_p n s e) (stop 7)
          ≡ valued (verdicts_of s) (cond b (after (many verdict_p n s e) (λ _ f. got (record { roots = roots; bundle = bundle; first = e }) f)) (stop 7))
      judged n e true h =
          rw (eqb-true n asked h) (listed_again (many verdict_p asked s e) ∙ sym (after-after (many verdict_p asked s e) _ _))
      judged n e false h = refl
