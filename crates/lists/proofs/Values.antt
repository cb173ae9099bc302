-- A list by its value is what stands where its reader found it (`run_valued`), for extensions/proofs/Values.antt. By its place:
-- specs/Runs.antt; what is said of any reader: fields/proofs/Values.antt.
use Prim.Native.Nat.{ℕ}
use mathlib.Core.Path.{◌≡◌, sym, ◌∙◌}
use mathlib.Core.List.{List}
use Rattle.fields.specs.Fields.{Parsed, count_p, many, counted_p}
use Rattle.fields.specs.Spans.{list_of}
use Rattle.fields.proofs.Values.{valued, after_same, after-after, listed_again}
use Rattle.fields.specs.Runs.{run_p}
use Rattle.fields.specs.declared.run.Run.{Run}

module _ {A : Type 0} where
  pub run_valued : (most : ℕ) (p : List ℕ → ℕ → Parsed A) (s : List ℕ) (at : ℕ)
      → counted_p 0 most p s at ≡ valued (λ (r : Run). list_of (many p r.count s r.first)) (run_p 0 most p s at)
  unfolding counted_p run_p
  run_valued most p s at =
      after_same (count_p 0 most s at) (λ n e.
      listed_again (many p n s e) ∙ sym (after-after (many p n s e) _ _))
      ∙ sym (after-after (count_p 0 most s at) _ _)
