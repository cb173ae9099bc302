-- The task by its values is what stands where its reader found it, whatever is made of it (`task_valued`), for card/proofs/Values.antt. By
-- its place: specs/Placed.antt; by its values: `sections_p` of card/specs/Content.antt.
use Prim.Native.Nat.{ℕ}
use mathlib.Core.Path.{◌≡◌, sym, ◌∙◌}
use mathlib.Core.List.{List}
use Rattle.fields.specs.Fields.{Parsed, after, count_p, big_p, string_p}
use Rattle.fields.specs.Spans.{span_p, bytes_of}
use Rattle.fields.proofs.Strings.{string_by_span}
use Rattle.fields.proofs.Values.{after_same, after-after, by_place}
use Rattle.task.specs.Task.{purpose_p, host_most}
use Rattle.task.specs.Placed.{times_p, task_p}

module _ {B : Type 0} (s : List ℕ) where
  pub task_valued : (at : ℕ) (k : ℕ → ℕ → List ℕ → ℕ → Parsed B)
      → after (count_p 1 1 s at) (λ _ e.
      after (big_p 8 s e) (λ now f.
      after (big_p 8 s f) (λ budget g.
      after (purpose_p s g) (λ _ h.
      after (string_p 0 host_most s h) (λ host i.
      k now budget host i)))))
      ≡ after (task_p s at) (λ t i. k t.now t.budget (bytes_of t.host.name s) i)
  unfolding task_p times_p
  task_valued at k =
      sym (after-after (times_p s at) _ _
      ∙ after-after (count_p 1 1 s at) _ _
      ∙ after_same (count_p 1 1 s at) (λ _ e.
      after-after (big_p 8 s e) _ _
      ∙ after_same (big_p 8 s e) (λ now f.
      after-after (big_p 8 s f) _ _
      ∙ after_same (big_p 8 s f) (λ budget g.
      after-after (purpose_p s g) _ _
      ∙ after_same (purpose_p s g) (λ _ h.
      after-after (span_p 0 host_most s h) _ _
      ∙ sym (by_place (span_p 0 host_most s h) (λ p. bytes_of p s) _ (string_by_span 0 host_most s h)))))))
