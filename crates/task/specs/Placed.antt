-- Where the task stands, for readers that copy nothing: numbers, and the host's place in the file; then what stands where nothing was read.
-- The purpose and the host's limit: Task.antt; the task by its values: `sections_p` of card/specs/Content.antt, joined to this in
-- proofs/Values.antt.
use Rattle.std.specs.Prelude.{ℕ, List}
use Rattle.fields.specs.Fields.{Parsed, got, after, count_p, big_p}
use Rattle.fields.specs.Spans.{span_p, nowhere}
use Rattle.task.specs.Task.{purpose_p, host_most}
use Rattle.task.specs.declared.Host.{Host}
use Rattle.task.specs.declared.Task.{Task}

-- count byte 1; now and budget, a u64 each
unfoldable pub times_p : List ℕ → ℕ → Parsed (ℕ × ℕ)
times_p s at =
    after (count_p 1 1 s at) (λ _ e.
    after (big_p 8 s e) (λ now f.
    after (big_p 8 s f) (λ budget g.
    got (now, budget) g)))

-- the task: its count, now, budget, purpose, and a host of 0..253 bytes
unfoldable pub task_p : List ℕ → ℕ → Parsed Task
task_p s at =
    after (times_p s at) (λ t e.
    after (purpose_p s e) (λ _ f.
    after (span_p 0 host_most s f) (λ host g.
    got (record { now = t.0; budget = t.1; host = record { name = host } }) g)))

-- ---- what stands where nothing was read

abbrev pub fresh-host : Host
fresh-host = record { name = nowhere }

abbrev pub fresh_task : Task
fresh_task = record { now = 0; budget = 0; host = fresh-host }
