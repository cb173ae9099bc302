-- What a task that was read says of its host: it stands in the file (`host_read`), and the task ends with it (`host-ends`). For
-- card/proofs/Sections.antt; where the task stands: specs/Placed.antt.
use Prim.Native.Nat.{ℕ, ◌≤◌}
use mathlib.Core.Path.{◌≡◌}
use mathlib.Core.List.{List}
use native.Mathlib.Omega.{arith}
use lib.ListN.{length}
use Rattle.fields.specs.Fields.{got}
use Rattle.fields.specs.Spans.{span_p}
use Rattle.fields.specs.declared.string.Span.{Span}
use Rattle.fields.proofs.After.{after-got, got-is}
use Rattle.fields.proofs.Strings.{SpanRead, span_read}
use Rattle.task.specs.Task.{purpose_p, host_most}
use Rattle.task.specs.Placed.{times_p, task_p}
use Rattle.task.specs.declared.Task.{Task}

-- the host was read, and e is the place past it
pub record HostRead (s : List ℕ) (p : Span) (e : ℕ) : Type 0 where
  pub at : ℕ
  pub is : SpanRead 0 host_most s at p e

pub host_read : (s : List ℕ) (at : ℕ) (t : Task) (e : ℕ) → task_p s at ≡ got t e → HostRead s t.host.name e
unfolding task_p
host_read s at t e h =
    let times = after-got (times_p s at) _ h in
    let purpose = after-got (purpose_p s times.place) _ times.next in
    let host = after-got (span_p 0 host_most s purpose.place) _ purpose.next in
    got-is (λ (t : Task) e. HostRead s t.host.name e) host.next
    (record { at = purpose.place; is = span_read 0 host_most s _ _ _ host.first })

-- the host ends within the file, so a card that ends no earlier ends with it
pub host-ends : (s : List ℕ) (p : Span) (e : ℕ) → HostRead s p e → length s ≤ e → e ≡ length s
host-ends s p e host over =
    let within = host.is.within in
    let ends = host.is.ends in
    omega arith
