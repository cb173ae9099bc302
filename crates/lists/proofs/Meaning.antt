-- What a list that was read holds: as many things as it says, within its limit (`run_read`), each of them what its reader tells
-- (`run_each`; `usage_few`, `dns_name_bounded`). For extensions/proofs/Meaning.antt and rules/proofs/AnyOf.antt; where a list stands:
-- specs/Runs.antt.
use Prim.Native.Nat.{ℕ, ◌<◌, ◌≤◌}
use mathlib.Core.Path.{◌≡◌, sym, ◌∙◌}
use mathlib.Core.List.{List}
use native.Mathlib.Omega.{arith}
use lib.ListN.{length, get_or}
use lib.Dec.{leb}
use borrow.Author.Tests.{leb-true}
use Rattle.fields.specs.Fields.{Parsed, got, byte_p, count_p, many}
use Rattle.fields.specs.Spans.{span_p}
use Rattle.fields.proofs.After.{after-got, judged_got, got-is}
use Rattle.fields.proofs.Counts.{count_read}
use Rattle.fields.proofs.Many.{many-length, many_nth}
use Rattle.fields.proofs.Strings.{span_read, string_by_span}
use Rattle.lists.specs.Lists.{usage_p, dns_name_p, usage_most, dns_name_most}
use Rattle.fields.specs.Runs.{run_p}
use Rattle.fields.specs.declared.run.Run.{Run}

pub record RunRead {A : Type 0} (most : ℕ) (p : List ℕ → ℕ → Parsed A) (s : List ℕ) (r : Run) (e : ℕ) : Type 0 where
  pub things : List A
  pub few : r.count ≤ most
  pub are : many p r.count s r.first ≡ got things e
  pub as_many : length things ≡ r.count

module _ {A : Type 0} (most : ℕ) (p : List ℕ → ℕ → Parsed A) (s : List ℕ) where
  pub run_read : (at : ℕ) (r : Run) (e : ℕ) → run_p 0 most p s at ≡ got r e → RunRead most p s r e
  unfolding run_p
  run_read at r e h =
      let count = after-got (count_p 0 most s at) _ h in
      let run = after-got (many p count.value s count.place) _ count.next in
      got-is (RunRead most p s) run.next
      (record {
        things = run.value;
        few = (count_read 0 most s at _ _ count.first).few;
        are = run.first;
        as_many = many-length p s _ _ _ _ run.first;
      })

  -- what holds of whatever p reads holds of each thing of the list
  pub run_each : (Q : A → Type 0) → ((at : ℕ) (a : A) (e : ℕ) → p s at ≡ got a e → Q a)
      → (r : Run) (e : ℕ) (t : RunRead most p s r e) (d : A) (i : ℕ) → i < r.count → Q (get_or t.things i d)
  run_each Q h r e t d i l =
      let n = many_nth p s d i r.count r.first t.things e l t.are in
      h n.place (get_or t.things i d) n.past n.is

pub usage_few : (s : List ℕ) (at u e : ℕ) → usage_p s at ≡ got u e → u ≤ usage_most
unfolding usage_p
usage_few s at u e h =
    let byte = after-got (byte_p s at) _ h in
    let judged = judged_got (leb byte.value usage_most) _ 8 byte.next in
    got-is (λ v _. v ≤ usage_most) judged.1 (omega (arith, leb-true))

-- a DNS name that was read has 1 to 253 bytes
pub dns_name_bounded : (s : List ℕ) (at : ℕ) (n : List ℕ) (e : ℕ) → dns_name_p s at ≡ got n e → (1 ≤ length n) × (length n ≤ dns_name_most)
unfolding dns_name_p
dns_name_bounded s at n e h =
    let span = after-got (span_p 1 dns_name_most s at) _ (sym (string_by_span 1 dns_name_most s at) ∙ h) in
    let read = span_read 1 dns_name_most s at _ _ span.first in
    got-is (λ n _. (1 ≤ length n) × (length n ≤ dns_name_most)) span.next (read.enough, read.few)
