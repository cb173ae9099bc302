-- What a card that was read says: what each of its sections says, and that the file ends with them (`card_read`). Whatever is said of a
-- card that was read, here and in the crates above, begins with this. Its certificates by their places: Standing.antt; who signed whom:
-- Signed.antt; its content: Values.antt.
use Prim.Native.Nat.{ℕ, ◌≤◌}
use mathlib.Core.Path.{◌≡◌, refl}
use mathlib.Core.Bool.{Bool, true, false, cond}
use mathlib.Core.List.{List}
use native.Mathlib.Omega.{arith}
use lib.Dec.{leb, ltb}
use lib.ListN.{length}
use borrow.Author.Tests.{leb-true, ltb-false}
use Rattle.places.specs.Limits.{roots_most, bundle_most}
use Rattle.fields.specs.Fields.{got, stop, after, whole}
use Rattle.fields.proofs.After.{after-got, judged_got, got-is}
use Rattle.certificates.specs.Certificates.{roots_p, bundle_p}
use Rattle.certificates.specs.declared.certificates.Certificates.{Certificates}
use Rattle.certificates.proofs.Standing.{RecordsRead, certificates_read}
use Rattle.verdicts.specs.Grid.{grid_p}
use Rattle.verdicts.specs.declared.Verdicts.{Verdicts}
use Rattle.verdicts.proofs.Rows.{RowsRead, rows_read}
use Rattle.task.specs.Placed.{task_p}
use Rattle.task.proofs.Hosts.{HostRead, host_read, host-ends}
use Rattle.card.specs.Card.{card_p, file_p}
use Rattle.card.specs.Content.{file_most, edition_p}
use Rattle.card.specs.declared.Card.{Card}

pub record CardRead (s : List ℕ) (c : Card) (e : ℕ) : Type 0 where
  pub bundle-at : ℕ
  pub verdicts-at : ℕ
  pub task_at : ℕ
  pub roots : RecordsRead roots_most s c.roots.count c.roots.records bundle-at
  pub bundle : RecordsRead bundle_most s c.bundle.count c.bundle.records verdicts-at
  pub verdicts : RowsRead c.roots.count c.bundle.count s c.verdicts task_at
  pub host : HostRead s c.task.host.name e
  pub ends : e ≡ length s
  pub few : length s ≤ file_most

module _ (s : List ℕ) (few : length s ≤ file_most) where
  -- with the sections before it read, the task makes a card
  task_read : (r : Certificates roots_most) (b : Certificates bundle_most) (v : Verdicts) (f g h : ℕ)
      → RecordsRead roots_most s r.count r.records f → RecordsRead bundle_most s b.count b.records g → RowsRead r.count b.count s v h
      → (c : Card) (e : ℕ) → after (task_p s h) (λ t i. got (record { roots = r; bundle = b; verdicts = v; task = t }) i) ≡ got c e
      → length s ≤ e → CardRead s c e
  task_read r b v f g h roots bundle verdicts c e is =
      let task = after-got (task_p s h) _ is in
      let host = host_read s h task.value task.place task.first in
      got-is (λ c e. length s ≤ e → CardRead s c e) task.next
      (λ over.
      record {
        bundle-at = f;
        verdicts-at = g;
        task_at = h;
        roots = roots;
        bundle = bundle;
        verdicts = verdicts;
        host = host;
        ends = host-ends s _ _ host over;
        few = few;
      })

  sections_read : (at : ℕ) (c : Card) (e : ℕ) → card_p s at ≡ got c e → length s ≤ e → CardRead s c e
  unfolding card_p
  sections_read at c e h =
      let edition = after-got (edition_p s at) _ h in
      let roots = after-got (roots_p s edition.place) _ edition.next in
      let bundle = after-got (bundle_p s roots.place) _ roots.next in
      let verdicts = after-got (grid_p roots.value.count bundle.value.count s bundle.place) _ bundle.next in
      task_read roots.value bundle.value verdicts.value roots.place bundle.place verdicts.place
      (certificates_read roots_most s edition.place roots.value roots.place roots.first)
      (certificates_read bundle_most s roots.place bundle.value bundle.place bundle.first)
      (rows_read roots.value.count bundle.value.count s bundle.place verdicts.value verdicts.place verdicts.first) c e
      verdicts.next

  -- nothing is left over
  whole_read : (c : Card) (e : ℕ) → whole card_p s ≡ got c e → CardRead s c e
  unfolding whole
  whole_read c e h =
      let card = after-got (card_p s 0) _ h in
      by_end card.value card.place card.first _ refl card.next
    where
      by_end : (d : Card) (f : ℕ) → card_p s 0 ≡ got d f → (b : Bool) → ltb f (length s) ≡ b → cond b (stop 9) (got d f) ≡ got c e → CardRead s c e
      by_end d f k true t q = let z : ◌≡◌ {A = ℕ} 0 1 = cc in absurd (omega arith)
      by_end d f k false t q = got-is (CardRead s) q (sections_read 0 d f k (ltb-false f (length s) t))

pub card_read : (s : List ℕ) (c : Card) (e : ℕ) → file_p s ≡ got c e → CardRead s c e
unfolding file_p
card_read s c e h =
    let long = judged_got (leb (length s) file_most) _ 5 h in
    whole_read s (leb-true (length s) file_most long.0) c e long.1
