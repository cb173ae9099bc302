-- What a card that was found says is what a file's reader by value reads, with the same faults in the same order (`content_by_card`;
-- `content_got` and `content_stops` for question and report). The readers: `file_p` of specs/Card.antt and `content_p` of specs/Content.antt;
-- the same of each section: the Values.antt of record, verdicts and task.
use Prim.Native.Nat.{ℕ, ◌≤◌}
use mathlib.Core.Path.{◌≡◌, refl, sym, ap, ◌∙◌}
use mathlib.Core.Bool.{Bool, true, false, cond}
use mathlib.Core.List.{List, map}
use lib.Dec.{leb, ltb}
use lib.ListN.{length}
use lib.Seq.{take-append_seam}
use borrow.Author.Tests.{leb-true}
use Rattle.places.specs.Limits.{roots_most, bundle_most}
use Rattle.fields.specs.Fields.{got, stop, counted_p, whole}
use Rattle.fields.proofs.Values.{valued, after-known, after_same, after-after, by_place, counted_valued}
use Rattle.record.specs.Certificate.{Certificate, certificate_p}
use Rattle.record.specs.Parts.{certificate_of}
use Rattle.record.specs.Record.{place_most, record_p}
use Rattle.record.proofs.Values.{certificate_by_record}
use Rattle.certificates.specs.Certificates.{filled, certificates_p, roots_p, bundle_p}
use Rattle.certificates.specs.declared.certificates.Certificates.{Certificates}
use Rattle.certificates.proofs.Standing.{certificates_read}
use Rattle.verdicts.specs.Verdicts.{verdicts_p}
use Rattle.verdicts.specs.Grid.{grid_p}
use Rattle.verdicts.proofs.Values.{verdicts_of, grid_valued}
use Rattle.task.specs.Placed.{task_p}
use Rattle.task.proofs.Values.{task_valued}
use Rattle.card.specs.Content.{edition_p, sections_p, file_most, content_p}
use Rattle.card.specs.Card.{card_p, file_p}
use Rattle.card.specs.Parts.{certificates_of, content_of}
use Rattle.card.specs.declared.Card.{Card}
use Rattle.card.proofs.Standing.{certificates_counted}

module _ (s : List ℕ) (few : length s ≤ place_most) where
  abbrev listed : {most : ℕ} → Certificates most → List Certificate
  listed c = certificates_of c.count c.records s

  certificates_valued : (most at : ℕ) → counted_p 0 most certificate_p s at ≡ valued listed (certificates_p most s at)
  unfolding certificates_p certificates_of filled
  certificates_valued most at =
      counted_valued record_p certificate_p (λ r. certificate_of r s) s (certificate_by_record s few) 0 most at
      ∙ after_same (counted_p 0 most record_p s at) (λ l e.
      ap (λ c. got c e) (sym (ap (map (λ r. certificate_of r s)) (take-append_seam l _))))
      ∙ sym (after-after (counted_p 0 most record_p s at) _ _)

  as_many : (most at : ℕ) (c : Certificates most) (e : ℕ) → certificates_p most s at ≡ got c e → length (listed c) ≡ c.count
  as_many most at c e h = certificates_counted most s _ _ _ (certificates_read most s at c e h)

  verdicts_valued : (a : ℕ) (r : Certificates roots_most) (b : ℕ) (u : Certificates bundle_most) (c : ℕ) → roots_p s a ≡ got r b → bundle_p s b ≡ got u c
      → (at : ℕ) → verdicts_p (length (listed r)) (length (listed u)) s at ≡ valued (verdicts_of s) (grid_p r.count u.count s at)
  verdicts_valued a r b u c roots bundle at =
      rw (as_many roots_most a r b roots, as_many bundle_most b u c bundle) (grid_valued r.count u.count s at)

  sections_valued : (at : ℕ) → sections_p s at ≡ valued (λ c. content_of c s) (card_p s at)
  unfolding sections_p card_p content_of
  sections_valued at =
      after_same (edition_p s at) (λ _ a.
      by_place (roots_p s a) listed _ (certificates_valued roots_most a)
      ∙ after-known (roots_p s a) (λ r b roots.
      by_place (bundle_p s b) listed _ (certificates_valued bundle_most b)
      ∙ after-known (bundle_p s b) (λ u c bundle.
      by_place (grid_p r.count u.count s c) (verdicts_of s) _ (verdicts_valued a r b u c roots bundle c)
      ∙ after_same (grid_p r.count u.count s c) (λ v d. task_valued s d _ ∙ sym (after-after (task_p s d) _ _))
      ∙ sym (after-after (grid_p r.count u.count s c) _ _))
      ∙ sym (after-after (bundle_p s b) _ _))
      ∙ sym (after-after (roots_p s a) _ _))
      ∙ sym (after-after (edition_p s at) _ _)

  whole_valued : whole sections_p s ≡ valued (λ c. content_of c s) (whole card_p s)
  unfolding whole
  whole_valued =
      by_place (card_p s 0) (λ c. content_of c s) _ (sections_valued 0)
      ∙ after_same (card_p s 0) (λ c e. left_over c e (ltb e (length s)))
      ∙ sym (after-after (card_p s 0) _ _)
    where
      left_over : (c : Card) (e : ℕ) (b : Bool) → cond b (stop 9) (got (content_of c s) e) ≡ valued (λ c. content_of c s) (cond b (stop 9) (got c e))
      left_over c e true = refl
      left_over c e false = refl

pub content_by_card : (s : List ℕ) → content_p s ≡ valued (λ c. content_of c s) (file_p s)
unfolding content_p file_p
content_by_card s = by_length (leb (length s) file_most) refl
  where
    by_length : (b : Bool) → leb (length s) file_most ≡ b
        → cond b (whole sections_p s) (stop 5) ≡ valued (λ c. content_of c s) (cond b (whole card_p s) (stop 5))
    by_length true h = whole_valued s (leb-true (length s) file_most h)
    by_length false h = refl

pub content_got : (s : List ℕ) (c : Card) (e : ℕ) → file_p s ≡ got c e → content_p s ≡ got (content_of c s) e
content_got s c e h = content_by_card s ∙ ap (valued (λ c. content_of c s)) h

pub content_stops : (s : List ℕ) (r : ℕ) → file_p s ≡ stop r → content_p s ≡ stop r
content_stops s r h = content_by_card s ∙ ap (valued (λ c. content_of c s)) h
