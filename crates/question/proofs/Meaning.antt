-- On a card that was read, the rows and judged places say what the content says: the same places (`places-read`), and for a simple path the
-- same roots (`qualifies_content`, `qualifies-rows`). For Asked.antt. Who issued whom: issuing/proofs/Agrees.antt; who qualifies:
-- policy/proofs/Qualified.antt.
use mathlib.Core.Bool.{Bool, true, false, false≢true}
use mathlib.Core.List.{List, ◌∷◌}
use mathlib.Core.Path.{◌≡◌, refl, sym, ap₂, ◌∙◌, fun_ext}
use Prim.Native.Nat.{ℕ}
use native.Mathlib.Omega.{arith}
use borrow.Author.Tests.{ltb-true, ltb-false}
use lib.Dec.{ltb}
use lib.ListN.{length}
use Rattle.places.specs.Limits.{bundle_most}
use Rattle.certificates.specs.Certificates.{size_of}
use Rattle.card.specs.Content.{Content}
use Rattle.card.specs.Parts.{content_of}
use Rattle.card.specs.declared.Card.{Card}
use Rattle.card.proofs.Sections.{CardRead}
use Rattle.card.proofs.Standing.{roots_counted, roots_few, bundle_counted, bundle-few}
use Rattle.issuing.proofs.Agrees.{size_is}
use Rattle.order.specs.Paths.{Simple}
use Rattle.order.proofs.Simple.{simple-length}
use Rattle.policy.specs.Qualifies.{qualifies}
use Rattle.policy.specs.Sound.{judged_of}
use Rattle.policy.proofs.Qualified.{issuer_judged, root_judged, qualifies-there}
use Rattle.reply.specs.Settles.{Reach, QualifiesBy}
use Rattle.rules.specs.declared.rules.Time.{Time}
use Rattle.question.specs.Asked.{places_in, roots_in}
use Rattle.question.specs.Question.{places_by, roots_by}

module _ (s : List ℕ) (c : Card) (e : ℕ) (t : CardRead s c e) (time : Time) where
  abbrev content : Content
  content = content_of c s

  size_read : size_of bundle_most c.bundle.count ≡ length content.bundle
  size_read =
      let n = bundle_counted s c e t in
      let m = bundle-few s c e t in
      size_is bundle_most c.bundle.count (omega arith) ∙ sym n

  pub places-read : places_by (judged_of s time c).issuing.bundle (size_of bundle_most c.bundle.count) ≡ places_in content
  places-read =
      ap₂ (λ (n : ℕ) (f : ℕ → ℕ → Bool). record { size = n; issued = f }) size_read
      (fun_ext (λ i. fun_ext (λ j. issuer_judged s c e t time i j)))

  -- the roots as the judged places say them
  abbrev pub roots_read : Reach
  roots_read = roots_by (judged_of s time c)

  qualifies_read : (p : List ℕ) (r : ℕ) → Simple (places_in content) p → roots_read.good p r ≡ qualifies content time p r
  qualifies_read p r h = from_leaf h.start.0 h.start.1
    where
      from_leaf : (l : List ℕ) → p ≡ 0 ∷ l → roots_read.good p r ≡ qualifies content time p r
      from_leaf l q =
          let h' : Simple (places_in content) (0 ∷ l) = rw q at h in
          let n = bundle_counted s c e t in
          let m = bundle-few s c e t in
          let k = simple-length (places_in content) h' in
          rw q (root_judged s c e t time 0 l (λ i x. let z = h'.inside i x in omega arith) (omega arith) r)

  pub qualifies_content : (p : List ℕ) (r : ℕ) → Simple (places_in content) p → QualifiesBy roots_read p r → QualifiesBy (roots_in content time) p r
  qualifies_content p r h x = by_test (ltb r (length content.roots)) refl
    where
      good : qualifies content time p r ≡ true
      good = sym (qualifies_read p r h) ∙ x.1

      by_test : (b : Bool) → ltb r (length content.roots) ≡ b → QualifiesBy (roots_in content time) p r
      by_test true k = (ltb-true r (length content.roots) k, good)
      by_test false k =
          let m = ltb-false r (length content.roots) k in
          let n = roots_counted s c e t in
          absurd (false≢true (sym (qualifies-there s c e t time p r (omega arith)) ∙ good))

  pub qualifies-rows : (p : List ℕ) (r : ℕ) → Simple (places_in content) p → QualifiesBy (roots_in content time) p r → QualifiesBy roots_read p r
  qualifies-rows p r h x =
      let m = roots_few s c e t in
      let n = x.0 in
      (omega arith, qualifies_read p r h ∙ x.1)
