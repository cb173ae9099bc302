-- What is judged of a card is what the content says, at any time: who issued whom in the bundle (`issuer_judged`); a root by which a list
-- of places qualifies, as its certificates were judged, is one by which it qualifies (`root_judged`), and is there (`qualifies-there`). For
-- question/proofs/Meaning.antt. As judged: specs/Judging.antt; by the content: specs/Qualifies.antt.
use Prim.Native.Nat.{ℕ, ◌+◌, ◌<◌, ◌≤◌}
use mathlib.Core.Path.{◌≡◌, refl, sym, ap, ◌∙◌}
use mathlib.Core.Bool.{Bool, true, false, ◌&&◌, false≢true}
use mathlib.Core.List.Memᴰ.{head as here}
use mathlib.Core.List.Memᴰ.{tail as there}
use mathlib.Core.List.{List, [], ◌∷◌, map}
use native.Mathlib.Omega.{arith}
use lib.Dec.{ltb}
use lib.ListN.{length, length-map, get_or}
use borrow.Author.Tests.{lt-ltb, ltb-true}
use Rattle.places.specs.Limits.{bundle_most}
use Rattle.text.proofs.Each.{both_true}
use Rattle.record.specs.Certificate.{Certificate}
use Rattle.certificates.proofs.Standing.{count-few}
use Rattle.card.specs.Content.{Content, root, bundled, certificate_at}
use Rattle.card.specs.Parts.{content_of}
use Rattle.card.specs.declared.Card.{Card}
use Rattle.card.proofs.Sections.{CardRead}
use Rattle.card.proofs.Standing.{roots_counted}
use Rattle.rows.specs.Rows.{has}
use Rattle.issuing.specs.Issued.{issued}
use Rattle.issuing.specs.Records.{root_rows, issuers_of}
use Rattle.issuing.proofs.Agrees.{and_no, no_issuer, bundle_row_agrees, root_row_agrees}
use Rattle.issuing.proofs.Issuers.{issuer_among}
use Rattle.order.specs.Listing.{◌among◌}
use Rattle.order.specs.Paths.{last}
use Rattle.order.proofs.Simple.{last_among}
use Rattle.rules.specs.declared.rules.Time.{Time}
use Rattle.policy.specs.Policy.{policy, chain_of}
use Rattle.policy.specs.Sound.{sound_places, place_limits, sound_roots, root_limits, counted_places, judged_of}
use Rattle.policy.specs.Judging.{stands, counting, all_stand, qualifies_by}
use Rattle.policy.specs.Qualifies.{qualifies}
use Rattle.policy.proofs.Lengths.{non_self_issued, counts-few}
use Rattle.policy.proofs.Chains.{after_yes, all_between, leaf_sound, by_seat, policy_by_seat}
use Rattle.policy.proofs.SeatsRead.{all_stand_read, counting_read, top_read, leaves_read}

module _ (s : List ℕ) (c : Card) (e : ℕ) (t : CardRead s c e) (time : Time) where
  abbrev content : Content
  content = content_of c s

  abbrev place : ℕ → Certificate
  place i = certificate_at content (bundled i)

  abbrev top : ℕ → Certificate
  top r = certificate_at content (root r)

  -- the roots that issued each place
  abbrev rows : List ℕ
  rows = root_rows s c.roots c.bundle c.verdicts

  pub issuer_judged : (i j : ℕ) → has i (get_or (judged_of s time c).issuing.bundle j 0) ≡ issued content (bundled i) j
  unfolding judged_of
  issuer_judged i j = bundle_row_agrees s c e t i j

  -- a root that issued anything is there
  issuer-there : (r j : ℕ) → issued content (root r) j ≡ true → r < c.roots.count
  issuer-there r j h = by_test (ltb r (length content.roots)) refl
    where
      by_test : (b : Bool) → ltb r (length content.roots) ≡ b → r < c.roots.count
      by_test true k = let q = ltb-true r (length content.roots) k in let n = roots_counted s c e t in omega arith
      by_test false k = absurd (false≢true (sym (no_issuer content (root r) j k) ∙ h))

  module _ (p : ℕ) (l : List ℕ) (inside : (i : ℕ) → i among (p ∷ l) → i < c.bundle.count) (few : length l ≤ 255) where
    abbrev end : ℕ
    end = last p l

    abbrev leaf : Bool
    leaf = leaf_sound time content.host (place p)

    abbrev counted : ℕ
    counted = counted_places s (sound_places s time c.bundle) c.bundle

    abbrev between : Bool
    between = all_stand (sound_places s time c.bundle) (place_limits s c.bundle) counted 0 l

    -- root r may stand above n certificates that count
    abbrev above : ℕ → ℕ → Bool
    above n r = stands (sound_roots s time (issuers_of rows) c.roots) (root_limits s (issuers_of rows) c.roots) n r

    -- a root by which a list of places is judged right is one by which it qualifies
    pub root_judged : (r : ℕ) → qualifies_by (judged_of s time c) (p ∷ l) r ≡ qualifies content time (p ∷ l) r
    unfolding content_of by_seat qualifies_by judged_of
    root_judged r =
        let low : end < bundle_most = let a = inside end (last_among p l) in let b = count-few bundle_most s _ _ _ t.bundle in omega arith in
        rw (lt-ltb end bundle_most low, leaves_read s c e t time p (inside p (here refl)))
        (ap (λ b. leaf && between && (b && above (counting counted 0 l) r)) (root_row_agrees s c e t r end) ∙ by_issuer (issued content (root r) end) refl)
      where
        by_issuer : (b : Bool) → issued content (root r) end ≡ b
            → leaf && between && (b && above (counting counted 0 l) r) ≡ (b && policy time content.host (chain_of content p l r))
        by_issuer false k = and_no (leaf && between) false refl
        by_issuer true k =
            let asked = issuer_among rows end r (root_row_agrees s c e t r end ∙ k) in
            let after : (i : ℕ) → i among l → i < c.bundle.count = λ i m. inside i (there m) in
            let n = non_self_issued (map place l) in
            let size : n ≤ 255 = let a = counts-few (map place l) in let b = length-map l place in omega arith in
            let none : 0 + n ≡ n = omega arith in
            rw (all_stand_read s c e t time 0 l after (omega arith), policy_by_seat time content.host (place p) (map place l) (top r))
            (after_yes (leaf && all_between time 0 (map place l)) _ _ (λ yes.
            let same : counting counted 0 l ≡ n = counting_read s c e t time 0 l after ((both_true leaf (all_between time 0 (map place l))).0 yes).1 ∙ none in
            ap (λ m. above m r) same ∙ top_read s c e t time (issuers_of rows) n r (issuer-there r end k) asked size))

  -- a root by which a path qualifies is there
  pub qualifies-there : (p : List ℕ) (r : ℕ) → c.roots.count ≤ r → qualifies content time p r ≡ false
  qualifies-there [] r h = refl
  qualifies-there (p ∷ l) r h = ap (λ b. b && policy time content.host (chain_of content p l r)) (not_issued (issued content (root r) (last p l)) refl)
    where
      not_issued : (b : Bool) → issued content (root r) (last p l) ≡ b → issued content (root r) (last p l) ≡ false
      not_issued true k = let q = issuer-there r (last p l) k in absurd (omega arith)
      not_issued false k = k
