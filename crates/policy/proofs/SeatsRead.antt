-- What was judged once per certificate is what a chain's certificates are asked where they stand, on a card that was read: those between
-- (`all_stand_read`), how many of those count (`counting_read`), the roots that were asked for (`top_read`), the leaf (`leaves_read`). For
-- Qualified.antt. What was judged: specs/Sound.antt; what they are asked where they stand: Chains.antt.
use Prim.Native.Nat.{ℕ, ◌+◌, ◌<◌, ◌≤◌}
use mathlib.Core.Path.{◌≡◌, refl, sym, ap, ap₂, ◌∙◌}
use mathlib.Core.Bool.{Bool, true, false, cond, not, ◌&&◌}
use mathlib.Core.List.Memᴰ.{head as here}
use mathlib.Core.List.Memᴰ.{tail as there}
use mathlib.Core.List.{List, [], ◌∷◌, map}
use native.Mathlib.Omega.{arith}
use lib.Dec.{ltb}
use lib.ListN.{length, get_or}
use borrow.Author.Tests.{lt-ltb}
use Rattle.places.specs.Limits.{roots_most, bundle_most}
use Rattle.text.proofs.Each.{both_true}
use Rattle.fields.specs.Spans.{bytes_of}
use Rattle.record.specs.Certificate.{Certificate}
use Rattle.certificates.specs.Certificates.{record_of, size_of}
use Rattle.certificates.proofs.Standing.{count-few}
use Rattle.card.specs.Content.{root, bundled, certificate_at}
use Rattle.card.specs.Parts.{content_of}
use Rattle.card.specs.declared.Card.{Card}
use Rattle.card.proofs.Sections.{CardRead}
use Rattle.card.proofs.Standing.{bundled-stands}
use Rattle.rows.specs.Rows.{has, row_of, listing}
use Rattle.rows.proofs.Places.{has-row}
use Rattle.rows.proofs.Listing.{listing-there}
use Rattle.issuing.specs.Issued.{self_issued}
use Rattle.issuing.specs.Records.{self_issued_at}
use Rattle.issuing.proofs.Agrees.{size_is, root_is, bundled-is, self_issued_read}
use Rattle.order.specs.Listing.{◌among◌}
use Rattle.rules.specs.Rules.{allows}
use Rattle.rules.specs.Limits.{limit_of}
use Rattle.rules.specs.declared.rules.Time.{Time}
use Rattle.rules.proofs.LeafRead.{for_servers_read, for_host_read}
use Rattle.rules.proofs.Limits.{limit_allows}
use Rattle.policy.specs.Policy.{counts}
use Rattle.policy.specs.Sound.{between_sound, top_sound, leaf_sound_at, place_of, root_of, sound_places, place_limits, sound_roots, root_limits, sound_leaves, counted_places}
use Rattle.policy.specs.Judging.{stands, adds, counting, all_stand}
use Rattle.policy.proofs.Lengths.{non_self_issued, counts_one}
use Rattle.policy.proofs.Chains.{after_yes, all_between, leaf_sound}

-- one of n, which are no more than most, in their row and in their list
module _ (most n : ℕ) (few : n ≤ most) (i : ℕ) (h : i < n) where
  in_row : (test : ℕ → Bool) → n ≤ 64 → has i (row_of test (size_of most n)) ≡ test i
  in_row test k = rw (size_is most n few, has-row test n i k, lt-ltb i n h)

  in_list : (f : ℕ → ℕ) → get_or (listing most (size_of most n) f) i 0 ≡ f i
  in_list f = rw (size_is most n few, listing-there f most n i h)

not_counted : (b : Bool) → ◌≡◌ {A = ℕ} (cond (not b) 1 0) (cond b 0 1)
not_counted true = refl
not_counted false = refl

module _ (s : List ℕ) (c : Card) (e : ℕ) (t : CardRead s c e) (time : Time) where
  abbrev place : ℕ → Certificate
  place i = certificate_at (content_of c s) (bundled i)

  bundle_most_lem : c.bundle.count ≤ bundle_most
  bundle_most_lem = count-few bundle_most s _ _ _ t.bundle

  roots_most_lem : c.roots.count ≤ roots_most
  roots_most_lem = count-few roots_most s _ _ _ t.roots

  -- ---- those between

  sound_read : (i : ℕ) → i < c.bundle.count → has i (sound_places s time c.bundle) ≡ between_sound time (place i)
  unfolding sound_places
  sound_read i h =
      let few = bundle_most_lem in
      in_row bundle_most _ few i h (λ j. between_sound time (place_of s c.bundle j)) (omega arith) ∙ sym (ap (between_sound time) (bundled-is s c e t i h))

  limits_read : (i : ℕ) → i < c.bundle.count → get_or (place_limits s c.bundle) i 0 ≡ limit_of (place i)
  unfolding place_limits
  limits_read i h = in_list bundle_most _ bundle_most_lem i h (λ j. limit_of (place_of s c.bundle j)) ∙ sym (ap limit_of (bundled-is s c e t i h))

  stands_read : (k i : ℕ) → i < c.bundle.count → k ≤ 255
      → (ltb i bundle_most && stands (sound_places s time c.bundle) (place_limits s c.bundle) k i) ≡ (between_sound time (place i) && allows k (place i))
  unfolding stands
  stands_read k i h f =
      let few = bundle_most_lem in
      rw (lt-ltb i bundle_most (omega arith), sound_read i h, limits_read i h, limit_allows k (place i) f)

  abbrev counted : ℕ
  counted = counted_places s (sound_places s time c.bundle) c.bundle

  -- what a sound place adds
  adds_read : (i : ℕ) → i < c.bundle.count → between_sound time (place i) ≡ true → adds counted i ≡ counts (place i)
  unfolding counted_places
  adds_read i h sound =
      let few = bundle_most_lem in
      let counts-here : has i counted ≡ not (self_issued (place i)) =
      in_row bundle_most _ few i h (λ j. has j (sound_places s time c.bundle) && not (self_issued_at s (record_of c.bundle.count c.bundle.records j))) (omega arith)
      ∙ rw (sound_read i h, sound, self_issued_read s c e t i h) in
      ap (λ b. cond b 1 0) counts-here ∙ not_counted (self_issued (place i))

  pub all_stand_read : (k : ℕ) (l : List ℕ) → ((i : ℕ) → i among l → i < c.bundle.count) → k + length l ≤ 256
      → all_stand (sound_places s time c.bundle) (place_limits s c.bundle) counted k l ≡ all_between time k (map place l)
  unfolding all_stand all_between
  all_stand_read k [] h f = refl
  all_stand_read k (i ∷ l) h f =
      let inside = h i (here refl) in
      let one = counts_one (place i) in
      ap₂ ◌&&◌ (stands_read k i inside (omega arith)) refl
      ∙ after_yes (between_sound time (place i) && allows k (place i)) _ _ (λ yes.
      ap (λ n. all_stand (sound_places s time c.bundle) (place_limits s c.bundle) counted (k + n) l)
      (adds_read i inside ((both_true (between_sound time (place i)) (allows k (place i))).0 yes).0)
      ∙ all_stand_read (k + counts (place i)) l (λ j m. h j (there m)) (omega arith))

  -- how many of these places count, where each may stand
  pub counting_read : (k : ℕ) (l : List ℕ) → ((i : ℕ) → i among l → i < c.bundle.count) → all_between time k (map place l) ≡ true
      → counting counted k l ≡ k + non_self_issued (map place l)
  unfolding counting all_between non_self_issued
  counting_read k [] h b = omega arith
  counting_read k (i ∷ l) h b =
      let p = (both_true (between_sound time (place i) && allows k (place i)) (all_between time (k + counts (place i)) (map place l))).0 b in
      let sound = ((both_true (between_sound time (place i)) (allows k (place i))).0 p.0).0 in
      let rest = counting_read (k + counts (place i)) l (λ j m. h j (there m)) p.1 in
      let z : k + counts (place i) + non_self_issued (map place l) ≡ k + non_self_issued (map place (i ∷ l)) = omega arith in
      ap (λ n. counting counted (k + n) l) (adds_read i (h i (here refl)) sound) ∙ rest ∙ z

  -- ---- the roots

  abbrev top : ℕ → Certificate
  top r = certificate_at (content_of c s) (root r)

  tops_read : (asked r : ℕ) → r < c.roots.count → has r asked ≡ true → has r (sound_roots s time asked c.roots) ≡ top_sound time (top r)
  unfolding sound_roots
  tops_read asked r h a =
      let few = roots_most_lem in
      in_row roots_most _ few r h (λ i. has i asked && top_sound time (root_of s c.roots i)) (omega arith) ∙ rw (a, root_is s c e t r h)

  top_limits_read : (asked r : ℕ) → r < c.roots.count → has r asked ≡ true → get_or (root_limits s asked c.roots) r 0 ≡ limit_of (top r)
  unfolding root_limits
  top_limits_read asked r h a = in_list roots_most _ roots_most_lem r h (λ i. cond (has i asked) (limit_of (root_of s c.roots i)) 0) ∙ rw (a, root_is s c e t r h)

  pub top_read : (asked k r : ℕ) → r < c.roots.count → has r asked ≡ true → k ≤ 255
      → stands (sound_roots s time asked c.roots) (root_limits s asked c.roots) k r ≡ (top_sound time (top r) && allows k (top r))
  unfolding stands
  top_read asked k r h a f = rw (tops_read asked r h a, top_limits_read asked r h a, limit_allows k (top r) f)

  -- ---- the leaf

  leaf_read : (i : ℕ) → i < c.bundle.count → leaf_sound_at s time (content_of c s).host (record_of c.bundle.count c.bundle.records i)
      ≡ leaf_sound time (content_of c s).host (place i)
  unfolding leaf_sound_at leaf_sound
  leaf_read i h =
      let r = bundled-stands s c e t i h in
      rw (for_servers_read s _ _ r.read, for_host_read s _ _ r.read (content_of c s).host, bundled-is s c e t i h)

  pub leaves_read : (i : ℕ) → i < c.bundle.count
      → has i (sound_leaves s time (bytes_of c.task.host.name s) c.bundle) ≡ leaf_sound time (content_of c s).host (place i)
  unfolding sound_leaves content_of
  leaves_read i h =
      let few = bundle_most_lem in
      in_row bundle_most _ few i h (λ j. leaf_sound_at s time (bytes_of c.task.host.name s) (record_of c.bundle.count c.bundle.records j)) (omega arith) ∙ leaf_read i h
