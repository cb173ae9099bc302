-- The policy by where a certificate stands: what a chain is asked rule by rule is what its leaf, each certificate between and its root are
-- asked (`policy_by_seat`), for SeatsRead.antt and Qualified.antt. The policy: specs/Policy.antt; what is asked by where one stands:
-- specs/Sound.antt; the rule on path lengths alone: Lengths.antt.
use Prim.Native.Nat.{ℕ, ◌+◌}
use mathlib.Core.Path.{◌≡◌, refl, sym}
use mathlib.Core.Bool.{Bool, true, false, ◌&&◌}
use mathlib.Core.List.{List, [], ◌∷◌, ◌++◌}
use native.Mathlib.Omega.{arith}
use Rattle.text.specs.Each.{all}
use Rattle.text.proofs.Each.{both_true}
use Rattle.record.specs.Certificate.{Certificate}
use Rattle.rules.specs.Rules.{in_date, well_formed, handled, authority, allows, for_servers, for_host}
use Rattle.rules.specs.declared.rules.Time.{Time}
use Rattle.policy.specs.Policy.{Chain, counts, path_lengths, policy}
use Rattle.policy.specs.Sound.{between_sound, top_sound}
use Rattle.policy.proofs.Lengths.{non_self_issued, lengths_more, lengths_front, lengths_at}

-- ---- tests that come out true

-- two answers that are a yes in the same cases are the same
same_yes : (a b : Bool) → (a ≡ true → b ≡ true) → (b ≡ true → a ≡ true) → a ≡ b
same_yes true b f g = sym (f refl)
same_yes false true f g = g refl
same_yes false false f g = refl

-- what is asked after a test matters only where the test is a yes
pub after_yes : (t a b : Bool) → (t ≡ true → a ≡ b) → t && a ≡ t && b
after_yes true a b f = f refl
after_yes false a b f = refl

abbrev both : (t u : Bool) → t ≡ true → u ≡ true → t && u ≡ true
both t u h k = (both_true t u).1 (h, k)

abbrev first : (t u : Bool) → t && u ≡ true → t ≡ true
first t u h = ((both_true t u).0 h).0

abbrev second : (t u : Bool) → t && u ≡ true → u ≡ true
second t u h = ((both_true t u).0 h).1

-- ---- a list and one more

module _ (test : Certificate → Bool) (t : Certificate) where
  all_more : (l : List Certificate) → all test l ≡ true → test t ≡ true → all test (l ++ t ∷ []) ≡ true
  all_more [] h k = both (test t) true k refl
  all_more (c ∷ l) h k = both (test c) _ (first (test c) (all test l) h) (all_more l (second (test c) (all test l) h) k)

  all_front : (l : List Certificate) → all test (l ++ t ∷ []) ≡ true → all test l ≡ true
  all_front [] h = refl
  all_front (c ∷ l) h =
      let p = (both_true (test c) (all test (l ++ t ∷ []))).0 h in
      both (test c) (all test l) p.0 (all_front l p.1)

  all-last : (l : List Certificate) → all test (l ++ t ∷ []) ≡ true → test t ≡ true
  all-last [] h = first (test t) true h
  all-last (c ∷ l) h = all-last l (second (test c) (all test (l ++ t ∷ [])) h)

-- ---- those between

-- each is sound, and allows as many as are below it and are not self-issued: below the first of these n are not
unfoldable pub all_between : Time → ℕ → List Certificate → Bool
all_between time n [] = true
all_between time n (c ∷ l) = between_sound time c && allows n c && all_between time (n + counts c) l

record Between (time : Time) (n : ℕ) (l : List Certificate) : Type 0 where
  dates : all (in_date time) l ≡ true
  forms : all well_formed l ≡ true
  handles : all handled l ≡ true
  authorities : all authority l ≡ true
  lengths : path_lengths n l ≡ true

module _ (time : Time) where
  between-told : (n : ℕ) (l : List Certificate) → all_between time n l ≡ true → Between time n l
  unfolding all_between between_sound path_lengths
  between-told n [] h = record { dates = refl; forms = refl; handles = refl; authorities = refl; lengths = refl }
  between-told n (c ∷ l) h =
      let p = (both_true (between_sound time c && allows n c) (all_between time (n + counts c) l)).0 h in
      let q = (both_true (between_sound time c) (allows n c)).0 p.0 in
      let u = (both_true (in_date time c && well_formed c && handled c) (authority c)).0 q.0 in
      let v = (both_true (in_date time c && well_formed c) (handled c)).0 u.0 in
      let w = (both_true (in_date time c) (well_formed c)).0 v.0 in
      let r = between-told (n + counts c) l p.1 in
      record {
        dates = both (in_date time c) _ w.0 r.dates;
        forms = both (well_formed c) _ w.1 r.forms;
        handles = both (handled c) _ v.1 r.handles;
        authorities = both (authority c) _ u.1 r.authorities;
        lengths = both (allows n c) _ q.1 r.lengths;
      }

  between-tells : (n : ℕ) (l : List Certificate) → Between time n l → all_between time n l ≡ true
  unfolding all_between between_sound path_lengths
  between-tells n [] h = refl
  between-tells n (c ∷ l) h =
      let d = (both_true (in_date time c) (all (in_date time) l)).0 h.dates in
      let f = (both_true (well_formed c) (all well_formed l)).0 h.forms in
      let k = (both_true (handled c) (all handled l)).0 h.handles in
      let a = (both_true (authority c) (all authority l)).0 h.authorities in
      let p = (both_true (allows n c) (path_lengths (n + counts c) l)).0 h.lengths in
      let rest : Between time (n + counts c) l = record { dates = d.1; forms = f.1; handles = k.1; authorities = a.1; lengths = p.1 } in
      let sound : between_sound time c ≡ true =
      both _ (authority c) (both _ (handled c) (both (in_date time c) (well_formed c) d.0 f.0) k.0) a.0 in
      both _ (all_between time (n + counts c) l) (both (between_sound time c) (allows n c) sound p.0) (between-tells (n + counts c) l rest)

-- ---- the chain

-- all that is asked of the leaf
unfoldable pub leaf_sound : Time → List ℕ → Certificate → Bool
leaf_sound time host c = in_date time c && well_formed c && handled c && for_servers c && for_host host c

-- leaf, those between, and the root, which allows as many as are not self-issued between it and the leaf
unfoldable pub by_seat : Time → List ℕ → Chain → Bool
by_seat time host ch =
    leaf_sound time host ch.leaf
    && all_between time 0 ch.between
    && (top_sound time ch.top && allows (non_self_issued ch.between) ch.top)

module _ (time : Time) (host : List ℕ) (leaf : Certificate) (between : List Certificate) (top : Certificate) where
  abbrev chain : Chain
  chain = record { leaf = leaf; between = between; top = top }

  abbrev above : List Certificate
  above = between ++ top ∷ []

  -- the rules on the chain, in their order
  abbrev D : Bool
  D = all (in_date time) (leaf ∷ above)

  abbrev W : Bool
  W = all well_formed (leaf ∷ between)

  abbrev H : Bool
  H = all handled (leaf ∷ above)

  abbrev A : Bool
  A = all authority above

  abbrev L : Bool
  L = path_lengths 0 above

  seats-told : policy time host chain ≡ true → by_seat time host chain ≡ true
  unfolding policy by_seat leaf_sound top_sound
  seats-told h =
      let none : 0 + non_self_issued between ≡ non_self_issued between = omega arith in
      let host-asked = (both_true (D && W && H && A && L && for_servers leaf) (for_host host leaf)).0 h in
      let usages = (both_true (D && W && H && A && L) (for_servers leaf)).0 host-asked.0 in
      let lengths = (both_true (D && W && H && A) L).0 usages.0 in
      let authorities = (both_true (D && W && H) A).0 lengths.0 in
      let handles = (both_true (D && W) H).0 authorities.0 in
      let forms = (both_true D W).0 handles.0 in
      let d = (both_true (in_date time leaf) (all (in_date time) above)).0 forms.0 in
      let w = (both_true (well_formed leaf) (all well_formed between)).0 forms.1 in
      let k = (both_true (handled leaf) (all handled above)).0 handles.1 in
      let asked : Between time 0 between =
      record {
        dates = all_front (in_date time) top between d.1;
        forms = w.1;
        handles = all_front handled top between k.1;
        authorities = all_front authority top between authorities.1;
        lengths = lengths_front top 0 between lengths.1;
      } in
      let leaf-sound : leaf_sound time host leaf ≡ true =
      both _ (for_host host leaf) (both _ (for_servers leaf) (both _ (handled leaf) (both (in_date time leaf) (well_formed leaf) d.0 w.0) k.0) usages.1) host-asked.1 in
      let top_sound : top_sound time top ≡ true =
      both _ (authority top) (both (in_date time top) (handled top) (all-last (in_date time) top between d.1) (all-last handled top between k.1)) (all-last authority top between authorities.1) in
      both _ _ (both _ _ leaf-sound (between-tells time 0 between asked)) (both _ _ top_sound (rw (← none) (lengths_at top 0 between [] lengths.1)))

  seats_tell : by_seat time host chain ≡ true → policy time host chain ≡ true
  unfolding policy by_seat leaf_sound top_sound
  seats_tell h =
      let none : 0 + non_self_issued between ≡ non_self_issued between = omega arith in
      let x = (both_true (leaf_sound time host leaf && all_between time 0 between) (top_sound time top && allows (non_self_issued between) top)).0 h in
      let y = (both_true (leaf_sound time host leaf) (all_between time 0 between)).0 x.0 in
      let z = (both_true (top_sound time top) (allows (non_self_issued between) top)).0 x.1 in
      let u = (both_true (in_date time top && handled top) (authority top)).0 z.0 in
      let v = (both_true (in_date time top) (handled top)).0 u.0 in
      let host-asked = (both_true (in_date time leaf && well_formed leaf && handled leaf && for_servers leaf) (for_host host leaf)).0 y.0 in
      let usages = (both_true (in_date time leaf && well_formed leaf && handled leaf) (for_servers leaf)).0 host-asked.0 in
      let handles = (both_true (in_date time leaf && well_formed leaf) (handled leaf)).0 usages.0 in
      let forms = (both_true (in_date time leaf) (well_formed leaf)).0 handles.0 in
      let b = between-told time 0 between y.1 in
      let d : D ≡ true = both (in_date time leaf) _ forms.0 (all_more (in_date time) top between b.dates v.0) in
      let w : W ≡ true = both (well_formed leaf) _ forms.1 b.forms in
      let k : H ≡ true = both (handled leaf) _ handles.1 (all_more handled top between b.handles v.1) in
      let a : A ≡ true = all_more authority top between b.authorities u.1 in
      let l : L ≡ true = lengths_more top 0 between b.lengths (rw none z.1) in
      both _ _ (both _ _ (both _ _ (both _ _ (both _ _ (both _ _ d w) k) a) l) usages.1) host-asked.1

  pub policy_by_seat : policy time host chain ≡ by_seat time host chain
  policy_by_seat = same_yes (policy time host chain) (by_seat time host chain) seats-told seats_tell
