-- A path looked through, place by place (`look_none`, `look_more`), for `look_through`; and what that tells of the path: the roots over it
-- (`look_roots`) and the lowest of them (`first_root`), and the places by which it goes on (`look_children`), for `look`. What is looked
-- for: `Looked` of specs/Looks.antt.
use mathlib.Core.Bool.{Bool, true, false, not, ◌&&◌, ◌||◌}
use mathlib.Core.List.{List, [], ◌∷◌}
use mathlib.Core.Path.{◌≡◌, refl, sym, ap, ap₂, ◌∙◌}
use Prim.Native.Nat.{ℕ, ◌^◌, ◌≤◌, ◌<◌}
use native.Mathlib.Omega.{arith}
use borrow.Author.Tests.{eqb-true, eqb-false, ltb-true, ltb-false, le-ltb, lt-ltb}
use lib.Dec.{eqb, ltb}
use lib.ListN.{get_or}
use Rattle.order.specs.Paths.{last}
use Rattle.order.specs.Walk.{used, snoc, kids}
use Rattle.order.proofs.Simple.{last_snoc}
use Rattle.policy.specs.Standing.{begun, added, added_all, over, standing, roots_over}
use Rattle.policy.specs.declared.standing.Standing.{Standing}
use Rattle.policy.proofs.Adding.{standing-more}
use Rattle.question.specs.Question.{places_by}
use Rattle.rows.specs.Rows.{has, joined, left, common, below, lowest}
use Rattle.rows.proofs.Places.{has-none, has-joined, has_left, has_dropped, has-common}
use Rattle.rows.proofs.Upper.{has-below}
use Rattle.steps.specs.Parts.{offered}
use Rattle.steps.proofs.Levels.{and_yes, but_either, offered-kids}
use Rattle.steps.proofs.Paths.{used-snoc}
use Rattle.steps.specs.Parts.{roots_seated}
use Rattle.steps.proofs.Least.{row-found, row-none}
use Rattle.stack.specs.Looks.{Looked, FirstRoot}
use Rattle.std.specs.Bool.{then_some}
use Rattle.stack.specs.Stacked.{children}
use Rattle.stack.proofs.Rows.{offered_wide}

-- ---- place by place

module _ {n : ℕ} (few : n ≤ 64) {seats : List ℕ} where
  pub look_none : {free : ℕ} {stood : Standing} → free ≡ below n → stood ≡ begun → Looked n seats [] 0 free stood
  unfolding added_all
  look_none e s = record { ends = refl; unused = λ j. ap (has j) e ∙ has-below j n few ∙ sym (and_yes (ltb j n)); stands = s }

  module _ {p : List ℕ} {end free : ℕ} {stood : Standing} (L : Looked n seats p end free stood) (i : ℕ) where
    unused-more : (j : ℕ) → has j (left free (joined 0 i)) ≡ ltb j n && not (used j (snoc p i))
    unused-more j = rw (used-snoc j p i) (go (ltb i 64) refl)
      where
        late : (b : Bool) → eqb j i ≡ b → 64 ≤ i → (ltb j n && not (used j p)) && true ≡ ltb j n && not (used j p || b)
        late true e h = let z : j ≡ i = eqb-true j i e in rw (le-ltb j n (omega arith))
        late false e h = rw (and_yes (ltb j n && not (used j p))) (same (ltb j n) (used j p))
          where
            same : (x y : Bool) → x && not y ≡ x && not (y || false)
            same true true = refl
            same true false = refl
            same false y = refl

        go : (b : Bool) → ltb i 64 ≡ b → has j (left free (joined 0 i)) ≡ ltb j n && not (used j p || eqb j i)
        go true e = has_dropped free i (ltb-true i 64 e) j ∙ rw (L.unused j) (but_either (ltb j n) (used j p) (eqb j i))
        go false e =
            let none : has j (joined 0 i) ≡ false = has-joined j 0 i ∙ rw (has-none j, e) in
            has_left j free (joined 0 i) ∙ rw (none, L.unused j) (late (eqb j i) refl (ltb-false i 64 e))

    pub look_more : {free' : ℕ} {stood' : Standing} → free' ≡ left free (joined 0 i) → stood' ≡ added seats stood i → Looked n seats (snoc p i) i free' stood'
    look_more e s = record {
      ends = sym (last_snoc 0 p i);
      unused = λ j. ap (has j) e ∙ unused-more j;
      stands = s ∙ rw L.stands (sym (standing-more seats p i));
    }

-- ---- what it tells

module _ {n : ℕ} {seats p : List ℕ} {end free : ℕ} {stood : Standing} (L : Looked n seats p end free stood) where
  -- the roots over a path that begins with the leaf
  pub look_roots : {r : List ℕ} → p ≡ 0 ∷ r → (roots : List ℕ) {tops : ℕ} → tops ≡ common (over seats stood) (get_or roots end 0) → tops ≡ roots_over roots seats p
  unfolding roots_over
  look_roots {r} e roots t =
      let ends : end ≡ last 0 r = L.ends ∙ ap (last 0) e in
      let stands : stood ≡ standing seats (0 ∷ r) = L.stands ∙ ap (standing seats) e in
      t ∙ rw (e, ends, stands)

  -- the places by which it goes on
  module _ (rows : List ℕ) {next : ℕ} (is : next ≡ common free (get_or rows end 0)) where
    next-has : (j : ℕ) → has j next ≡ (ltb j n && not (used j p)) && has j (get_or rows (last 0 p) 0)
    next-has j = ap (has j) is ∙ has-common j free (get_or rows end 0) ∙ ap₂ ◌&&◌ (L.unused j) (ap (λ (e : ℕ). has j (get_or rows e 0)) L.ends)

    look_within : (j : ℕ) → n ≤ j → has j next ≡ false
    look_within j h = next-has j ∙ rw (le-ltb j n h)

    look_kids : offered n next p ≡ kids (places_by rows n) p
    look_kids = offered-kids (places_by rows n) next p (λ j h. next-has j ∙ rw (lt-ltb j n h))

    pub look_children : n ≤ 64 → children next p ≡ kids (places_by rows n) p
    look_children few = offered_wide 64 n next p few look_within ∙ look_kids

-- the lowest root, where there is one
pub first_root : (issued seats p : List ℕ) {tops : ℕ} → tops ≡ roots_over issued seats p → tops < 2 ^ 64
    → FirstRoot (roots_seated issued seats) p (then_some (not (eqb tops 0)) (record { 0 = lowest tops }))
first_root issued seats p {tops} is fits = go (eqb tops 0) refl
  where
    go : (t : Bool) → eqb tops 0 ≡ t → FirstRoot (roots_seated issued seats) p (then_some (not t) (record { 0 = lowest tops }))
    go true e = row-none issued seats p is (eqb-true tops 0 e)
    go false e = let some = eqb-false tops 0 e in row-found issued seats p is (omega (arith, some)) fits
