-- Of two names the first of which has no more RDNs: whether as many RDNs of the second, walked beside the first's, are related
-- (`front_judged`), for the proof of `subtree`. Rows of one length: same/proofs/Walks.antt; what is asked: specs/Subtree.antt.
use Prim.Native.Nat.{ℕ, ◌≤◌}
use mathlib.Core.Path.{◌≡◌, refl, sym, ◌∙◌}
use mathlib.Core.Bool.{Bool, true}
use mathlib.Core.List.{List, [], ◌∷◌}
use native.Mathlib.Omega.{arith}
use lib.ListN.{length, take}
use lib.Dec.{leb}
use borrow.Author.Tests.{le-leb}
use Rattle.std.specs.Prelude.{is_some}
use Rattle.fields.specs.Fields.{Parsed, got, many, counted_p}
use Rattle.fields.proofs.Many.{many_prefix}
use Rattle.same.specs.Same.{places}
use Rattle.same.specs.Walks.{walk}
use Rattle.same.proofs.Walks.{walk_both, tested}
use Rattle.same.proofs.Rows.{Row}

-- what stands past the first list's places does not count
places-take : {A : Type 0} (q : A → A → Bool) (x y : List A) → places q x (take (length x) y) ≡ places q x y
unfolding places
places-take q [] y = refl
places-take q (a ∷ x) [] = refl
places-take q (a ∷ x) (b ∷ y) = rw (places-take q x y)

module _ {A : Type 0} {least most : ℕ} {p : List ℕ → ℕ → Parsed A} {s t : List ℕ} {at bt n f m g : ℕ}
    (x : Row least most p s at n f) (y : Row least most p t bt m g) where
  few : n ≤ m → leb (length x.things) (length y.things) ≡ true
  few h = le-leb (length x.things) (length y.things) (omega (arith, x.count, y.count))

  pub front_judged : (q : A → A → Bool) → n ≤ m
      → is_some (walk (places q) (many p n s f) (many p n t g))
      ≡ is_some (walk (tested leb (places q)) (counted_p least most p s at) (counted_p least most p t bt))
  front_judged q h =
      let front = many_prefix p t n m g y.things y.end h y.read in
      let there : many p n t g ≡ got (take (length x.things) y.things) front.place = rw x.count front.front in
      rw (x.read, there, x.whole, y.whole, few h)
      (walk_both (places q) (got x.things x.end) (got (take (length x.things) y.things) front.place)
      ∙ places-take q x.things y.things
      ∙ sym (walk_both (places q) (got x.things x.end) (got y.things y.end)))
