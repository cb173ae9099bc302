-- Upstream's tests of a name under the star (`star_upstream`), and that no domain is one (`bare_domain`); what `match_name` comes to under
-- each test of `match_lowering`, of strings that are lowered where that is asked. Definitions: specs/Wildcard.antt; a name under a domain:
-- Label.antt; strings lowered: Lowering.antt.
use Prim.Native.Nat.{ℕ, suc, ◌-◌, ◌<◌, ◌≤◌}
use mathlib.Core.Path.{◌≡◌, refl, sym, ap, ◌∙◌}
use mathlib.Core.Bool.{Bool, true, false, not, ◌&&◌, and-false}
use mathlib.Core.List.{List, [], ◌∷◌, ◌++◌}
use native.Mathlib.Omega.{arith}
use lib.ListN.{length, take, drop, length-map, length-drop, take-append-drop}
use lib.Dec.{leb, ltb, eqb}
use borrow.Author.Tests.{lt-ltb, le-ltb, le-leb}
use Rattle.std.specs.List as list
use Rattle.std.proofs.lemmas.Bool.Decides.{nat_tests}
use Rattle.std.proofs.lemmas.List.{take-map, drop-map}
use Rattle.text.specs.Bytes.{same, starts_with}
use Rattle.text.specs.Private.{lowered_if, has_byte}
use Rattle.text.specs.Wildcard.{star_dot, under_domain, match_name}
use Rattle.text.proofs.Each.{both_true}
use Rattle.text.proofs.Same.{same_sound}
use Rattle.text.proofs.Label.{under_domain_lem}
use Rattle.text.proofs.Lowering.{low, low_dot, low_star}

-- what std answers of a pattern and "*."
starts_std : (pattern : List ℕ) → list.starts_with eqb pattern star_dot ≡ starts_with pattern star_dot
unfolding starts_with same
starts_std [] = refl
starts_std (x ∷ []) = and-false (eqb 42 x)
starts_std (x ∷ y ∷ l) = grind (arith, nat_tests)

pub asked_star : (pattern : List ℕ) {r t : Bool} → r ≡ list.starts_with eqb pattern star_dot → r ≡ t → starts_with pattern star_dot ≡ t
asked_star pattern e f = sym (starts_std pattern) ∙ sym e ∙ f

-- after "*." stands the domain, and after the star a dot and the domain
star_dot_lem : (pattern : List ℕ) → starts_with pattern star_dot ≡ true → drop 1 pattern ≡ 46 ∷ drop 2 pattern
unfolding starts_with
star_dot_lem pattern e =
    let t : take 2 pattern ≡ star_dot = same_sound _ _ ((both_true (leb 2 (length pattern)) _).0 e).1 in
    ap (drop 1) (sym (take-append-drop 2 pattern) ∙ ap (λ (r : List ℕ). r ++ drop 2 pattern) t)

-- upstream's tests of a label before what follows the star: the name is longer than that, ends with it, and has no dot before it
abbrev pub label_upstream : List ℕ → List ℕ → Bool
label_upstream pattern name =
    ltb (length pattern - 1) (length name)
    && same (drop (length name - (length pattern - 1)) name) (drop 1 pattern)
    && not (has_byte 46 (take (length name - (length pattern - 1)) name))

pub star_upstream : (pattern name : List ℕ) → starts_with pattern star_dot ≡ true
    → under_domain (drop 2 pattern) name ≡ label_upstream pattern name
star_upstream pattern name e =
    let d : drop 1 pattern ≡ 46 ∷ drop 2 pattern = star_dot_lem pattern e in
    let n : length pattern - 1 ≡ suc (length (drop 2 pattern)) = sym (length-drop 1 pattern) ∙ ap length d in
    rw (n, d) (under_domain_lem (drop 2 pattern) name)

-- no domain is under its own star, where upstream's `match_name` lets every domain but the empty one be
pub bare_domain : (domain : List ℕ) → match_name (star_dot ++ domain) domain ≡ false
unfolding match_name starts_with same
bare_domain domain =
    let s : starts_with (star_dot ++ domain) star_dot ≡ true = rw (le-leb 2 (suc (suc (length domain))) (omega arith)) in
    rw (s, under_domain_lem domain domain, le-ltb (suc (length domain)) (length domain) (omega arith), and-false)

module _ (t : Bool) (pattern name : List ℕ) where
  pub plain : starts_with pattern star_dot ≡ false → match_name (low t pattern) (low t name) ≡ same (low t pattern) (low t name)
  unfolding match_name
  plain e = rw (low_star t pattern, e)

  module _ (star : starts_with pattern star_dot ≡ true) where
    pub bare : length pattern ≤ 2 → match_name (low t pattern) (low t name) ≡ false
    unfolding match_name
    bare h = rw (low_star t pattern, star, length-map, le-ltb _ _ h)

    module _ (more : 2 < length pattern) where
      under : match_name (low t pattern) (low t name) ≡ under_domain (drop 2 (low t pattern)) (low t name)
      unfolding match_name
      under = rw (low_star t pattern, star, length-map, lt-ltb _ _ more)

      -- the tests of `match_lowering` where the star stands for a label
      tests : match_name (low t pattern) (low t name)
          ≡ ltb (length pattern - 1) (length name)
          && same (low t (drop (length name - (length pattern - 1)) name)) (low t (drop 1 pattern))
          && not (has_byte 46 (take (length name - (length pattern - 1)) name))
      tests =
          let p : length (low t pattern) ≡ length pattern = simp length-map in
          let n : length (low t name) ≡ length name = simp length-map in
          under ∙ star_upstream (low t pattern) (low t name) (low_star t pattern ∙ star) ∙ rw (p, n, drop-map (lowered_if t) _ name, drop-map (lowered_if t) 1 pattern, take-map, low_dot)

      pub short : length name ≤ length pattern - 1 → match_name (low t pattern) (low t name) ≡ false
      short h = tests ∙ rw (le-ltb _ _ h)

      module _ (suffix : List ℕ) (is : suffix ≡ drop 1 pattern) where
        long : length suffix ≡ length pattern - 1
        long = ap length is ∙ length-drop 1 pattern

        pub labelled : length pattern - 1 < length name → match_name (low t pattern) (low t name)
            ≡ same (low t (drop (length name - length suffix) name)) (low t suffix) && not (has_byte 46 (take (length name - length suffix) name))
        labelled h = rw (long, is) (tests ∙ rw (lt-ltb _ _ h))
