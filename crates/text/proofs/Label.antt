-- A name under a domain as upstream's `match_name` asks it, and `match_lowering` with it: the name is longer than a dot and the domain,
-- ends with them, and what stands before has no dot. `under_domain_lem` says that this is `under_domain` of specs/Wildcard.antt. The star:
-- Star.antt.
use Prim.Native.Nat.{ℕ, suc, ◌-◌, ◌<◌}
use mathlib.Core.Path.{◌≡◌, refl, sym, ap, ◌∙◌}
use mathlib.Core.Bool.{Bool, true, false, cond, not, ◌&&◌, ◌||◌, false≢true}
use mathlib.Core.List.{List, [], ◌∷◌, ◌++◌}
use native.Mathlib.Omega.{arith}
use lib.ListN.{length, take, drop, length-drop, take-append-drop}
use lib.Seq.{length-take-le}
use lib.Dec.{ltb, eqb}
use borrow.Author.Tests.{lt-ltb, ltb-true, not-true}
use Rattle.text.specs.Bytes.{same}
use Rattle.text.specs.Private.{has_byte}
use Rattle.text.specs.Wildcard.{label, under_domain}
use Rattle.text.proofs.Each.{both_true}
use Rattle.text.proofs.Same.{same_sound, same_refl}

-- ---- the bytes before the first dot

label-take : (l : List ℕ) → take (length (label l)) l ≡ label l
unfolding label
label-take [] = refl
label-take (b ∷ l) = go (label-take l) (eqb b 46) where
  go : take (length (label l)) l ≡ label l → (t : Bool) → take (length (cond t [] (b ∷ label l))) (b ∷ l) ≡ cond t [] (b ∷ label l)
  go more true = refl
  go more false = rw more

label_no_dot : (l : List ℕ) → has_byte 46 (label l) ≡ false
unfolding label
label_no_dot [] = refl
label_no_dot (b ∷ l) = go (label_no_dot l) (eqb b 46) refl where
  go : has_byte 46 (label l) ≡ false → (t : Bool) → eqb b 46 ≡ t → has_byte 46 (cond t [] (b ∷ label l)) ≡ false
  go more true e = refl
  go more false e = rw (e, more)

label-append : (l r : List ℕ) → has_byte 46 l ≡ false → label (l ++ 46 ∷ r) ≡ l
unfolding label
label-append [] r e = refl
label-append (b ∷ l) r e = go (label-append l r) (eqb b 46) e where
  go : (has_byte 46 l ≡ false → label (l ++ 46 ∷ r) ≡ l) → (t : Bool) → (t || has_byte 46 l) ≡ false → cond t [] (b ∷ label (l ++ 46 ∷ r)) ≡ b ∷ l
  go more true e = absurd (false≢true (sym e))
  go more false e = rw (more e)

-- ---- a label, a dot and the domain

module _ (domain name : List ℕ) where
  abbrev k : ℕ
  k = length name - suc (length domain)

  abbrev ends : Bool
  ends = ltb (suc (length domain)) (length name) && same (drop k name) (46 ∷ domain) && not (has_byte 46 (take k name))

  ends_so : under_domain domain name ≡ true → ends ≡ true
  unfolding under_domain
  ends_so e =
      let h = (both_true _ _).0 e in
      let d : drop (length (label name)) name ≡ 46 ∷ domain = same_sound _ _ h.1 in
      let p : 0 < length (label name) = ltb-true _ _ h.0 in
      let n : length name - length (label name) ≡ suc (length domain) = sym (length-drop _ name) ∙ ap length d in
      let q : k ≡ length (label name) = omega arith in
      rw (lt-ltb (suc (length domain)) (length name) (omega arith), q, d, same_refl, label-take, label_no_dot)

  under_so : ends ≡ true → under_domain domain name ≡ true
  unfolding under_domain
  under_so e =
      let h = (both_true _ _).0 e in
      let g = (both_true _ _).0 h.0 in
      let m : suc (length domain) < length name = ltb-true _ _ g.0 in
      let d : drop k name ≡ 46 ∷ domain = same_sound _ _ g.1 in
      let n : name ≡ take k name ++ 46 ∷ domain = sym (take-append-drop k name) ∙ ap (λ r. take k name ++ r) d in
      let l : label name ≡ take k name = ap label n ∙ label-append (take k name) domain (not-true _ h.1) in
      let c : length (label name) ≡ k = ap length l ∙ length-take-le k name (omega arith) in
      rw (c, lt-ltb 0 k (omega arith), d, same_refl)

  pub under_domain_lem : under_domain domain name ≡ ends
  under_domain_lem = go (under_domain domain name) ends refl refl where
    go : (t u : Bool) → under_domain domain name ≡ t → ends ≡ u → t ≡ u
    go true u p q = sym (ends_so p) ∙ q
    go false true p q = sym p ∙ under_so q
    go false false p q = refl
