-- Two names that were read are the same by their bytes or by their parts exactly where they are the same (`spans_read`, for
-- issuing/proofs/Agrees.antt); `bytes_same` and `bytes_differ` are the answers of `same_names`. By bytes or parts: `same_names` of
-- specs/Answers.antt; that the same bytes are the same name: names/proofs/Alike.antt.
use Prim.Native.Nat.{ℕ, ◌≤◌}
use mathlib.Core.Path.{◌≡◌, refl, sym, ap, ◌∙◌}
use mathlib.Core.Bool.{Bool, true, false, ◌||◌}
use mathlib.Core.List.{List}
use lib.ListN.{length}
use Rattle.text.specs.Bytes.{same}
use Rattle.text.proofs.Same.{same_sound}
use Rattle.fields.specs.Fields.{got}
use Rattle.fields.specs.Spans.{bytes_of}
use Rattle.fields.specs.declared.string.Span.{Span}
use Rattle.names.specs.Names.{Attr, name_p}
use Rattle.names.proofs.Alike.{bytes_alike}
use Rattle.same.specs.Same.{same_dn}
use Rattle.same.specs.Answers.{both_read, same_names}
use Rattle.same.proofs.Itself.{dn_refl}

-- ---- the answers

module _ (n : Bool) (a b : Span) (s : List ℕ) where
  pub bytes_same : same (bytes_of a s) (bytes_of b s) ≡ true → true ≡ same_names n a b s
  unfolding same_names
  bytes_same h = rw h

  pub bytes_differ : (r : Bool) → same (bytes_of a s) (bytes_of b s) ≡ false
      → r ≡ both_read (same_dn n) (name_p s a.start) (name_p s b.start) → r ≡ same_names n a b s
  unfolding same_names
  bytes_differ r h k = rw h k

-- ---- two names

module _ (n : Bool) (s : List ℕ) (a b : Span) (x y : List (List Attr)) (h : name_p s a.start ≡ got x a.end) (k : name_p s b.start ≡ got y b.end)
    (l : a.end ≤ length s) (m : b.end ≤ length s)
  where
    pub spans_read : same_names n a b s ≡ same_dn n x y
    unfolding same_names
    spans_read = rw (h, k) (by_bytes (same (bytes_of a s) (bytes_of b s)) refl)
      where
        by_bytes : (q : Bool) → same (bytes_of a s) (bytes_of b s) ≡ q → (q || same_dn n x y) ≡ same_dn n x y
        by_bytes true e =
            let z = bytes_alike s a.start b.start x y a.end b.end h k l m (same_sound _ _ e) in
            sym (ap (same_dn n x) (sym z) ∙ dn_refl n x)
        by_bytes false e = refl
