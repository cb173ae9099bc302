-- A path's places behind a line, one by one (`place_behind`), for the loop of `with_places`. How places are written: `spaced` of
-- specs/Lines.antt.
use mathlib.Core.List.{List, [], ◌∷◌, ◌++◌, map, append-nil, append_assoc, map-append}
use mathlib.Core.Path.{◌≡◌, ap, sym, ◌∙◌}
use Prim.Native.Nat.{ℕ, ◌+◌, ◌<◌}
use native.Mathlib.Numerals.{add-one}
use lib.ListN.{length, take, get_or}
use lib.Seq.{take-suc}
use Rattle.places.specs.declared.BundlePlace.{BundlePlace}
use Rattle.reply.specs.Numbers.{placed}
use Rattle.report.specs.Lines.{spaced, number_of}
use Rattle.report.specs.Text.{ascii, decimal}

spaced-snoc : (l : List ℕ) (p : ℕ) → spaced (l ++ (p ∷ [])) ≡ spaced l ++ (ascii " " ++ decimal p)
unfolding spaced
spaced-snoc [] p = append-nil (ascii " " ++ decimal p)
spaced-snoc (q ∷ l) p =
    ap (λ (r : List ℕ). (ascii " " ++ decimal q) ++ r) (spaced-snoc l p) ∙ sym (append_assoc (ascii " " ++ decimal q) (spaced l) (ascii " " ++ decimal p))

-- one place more behind a line
pub place_behind : (l : List ℕ) (places : List BundlePlace) (j : ℕ) → j < length places
    → (l ++ spaced (map number_of (take j places))) ++ (ascii " " ++ decimal (number_of (get_or places j (placed 0)))) ≡ l ++ spaced (map number_of (take (j + 1) places))
place_behind l places j h =
    let p = get_or places j (placed 0) in
    rw (add-one, take-suc places j (placed 0))
    (append_assoc l (spaced (map number_of (take j places))) (ascii " " ++ decimal (number_of p))
    ∙ ap (λ (r : List ℕ). l ++ r)
    (sym (spaced-snoc (map number_of (take j places)) (number_of p)) ∙ ap spaced (sym (map-append number_of (take j places) (p ∷ [])))))
