-- What lies in the records: paths and zeros put in the next one (`set_next`, `zeroed_more`), paths on paths (`stacked-append`,
-- `length-stacked`), and more paths laid (`laid_none`, `laid_more`, `length-laid`, `take-laid`, `drop-laid`). What lies there: specs/Stacked.antt.
use mathlib.Core.List.{List, [], ◌∷◌, ◌++◌, append_assoc, append-nil}
use mathlib.Core.Path.{◌≡◌, refl, sym, ap, ◌∙◌}
use Prim.Native.Nat.{ℕ, ◌+◌, ◌-◌, ◌≤◌, ◌<◌}
use native.Mathlib.Omega.{arith}
use lib.ListN.{length, take, drop, get_or, set, replicate, length-append, length-drop, length-replicate, take-append-drop}
use lib.Seq.{set_at, length-take-le, take_at, drop_at, drop-drop}
use Rattle.std.proofs.lemmas.List.{drop_more}
use Rattle.std.proofs.lemmas.Grind.{replicate_next}
use Rattle.reply.specs.Answer.{path_shown}
use Rattle.reply.specs.declared.path.Path.{Path}
use Rattle.stack.specs.Stacked.{blank, stacked, laid}

pub length-stacked : (vs : List (List ℕ)) → length (stacked vs) ≡ length vs
unfolding stacked
length-stacked [] = refl
length-stacked (p ∷ vs) = rw (length-append (stacked vs) (path_shown p ∷ []), length-stacked vs) (omega arith)

pub stacked-append : (vs ws : List (List ℕ)) → stacked (vs ++ ws) ≡ stacked ws ++ stacked vs
unfolding stacked
stacked-append [] ws = sym (append-nil (stacked ws))
stacked-append (p ∷ vs) ws = rw (stacked-append vs ws) (append_assoc (stacked ws) (stacked vs) (path_shown p ∷ []))

-- the next of the rest is set
pub set_next : (xs : List Path) (k : ℕ) (ys : List Path) (x : Path) → {i : ℕ} → i ≡ length xs → k < length ys → set (xs ++ drop k ys) i x ≡ (xs ++ (x ∷ [])) ++ drop (k + 1) ys
set_next xs k ys x {i} e h =
    ap (λ (r : List Path). set (xs ++ r) i x) (drop_more ys k blank h)
    ∙ set_at xs (get_or ys k blank) (drop (k + 1) ys) x i (sym e)
    ∙ sym (append_assoc xs (x ∷ []) (drop (k + 1) ys))

pub zeroed_more : (i : ℕ) (ys : List Path) → i < length ys → set (replicate i blank ++ drop i ys) i blank ≡ replicate (i + 1) blank ++ drop (i + 1) ys
zeroed_more i ys h = rw replicate_next (set_next (replicate i blank) i ys blank (sym (length-replicate i blank)) h)

module _ (at : ℕ) (l : List Path) where
  pub laid_none : l ≡ laid at [] l
  unfolding stacked
  laid_none =
      let none : at + 0 ≡ at = omega arith in
      rw none (sym (take-append-drop at l))

  module _ (vs : List (List ℕ)) (room : at + length vs ≤ length l) where
    front : length (take at l ++ stacked vs) ≡ at + length vs
    front = length-append (take at l) (stacked vs) ∙ omega (arith, length-take-le at l (omega arith), length-stacked vs)

    laid_split : laid at vs l ≡ (take at l ++ stacked vs) ++ drop (at + length vs) l
    laid_split = sym (append_assoc (take at l) (stacked vs) (drop (at + length vs) l))

    pub length-laid : length (laid at vs l) ≡ length l
    length-laid =
        ap length laid_split ∙ length-append (take at l ++ stacked vs) (drop (at + length vs) l)
        ∙ omega (arith, front, length-drop (at + length vs) l)

    -- what is under and on top of them, and what lies past them
    pub take-laid : take (at + length vs) (laid at vs l) ≡ take at l ++ stacked vs
    take-laid = ap (take (at + length vs)) laid_split ∙ take_at (take at l ++ stacked vs) (drop (at + length vs) l) (at + length vs) front

    pub drop-laid : (s : ℕ) → at + length vs ≤ s → drop s (laid at vs l) ≡ drop s l
    drop-laid s h =
        let k : ℕ = at + length vs in
        let on : k + (s - k) ≡ s = omega arith in
        rw (← on) (sym (drop-drop (s - k) k (laid at vs l))
        ∙ ap (drop (s - k)) (ap (drop k) laid_split ∙ drop_at (take at l ++ stacked vs) (drop k l) k front)
        ∙ drop-drop (s - k) k l)

  pub laid_more : (vs : List (List ℕ)) (p : List ℕ) → at + length vs < length l → set (laid at vs l) (at + length vs) (path_shown p) ≡ laid at (p ∷ vs) l
  unfolding stacked
  laid_more vs p h =
      let next : at + length vs + 1 ≡ at + length (p ∷ vs) = omega arith in
      ap (λ (r : List Path). set r (at + length vs) (path_shown p)) (sym (append_assoc (take at l) (stacked vs) (drop (at + length vs) l)))
      ∙ set_next (take at l ++ stacked vs) (at + length vs) l (path_shown p) (sym (front vs (omega arith))) h
      ∙ ap (λ (k : ℕ). ((take at l ++ stacked vs) ++ (path_shown p ∷ [])) ++ drop k l) next
      ∙ ap (λ (r : List Path). r ++ drop (at + length (p ∷ vs)) l) (append_assoc (take at l) (stacked vs) (path_shown p ∷ []))
      ∙ append_assoc (take at l) (stacked vs ++ (path_shown p ∷ [])) (drop (at + length (p ∷ vs)) l)
