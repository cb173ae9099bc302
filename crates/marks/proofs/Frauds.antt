-- Frauds of a search that is taken up at a mark: what each would answer, or the mark that it would set, does not satisfy `TakenUp`, whatever
-- the room and the roots. `steps_from_the_beginning` and `a_stray_seven` are on the four certificates of order/proofs/Cases.antt
-- at the path [0], the others at any mark of any places. What is promised: specs/Marked.antt; that something satisfies it: Total.antt;
-- frauds of a search from its beginning: search/proofs/Frauds.antt. Wrong bodies are edits in must-fail/ of steps and stack.
use mathlib.Core.List.{List, [], ◌∷◌, ◌++◌, map}
use mathlib.Core.Logic.{◌≢◌, ◌⊎◌, inl, inr, ⊎_elim}
use mathlib.Core.Path.{◌≡◌, refl, sym, ap, ◌∙◌}
use Prim.Native.Nat.{ℕ, zero, suc, ◌-◌, ◌≤◌, zero-le}
use native.Mathlib.Nat.{le_of_suc-le-suc, not-suc-le-zero}
use native.Mathlib.Omega.{arith}
use lib.ListN.{length, get_or, replicate}
use Rattle.places.specs.Limits.{bundle_most}
use Rattle.order.specs.Paths.{Places}
use Rattle.order.proofs.Cases.{four, four_listing}
use Rattle.order.proofs.Lists.{mem_index}
use Rattle.order.proofs.Order.{irrefl}
use Rattle.reply.specs.declared.Answer.{Answer}
use Rattle.reply.specs.Answer.{path_shown, answering}
use Rattle.reply.specs.Numbers.{told, placed}
use Rattle.reply.specs.Settles.{Reach, Outcome, accepted, refused, exhausted}
use Rattle.reply.specs.Slots.{padded}
use Rattle.marks.specs.declared.Mark.{Mark}
use Rattle.marks.specs.Later.{Later, RankIn, AcceptedIn, SettlesIn}
use Rattle.marks.specs.Marked.{Sets, TakenUp}
use Rattle.marks.specs.Marks.{path_in, marking, mark_at}
use Rattle.marks.proofs.Again.{path_marked}
use Rattle.marks.proofs.Began.{later_fresh, later_drop}
use Rattle.marks.proofs.Settled.{rank_in, rank_in_unique}

-- ---- what is answered

module _ {g : Places} {w : Reach} {k : ℕ} {m n : Mark} {before after : List ℕ} where
  -- an answer of acceptance is true of the paths after the mark
  accepted-after : {p : List ℕ} {r s : ℕ} → TakenUp g w k m n before after (answering (accepted p r s)) → AcceptedIn (Later g (path_in m)) w k p r s
  accepted-after {p} {r} {s} t = go t.outcome t.settled t.says
    where
      go : (o : Outcome) → SettlesIn (Later g (path_in m)) w k o → answering (accepted p r s) ≡ answering o → AcceptedIn (Later g (path_in m)) w k p r s
      go (accepted q i j) a e =
          let d : p ≡ q = sym (path_marked p) ∙ ap (λ (b : Answer). path_in (marking b.path)) e ∙ path_marked q in
          let h : r ≡ i = ap (λ (b : Answer). (told b.reply).root) e in
          let f : s ≡ j = ap (λ (b : Answer). (told b.reply).steps) e in
          rw (d, h, f) a
      go (refused j) a e = absurd (omega (arith, ap (λ (b : Answer). (told b.reply).number) e))
      go (exhausted j) a e = absurd (omega (arith, ap (λ (b : Answer). (told b.reply).number) e))

  -- the mark's own path shown again: it is not after the mark
  pub the_marks_path_again : (r s : ℕ) → ¬ TakenUp g w k m n before after (answering (accepted (path_in m) r s))
  the_marks_path_again r s t = irrefl (path_in m) (accepted-after t).there.1

-- after [0] the path [0,3,2] is the second
second_after : RankIn (Later four (0 ∷ [])) (0 ∷ 3 ∷ 2 ∷ []) 2
second_after = rank_in (Later four (0 ∷ [])) (later_drop four 1 _ (omega arith) (later_fresh four four_listing)) 1 (omega arith)

-- the steps counted from the first path of all, where [0,3,2] is the third
pub steps_from_the_beginning : {w : Reach} {k : ℕ} {m n : Mark} {before after : List ℕ} → path_in m ≡ 0 ∷ []
    → (r : ℕ) → ¬ TakenUp four w k m n before after (answering (accepted (0 ∷ 3 ∷ 2 ∷ []) r 3))
steps_from_the_beginning at r t =
    let c : RankIn (Later four (0 ∷ [])) (0 ∷ 3 ∷ 2 ∷ []) 3 = rw at at (accepted-after t).rank in
    omega (arith, rank_in_unique (Later four (0 ∷ [])) (0 ∷ 3 ∷ 2 ∷ []) c second_after)

-- ---- the mark that is set

-- a place of a mark, by its number
abbrev place : Mark → ℕ → ℕ
place m i = (get_or m.places i (placed 0)).0

padded_past : (p : List ℕ) (c i : ℕ) → length p ≤ i → (get_or (map placed (p ++ replicate c 0)) i (placed 0)).0 ≡ 0
padded_past [] zero i h = refl
padded_past [] (suc c) zero h = refl
padded_past [] (suc c) (suc i) h = padded_past [] c i zero-le
padded_past (x ∷ p) c zero h = absurd (not-suc-le-zero h)
padded_past (x ∷ p) c (suc i) h = padded_past p c i (le_of_suc-le-suc h)

-- past its length a mark at a path has zeros
marked_past : (p : List ℕ) (i : ℕ) → (mark_at p).length ≤ i → place (mark_at p) i ≡ 0
unfolding path_shown padded
marked_past p i h = padded_past p (bundle_most - length p) i h

module _ {g : Places} {w : Reach} {m n : Mark} {before after : List ℕ} {a : Answer} where
  -- the mark is left alone, or set to the mark at a path
  pub kept_or_set : {k : ℕ} → TakenUp g w k m n before after a → (n ≡ m) ⊎ ((p : List ℕ) × (n ≡ mark_at p))
  kept_or_set t = go t.outcome t.sets
    where
      go : (o : Outcome) → Sets g m n o → (n ≡ m) ⊎ ((p : List ℕ) × (n ≡ mark_at p))
      go (accepted p r s) e = inr (p, e)
      go (refused s) e = inr ([], e)
      go (exhausted s) (inl (_, e)) = inl e
      go (exhausted s) (inr (p, _, _, e)) = inr (p, e)

  -- a mark that is set, and a place past its length that is not 0
  pub stray_places_kept : {k : ℕ} → n ≢ m → (i : ℕ) → n.length ≤ i → place n i ≢ 0 → ¬ TakenUp g w k m n before after a
  stray_places_kept d i h z t = ⊎_elim d (λ (p, e). z (rw e (marked_past p i (rw e at h)))) (kept_or_set t)

  -- a mark that is set with budget 0, where a path comes after it
  pub set-at_budget_0 : {p : List ℕ} → Later g (path_in m) p → n ≢ m → ¬ TakenUp g w 0 m n before after a
  set-at_budget_0 {p} l d t = go t.outcome t.settled t.sets
    where
      go : (o : Outcome) → SettlesIn (Later g (path_in m)) w 0 o → Sets g m n o → ⊥
      go (accepted q r s) x e = let (qs, _, f) = x.rank in omega (arith, x.covered)
      go (refused s) x e =
          let (ps, b, f) = x.all in
          let (j, h, _) = mem_index (b.all p l) [] in
          omega (arith, x.covered)
      go (exhausted s) x (inl (_, e)) = d e
      go (exhausted s) x (inr (q, _, (qs, _, f), _)) = omega (arith, x.spent)

-- a mark of this length, with these places and 0 past them
abbrev standing : ℕ → List ℕ → Mark
standing length p = record { length = length; places = (path_shown p).places }

-- at [0], with 7 twice past it, the search goes to [0,3], and the second 7 is kept
pub a_stray_seven : {w : Reach} {k : ℕ} {before after : List ℕ} {a : Answer} → ¬ TakenUp four w k (standing 1 (0 ∷ 7 ∷ 7 ∷ [])) (standing 2 (0 ∷ 3 ∷ 7 ∷ [])) before after a
unfolding path_shown padded
a_stray_seven = stray_places_kept (λ e. omega (arith, ap (λ (m : Mark). m.length) e)) 2 (omega arith) (λ e. omega (arith, e))
