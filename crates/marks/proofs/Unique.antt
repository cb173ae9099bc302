-- At most one outcome settles a search through the paths of which P holds (`settles_in_unique`), an outcome sets one mark
-- (`sets_unique`), and so what a search taken up at a mark must answer, leave and set is one answer, one room and one mark
-- (`marked_one`). Of a search from its beginning: reply/proofs/Unique.antt. That there is one: Total.antt.
use mathlib.Core.List.{List, []}
use mathlib.Core.Logic.{⊎_elim, inl, inr}
use mathlib.Core.Path.{◌≡◌, sym, ap, ◌∙◌}
use Prim.Native.Nat.{ℕ, zero-le}
use native.Mathlib.Nat.{le_antisymm}
use native.Mathlib.Omega.{arith}
use Rattle.order.specs.Paths.{Places}
use Rattle.order.proofs.Order.{same_or_before}
use Rattle.reply.specs.declared.Answer.{Answer}
use Rattle.reply.specs.declared.Reply.TheVariants.{Error}
use Rattle.reply.specs.Answer.{answering, Stops, Case, unread, empty, cramped, runs}
use Rattle.reply.specs.Settles.{Reach, Outcome, accepted, refused, exhausted}
use Rattle.reply.proofs.Laid.{holding_laid}
use Rattle.reply.proofs.Says.{stops_reply}
use Rattle.marks.specs.declared.Mark.{Mark}
use Rattle.marks.specs.Later.{Later, AcceptedIn, SettlesIn}
use Rattle.marks.specs.Marked.{Sets, TakenUp, Marked, goes, astray, AnsweredAt}
use Rattle.marks.specs.Marks.{path_in}
use Rattle.marks.proofs.Settled.{rank_in_unique, count_in_unique, rank_in_tells}

-- ---- one outcome

module _ (P : List ℕ → Type 0) (w : Reach) (k : ℕ) where
  accepted_unique : {p q : List ℕ} {r i s t : ℕ} → AcceptedIn P w k p r s → AcceptedIn P w k q i t → accepted p r s ≡ accepted q i t
  accepted_unique {p} {q} {r} {i} {s} {t} a b =
      let e : p ≡ q = ⊎_elim (λ e. e)
      (⊎_elim (λ f. absurd (b.first p a.there f (r, a.qualifies))) (λ f. absurd (a.first q b.there f (i, b.qualifies))))
      (same_or_before p q) in
      let c : AcceptedIn P w k q r s = rw e at a in
      let f : r ≡ i = le_antisymm (c.lowest i b.qualifies) (b.lowest r c.qualifies) in
      let h : s ≡ t = rank_in_unique P q c.rank b.rank in
      rw (e, f, h)

  -- a budget that covers all of them is never exhausted
  covers : {s t : ℕ} → SettlesIn P w k (refused s) → ¬ SettlesIn P w k (exhausted t)
  covers a b = let (d, m, h) = b.more in omega (arith, count_in_unique P a.all m, a.covered)

  pub settles_in_unique : (o u : Outcome) → SettlesIn P w k o → SettlesIn P w k u → o ≡ u
  settles_in_unique (accepted p r s) (accepted q i t) a b = accepted_unique a b
  settles_in_unique (accepted p r s) (refused t) a b = absurd (b.none p a.there (r, a.qualifies))
  settles_in_unique (accepted p r s) (exhausted t) a b = absurd (b.none p s a.there a.rank a.covered (r, a.qualifies))
  settles_in_unique (refused s) (accepted q i t) a b = absurd (a.none q b.there (i, b.qualifies))
  settles_in_unique (refused s) (refused t) a b = ap refused (count_in_unique P a.all b.all)
  settles_in_unique (refused s) (exhausted t) a b = absurd (covers a b)
  settles_in_unique (exhausted s) (accepted q i t) a b = absurd (a.none q t b.there b.rank b.covered (i, b.qualifies))
  settles_in_unique (exhausted s) (refused t) a b = absurd (covers b a)
  settles_in_unique (exhausted s) (exhausted t) a b = ap exhausted (a.spent ∙ sym b.spent)

-- ---- one mark

pub sets_unique : (g : Places) (w : Reach) (k : ℕ) (m : Mark) {n h : Mark} (o : Outcome) → SettlesIn (Later g (path_in m)) w k o → Sets g m n o → Sets g m h o → n ≡ h
sets_unique g w k m (accepted p r s) a x y = x ∙ sym y
sets_unique g w k m (refused s) a x y = x ∙ sym y
sets_unique g w k m (exhausted s) a (inl (_, x)) (inl (_, y)) = x ∙ sym y
sets_unique g w k m (exhausted s) a (inl (z, x)) (inr (q, _, (qs, _, f), _)) = absurd (omega arith)
sets_unique g w k m (exhausted s) a (inr (p, _, (ps, _, e), _)) (inl (z, y)) = absurd (omega arith)
sets_unique g w k m (exhausted s) a (inr (p, i, c, x)) (inr (q, j, d, y)) =
    let (_, (ps, l, _), _) = a.more in
    let e : p ≡ q = rank_in_tells (Later g (path_in m)) l i j c d in
    x ∙ rw e (sym y)

-- ---- one answer

-- two answers to one question: their replies and paths, their rooms and their marks are equal
pub record SameAt (a b : Answer) (after later : List ℕ) (n h : Mark) : Type 0 where
  pub answer : a ≡ b
  pub room : after ≡ later
  pub mark : n ≡ h

module _ {m n h : Mark} {before after later : List ℕ} {a b : Answer} where
  taken_unique : {g : Places} {w : Reach} {k : ℕ} → TakenUp g w k m n before after a → TakenUp g w k m h before later b → SameAt a b after later n h
  taken_unique {g} {w} {k} x y =
      let e : y.outcome ≡ x.outcome = settles_in_unique (Later g (path_in m)) w k y.outcome x.outcome y.settled x.settled in
      record {
        answer = x.says ∙ ap answering (sym e) ∙ sym y.says;
        room = holding_laid g.size [] zero-le x.clear ∙ sym (holding_laid g.size [] zero-le y.clear);
        mark = sets_unique g w k m x.outcome x.settled x.sets (rw e at y.sets);
      }

  -- an error leaves the mark alone
  stops_unique : {e : ℕ} → Stops e before after a → Stops e before later b → ((i : ℕ) → a.reply ≡ Error i → n ≡ m) → ((i : ℕ) → b.reply ≡ Error i → h ≡ m)
      → SameAt a b after later n h
  stops_unique {e} x y c d =
      record { answer = x.says ∙ sym y.says; room = x.kept ∙ sym y.kept; mark = c e (stops_reply x) ∙ sym (d e (stops_reply y)) }

  -- in every case, of a search over whatever has places, roots and a budget: what it must answer, leave and set is one
  pub marked_one : {A : Type 0} (g : A → Places) (w : A → Reach) (k : A → ℕ) (c : Case A)
      → AnsweredAt (λ x. Marked (g x) (w x) (k x) m n before after a) c m n before after a
      → AnsweredAt (λ x. Marked (g x) (w x) (k x) m h before later b) c m h before later b
      → SameAt a b after later n h
  marked_one g w k (unread r) x y = stops_unique x.answered y.answered x.kept y.kept
  marked_one g w k empty x y = stops_unique x.answered y.answered x.kept y.kept
  marked_one g w k cramped x y = stops_unique x.answered y.answered x.kept y.kept
  marked_one g w k (runs z) x y = go x.answered y.answered
    where
      go : Marked (g z) (w z) (k z) m n before after a → Marked (g z) (w z) (k z) m h before later b → SameAt a b after later n h
      go (goes u s) (goes v t) = taken_unique s t
      go (goes u s) (astray v t) = absurd (v u)
      go (astray u s) (goes v t) = absurd (u v)
      go (astray u s) (astray v t) = stops_unique s t x.kept y.kept
