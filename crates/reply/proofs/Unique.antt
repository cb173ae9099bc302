-- At most one outcome settles a search (`settles_unique`), a budget that covers all paths brings a yes or a no (`covers`), one that does
-- not never brings a no (`uncovered`), and what a paused run and a search must answer and leave is one answer and one room (`paused_one`,
-- `search_one`). Of a card file: search/proofs/One.antt. That there is one: Exists.antt, Total.antt.
use mathlib.Core.List.{List, []}
use mathlib.Core.Logic.{⊎_elim}
use mathlib.Core.Path.{◌≡◌, sym, ap, ◌∙◌}
use Prim.Native.Nat.{ℕ, ◌≤◌, ◌<◌, zero-le}
use native.Mathlib.Nat.{le_antisymm}
use native.Mathlib.Omega.{arith}
use Rattle.order.specs.Paths.{Places, Count}
use Rattle.order.proofs.Order.{same_or_before}
use Rattle.order.proofs.Rank.{rank_unique, count_unique}
use Rattle.order.proofs.Waiting.{after_unique}
use Rattle.reply.specs.declared.Answer.{Answer}
use Rattle.reply.specs.Answer.{answering, Tells, Paused, Searched, Stops, Case, unread, empty, cramped, runs, Answered}
use Rattle.reply.specs.Laid.{holding}
use Rattle.reply.specs.Settles.{Reach, Accepted, Outcome, accepted, refused, exhausted, Settles}
use Rattle.reply.proofs.Laid.{holding_laid}

module _ (g : Places) where
  module _ (w : Reach) (k : ℕ) where
    accepted_unique : {p q : List ℕ} {r i s t : ℕ} → Accepted g w k p r s → Accepted g w k q i t → accepted p r s ≡ accepted q i t
    accepted_unique {p} {q} {r} {i} {s} {t} a b =
        let e : p ≡ q = ⊎_elim (λ e. e)
        (⊎_elim (λ f. absurd (b.first p a.simple f (r, a.qualifies))) (λ f. absurd (a.first q b.simple f (i, b.qualifies))))
        (same_or_before p q) in
        let a' : Accepted g w k q r s = rw e at a in
        let f : r ≡ i = le_antisymm (a'.lowest i b.qualifies) (b.lowest r a'.qualifies) in
        let h : s ≡ t = rank_unique g q a'.rank b.rank in
        rw (e, f, h)

    -- a budget that covers all paths is never exhausted
    pub covers : {c : ℕ} → Count g c → c ≤ k → (s : ℕ) → ¬ Settles g w k (exhausted s)
    covers n h s x = let (d, m, l) = x.more in omega (arith, count_unique g n m)

    -- a budget that does not cover all paths is never enough to refuse
    pub uncovered : {c : ℕ} → Count g c → k < c → (s : ℕ) → ¬ Settles g w k (refused s)
    uncovered n h s x = omega (arith, count_unique g n x.all, x.covered)

    pub settles_unique : (o u : Outcome) → Settles g w k o → Settles g w k u → o ≡ u
    settles_unique (accepted p r s) (accepted q i t) a b = accepted_unique a b
    settles_unique (accepted p r s) (refused t) a b = absurd (b.none p a.simple (r, a.qualifies))
    settles_unique (accepted p r s) (exhausted t) a b = absurd (b.none p s a.simple a.rank a.covered (r, a.qualifies))
    settles_unique (refused s) (accepted q i t) a b = absurd (a.none q b.simple (i, b.qualifies))
    settles_unique (refused s) (refused t) a b = ap refused (count_unique g a.all b.all)
    settles_unique (refused s) (exhausted t) a b = absurd (covers a.all a.covered t b)
    settles_unique (exhausted s) (accepted q i t) a b = absurd (a.none q t b.simple b.rank b.covered (i, b.qualifies))
    settles_unique (exhausted s) (refused t) a b = absurd (covers b.all b.covered s a)
    settles_unique (exhausted s) (exhausted t) a b = ap exhausted (a.spent ∙ sym b.spent)

-- ---- what is answered

-- two answers to one question: their replies, paths and rooms are equal
pub record Same (a b : Answer) (after later : List ℕ) : Type 0 where
  pub answer : a ≡ b
  pub room : after ≡ later

module _ {g : Places} {w : Reach} {k : ℕ} {a b : Answer} where
  told_unique : {o u : Outcome} → Tells g w k a o → Tells g w k b u → (o ≡ u) × (a ≡ b)
  told_unique {o} {u} x y =
      let e : o ≡ u = settles_unique g w k o u x.settled y.settled in
      (e, x.says ∙ ap answering e ∙ sym y.says)

  paused_unique : {before after later : List ℕ} → Paused g w k before after a → Paused g w k before later b → Same a b after later
  paused_unique {before} x y =
      let (e, f) = told_unique x.tells y.tells in
      let p = x.holds in
      let q = y.holds in
      let v : p.waiting ≡ q.waiting = after_unique g (rw e at p.order) q.order in
      record {
        answer = f;
        room = holding_laid g.size p.waiting p.fits p.room ∙ ap (λ ws. holding g.size ws before) v ∙ sym (holding_laid g.size q.waiting q.fits q.room);
      }

  searched_unique : {before after later : List ℕ} → Searched g w k before after a → Searched g w k before later b → Same a b after later
  searched_unique x y =
      let (e, f) = told_unique x.tells y.tells in
      record { answer = f; room = holding_laid g.size [] zero-le x.clear ∙ sym (holding_laid g.size [] zero-le y.clear) }

module _ (before after later : List ℕ) (a b : Answer) where
  stops_unique : {e : ℕ} → Stops e before after a → Stops e before later b → Same a b after later
  stops_unique x y =
      record { answer = x.says ∙ sym y.says; room = x.kept ∙ sym y.kept }

  answered_unique : {A : Type 0} (P Q : A → Type 0) → ((x : A) → P x → Q x → Same a b after later)
      → (c : Case A) → Answered P c before after a → Answered Q c before later b → Same a b after later
  answered_unique P Q same (unread r) x y = stops_unique x y
  answered_unique P Q same empty x y = stops_unique x y
  answered_unique P Q same cramped x y = stops_unique x y
  answered_unique P Q same (runs z) x y = same z x y

-- ---- a search and a paused run

-- in every case, of a search over whatever has places, roots and a budget
module _ {A : Type 0} (g : A → Places) (w : A → Reach) (budget : A → ℕ) (c : Case A) (before after later : List ℕ) (a b : Answer) where
  -- what a paused run must answer and leave is one answer and one room
  pub paused_one : Answered (λ x. Paused (g x) (w x) (budget x) before after a) c before after a
      → Answered (λ x. Paused (g x) (w x) (budget x) before later b) c before later b
      → Same a b after later
  paused_one = answered_unique before after later a b (λ x. Paused (g x) (w x) (budget x) before after a) (λ x. Paused (g x) (w x) (budget x) before later b) (λ x. paused_unique) c

  -- and so for a search
  pub search_one : Answered (λ x. Searched (g x) (w x) (budget x) before after a) c before after a
      → Answered (λ x. Searched (g x) (w x) (budget x) before later b) c before later b
      → Same a b after later
  search_one = answered_unique before after later a b (λ x. Searched (g x) (w x) (budget x) before after a) (λ x. Searched (g x) (w x) (budget x) before later b) (λ x. searched_unique) c
