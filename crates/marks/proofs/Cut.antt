-- A budget cut in two: where a call is exhausted, and a second goes on from the mark that it has set, the two come to one call with both
-- budgets (`taken_cut`, `marked_cut`, in one case `answered_cut`); and so do calls with any budgets (`calls_one`, `calls_marked`,
-- `calls_answered`). What one call answers: specs/Marked.antt; several calls: specs/Calls.antt; a search
-- that goes on: Ends.antt.
use mathlib.Core.List.{List, []}
use mathlib.Core.Logic.{inl, inr}
use mathlib.Core.Path.{◌≡◌, refl, sym, ap, ◌∙◌}
use Prim.Native.Nat.{ℕ, suc, ◌+◌, ◌≤◌, ◌<◌}
use native.Mathlib.Nat.{add-zero}
use native.Mathlib.Omega.{arith}
use lib.ListN.{length, drop, get_or, length-drop}
use lib.Seq.{get_or-drop}
use Rattle.places.specs.Limits.{bundle_most}
use Rattle.order.specs.Listing.{Lists}
use Rattle.order.specs.Paths.{Places, Before}
use Rattle.order.proofs.Lists.{mem_at}
use Rattle.reply.specs.declared.Answer.{Answer}
use Rattle.reply.specs.declared.Reply.TheVariants as reply
use Rattle.reply.specs.Answer.{answering, Stops, Case, unread, empty, cramped, runs}
use Rattle.reply.specs.Numbers.{saying}
use Rattle.reply.specs.Settles.{Reach, Outcome, accepted, refused, exhausted}
use Rattle.reply.proofs.Says.{answering_parts, stops_reply}
use Rattle.marks.specs.declared.Mark.{Mark}
use Rattle.marks.specs.Calls.{plus, total, Calls, once, more}
use Rattle.marks.specs.Later.{Later, SettlesIn}
use Rattle.marks.specs.Marked.{Sets, TakenUp, Marked, goes, astray, AnsweredAt}
use Rattle.marks.specs.Marks.{path_in, Usable}
use Rattle.marks.proofs.Again.{path_marked, set_usable}
use Rattle.marks.proofs.Began.{later_drop}
use Rattle.marks.proofs.Ends.{Met, further, met_settles, settles_met, met_more}
use Rattle.marks.proofs.Settled.{rank_in, in_rank}
use Rattle.marks.proofs.Total.{taken-right}

-- ---- the mark

module _ (g : Places) (m : Mark) {o : Mark} {ps : List (List ℕ)} (l : Lists Before (Later g (path_in m)) ps) (s : ℕ) where
  -- after the mark that an exhausted call has set come those that it has not taken
  later_set : Sets g m o (exhausted s) → Lists Before (Later g (path_in o)) (drop s ps)
  later_set (inl (z, e)) = rw (z, e) l
  later_set (inr (p, i, r, e)) =
      let (k, h, at, q) = in_rank (Later g (path_in m)) l i r in
      let y : Lists Before (Later g p) (drop s ps) = rw (at, ← q) at (later_drop g (suc k) ps h l) in
      rw (e, path_marked p) y

  -- what the second call sets is what one call does
  sets_further : Sets g m o (exhausted s) → (n : Mark) (u : Outcome) → Sets g o n u → Sets g m n (further s u)
  sets_further x n (accepted p r t) y = y
  sets_further x n (refused t) y = y
  sets_further (inl (z, e)) n (exhausted t) (inl (c, d)) = inl (omega arith, d ∙ e)
  sets_further (inr (p, i, r, e)) n (exhausted t) (inl (c, d)) = let k : s + t ≡ s = omega arith in inr (p, i, rw k r, d ∙ e)
  sets_further x n (exhausted t) (inr (p, i, r, e)) =
      let (k, h, at, q) = in_rank (Later g (path_in o)) (later_set x) i r in
      let c : s + k < length ps = omega (arith, length-drop s ps) in
      let d : get_or ps (s + k) [] ≡ p = sym (get_or-drop s ps k []) ∙ at in
      let f : suc (s + k) ≡ s + t = omega arith in
      inr (p, rw d at (l.only (get_or ps (s + k) []) (mem_at ps (s + k) [] c)), rw (f, d) at (rank_in (Later g (path_in m)) l (s + k) c), e)

-- ---- the answer

answering_further : (s : ℕ) (u : Outcome) → answering (further s u) ≡ plus s (answering u)
answering_further s (accepted p r t) = refl
answering_further s (refused t) = refl
answering_further s (exhausted t) = refl

saying-exhausted : (u : Outcome) {s : ℕ} → saying u ≡ reply.Exhausted s → u ≡ exhausted s
saying-exhausted (accepted p r t) e = cc
saying-exhausted (refused t) e = cc
saying-exhausted (exhausted t) e = cc

exhausted-right : {i s : ℕ} {before after : List ℕ} {a : Answer} → Stops i before after a → a.reply ≡ reply.Exhausted s → ⊥
exhausted-right x e = let z : ◌≡◌ {A = ℕ} 0 1 = cc (stops_reply x) in omega arith

-- ---- two calls

module _ {m o n : Mark} {room left before after : List ℕ} {e a : Answer} {s : ℕ} where
  pub taken_cut : {g : Places} {w : Reach} {b c : ℕ} → TakenUp g w b m o room left e → e.reply ≡ reply.Exhausted s → TakenUp g w c o n before after a
      → TakenUp g w (b + c) m n before after (plus s a)
  taken_cut {g} {w} {b} {c} x h y =
      let u : x.outcome ≡ exhausted s = saying-exhausted x.outcome (sym (ap (λ (a : Answer). a.reply) (x.says ∙ answering_parts x.outcome)) ∙ h) in
      let t : SettlesIn (Later g (path_in m)) w b (exhausted s) = rw u at x.settled in
      let z : Sets g m o (exhausted s) = rw u at x.sets in
      let (_, (ps, l, _), _) = t.more in
      let (q, i, v) = settles_met (Later g (path_in m)) l w b (exhausted s) t in
      let met : Met w (drop s ps) c y.outcome = settles_met (Later g (path_in o)) (later_set g m l s z) w c y.outcome y.settled in
      let k : s + c ≡ b + c = omega arith in
      record {
        outcome = further s y.outcome;
        settled = met_settles (Later g (path_in m)) l w (b + c) (further s y.outcome) (rw k at (met_more w ps s (omega arith) v c y.outcome met));
        says = ap (plus s) y.says ∙ sym (answering_further s y.outcome);
        sets = sets_further g m l s z n y.outcome y.sets;
        clear = y.clear;
      }

  both : {g : Places} → g.size ≤ bundle_most → {w : Reach} {b c : ℕ} → Marked g w b m o room left e → e.reply ≡ reply.Exhausted s → Marked g w c o n before after a
      → Usable g m × TakenUp g w (b + c) m n before after (plus s a)
  both few (goes u x) h (goes v y) = (u, taken_cut x h y)
  both few (goes u x) h (astray v y) = absurd (v (set_usable few x u))
  both few (astray u x) h y = absurd (exhausted-right x h)

  pub marked_cut : {g : Places} → g.size ≤ bundle_most → {w : Reach} {b c : ℕ} → Marked g w b m o room left e → e.reply ≡ reply.Exhausted s → Marked g w c o n before after a
      → Marked g w (b + c) m n before after (plus s a)
  marked_cut few x h y = let (u, t) = both few x h y in goes u t

  -- in one case, of a search over whatever has places and roots, with two budgets
  pub answered_cut : {A : Type 0} (g : A → Places) (w : A → Reach) (b d : A → ℕ) (c : Case A) → ((x : A) → c ≡ runs x → (g x).size ≤ bundle_most)
      → AnsweredAt (λ x. Marked (g x) (w x) (b x) m o room left e) c m o room left e → e.reply ≡ reply.Exhausted s
      → AnsweredAt (λ x. Marked (g x) (w x) (d x) o n before after a) c o n before after a
      → AnsweredAt (λ x. Marked (g x) (w x) (b x + d x) m n before after (plus s a)) c m n before after (plus s a)
  answered_cut g w b d (unread r) few x h y = absurd (exhausted-right x.answered h)
  answered_cut g w b d empty few x h y = absurd (exhausted-right x.answered h)
  answered_cut g w b d cramped few x h y = absurd (exhausted-right x.answered h)
  answered_cut g w b d (runs z) few x h y =
      let (u, t) = both (few z refl) x.answered h y.answered in
      record { answered = goes u t; kept = λ i f. absurd (taken-right t i f) }

-- ---- any number of calls

-- where two calls come to one, so do any
pub calls_one : {One : ℕ → Mark → Mark → List ℕ → List ℕ → Answer → Type 0}
    → ((b c s : ℕ) (m o n : Mark) (room left before after : List ℕ) (e a : Answer) → One b m o room left e → e.reply ≡ reply.Exhausted s → One c o n before after a → One (b + c) m n before after (plus s a))
    → {bs : List ℕ} {m n : Mark} {before after : List ℕ} {a : Answer} → Calls One bs m n before after a → One (total bs) m n before after a
calls_one two (once x) = rw add-zero x
calls_one two (more {b} {s} {bs} {m} {o} {n} {room} {left} {before} {after} {e} {a} x h c) = two b (total bs) s m o n room left before after e a x h (calls_one two c)

pub calls_marked : {g : Places} → g.size ≤ bundle_most → {w : Reach} {bs : List ℕ} {m n : Mark} {before after : List ℕ} {a : Answer}
    → Calls (λ k m n before after a. Marked g w k m n before after a) bs m n before after a → Marked g w (total bs) m n before after a
calls_marked few = calls_one (λ b c s m o n room left before after e a x h y. marked_cut few x h y)

-- in one case, of a search over whatever has places and roots
pub calls_answered : {A : Type 0} (g : A → Places) (w : A → Reach) (c : Case A) → ((x : A) → c ≡ runs x → (g x).size ≤ bundle_most)
    → {bs : List ℕ} {m n : Mark} {before after : List ℕ} {a : Answer}
    → Calls (λ k m n before after a. AnsweredAt (λ x. Marked (g x) (w x) k m n before after a) c m n before after a) bs m n before after a
    → AnsweredAt (λ x. Marked (g x) (w x) (total bs) m n before after a) c m n before after a
calls_answered g w c few = calls_one (λ b d s m o n room left before after e a x h y. answered_cut g w (λ x. b) (λ x. d) c few x h y)
