-- Every question has an answer: it is decided whether a mark can be used (`usable_or`), an outcome that settles a search sets some mark
-- (`sets-some`), its reply is no error (`taken-right`), and some mark, room and answer satisfy what is promised of a search taken up at a
-- mark (`marked-some`, and `unread-some` for a file that can't be read). That no two do: Unique.antt; what is promised:
-- specs/Marked.antt; of a search from its beginning: reply/proofs/Total.antt.
use mathlib.Core.List.Memᴰ
use mathlib.Core.List.Memᴰ.{head as here}
use mathlib.Core.List.Memᴰ.{tail as there}
use mathlib.Core.List.{List, [], ◌∷◌}
use mathlib.Core.Logic.{◌⊎◌, inl, inr, ⊎_elim}
use mathlib.Core.Path.{◌≡◌, refl, sym, ap, ◌∙◌}
use Prim.Native.Nat.{ℕ, zero, suc, ◌-◌, ◌≤◌, ◌<◌, zero-le}
use native.Mathlib.Nat.{eq-zero-or-pos}
use native.Mathlib.Omega.{arith}
use lib.ListN.{length, get_or, drop}
use Rattle.places.specs.Limits.{bundle_most}
use Rattle.order.specs.Listing.{◌among◌}
use Rattle.order.specs.Paths.{Places, Simple, Before}
use Rattle.order.specs.Walk.{paths}
use Rattle.order.proofs.Lists.{mem_at}
use Rattle.order.proofs.Order.{irrefl, same_or_before}
use Rattle.order.proofs.Tree.{listing_exists}
use Rattle.reply.specs.declared.Answer.{Answer}
use Rattle.reply.specs.declared.Reply.TheVariants.{Error}
use Rattle.reply.specs.Answer.{answering, Stops, Case, unread, empty, cramped, runs, case_of, Answered}
use Rattle.reply.specs.Laid.{holding}
use Rattle.reply.specs.Numbers.{saying}
use Rattle.reply.specs.Settles.{Reach, Outcome, accepted, refused, exhausted}
use Rattle.reply.proofs.Faults.{runs-clear}
use Rattle.reply.proofs.Laid.{laid_holding}
use Rattle.reply.proofs.Says.{answering_parts}
use Rattle.reply.proofs.Total.{stops_some}
use Rattle.marks.specs.declared.Mark.{Mark}
use Rattle.marks.specs.Later.{Later, SettlesIn}
use Rattle.marks.specs.Marked.{Sets, TakenUp, Marked, goes, astray, AnsweredAt}
use Rattle.marks.specs.Marks.{path_in, mark_at, Usable, fresh, simple}
use Rattle.marks.proofs.Again.{usable_began}
use Rattle.marks.proofs.Began.{later_lists}
use Rattle.marks.proofs.Ends.{met_settles, met_some}
use Rattle.marks.proofs.Settled.{rank_in}

-- ---- whether a mark can be used

among_or : (p : List ℕ) (ps : List (List ℕ)) → (p among ps) ⊎ (p among ps → ⊥)
among_or p [] = inr Memᴰ.not-nil
among_or p (q ∷ ps) = ⊎_elim
    (λ e. inl (here e))
    (λ b. ⊎_elim (λ m. inl (there m)) (λ n. inr (λ m. ⊎_elim (λ e. apart e b) n (Memᴰ.cases_cons m))) (among_or p ps))
    (same_or_before p q)
  where
    apart : p ≡ q → Before p q ⊎ Before q p → ⊥
    apart e b = irrefl q (⊎_elim (λ x. rw e at x) (λ x. rw e at x) b)

simple_or : (g : Places) (p : List ℕ) → Simple g p ⊎ ¬ Simple g p
simple_or g p = let (ps, l) = listing_exists g in ⊎_elim (λ m. inl (l.only p m)) (λ n. inr (λ s. n (l.all p s))) (among_or p ps)

module _ (g : Places) (m : Mark) where
  unusable : 0 < m.length → (m.length ≤ bundle_most → Simple g (path_in m) → ⊥) → ¬ Usable g m
  unusable h n (fresh e) = omega arith
  unusable h n (simple k s) = n k s

  pub usable_or : Usable g m ⊎ ¬ Usable g m
  usable_or = go (eq-zero-or-pos m.length) (eq-zero-or-pos (m.length - bundle_most)) (simple_or g (path_in m))
    where
      go : (m.length ≡ 0) ⊎ (0 < m.length) → (m.length - bundle_most ≡ 0) ⊎ (0 < m.length - bundle_most) → Simple g (path_in m) ⊎ ¬ Simple g (path_in m)
          → Usable g m ⊎ ¬ Usable g m
      go (inl e) b c = inl (fresh e)
      go (inr h) (inl b) (inl s) = inl (simple (omega arith) s)
      go (inr h) (inl b) (inr n) = inr (unusable h (λ k s. n s))
      go (inr h) (inr b) c = inr (unusable h (λ k s. omega arith))

-- ---- what a search sets and leaves

-- an outcome that settles the search sets some mark
pub sets-some : (g : Places) (w : Reach) (k : ℕ) (m : Mark) (o : Outcome) → SettlesIn (Later g (path_in m)) w k o → (n : Mark) × Sets g m n o
sets-some g w k m (accepted p r s) a = (mark_at p, refl)
sets-some g w k m (refused s) a = (mark_at [], refl)
sets-some g w k m (exhausted zero) a = (m, inl (refl, refl))
sets-some g w k m (exhausted (suc j)) a =
    let (c, (ps, l, e), h) = a.more in
    let i : j < length ps = omega (arith, a.spent) in
    let p : List ℕ = get_or ps j [] in
    (mark_at p, inr (p, l.only p (mem_at ps j [] i), rank_in (Later g (path_in m)) l j i, refl))

-- some mark, room and answer satisfy P
pub record SomeAt (P : Mark → List ℕ → Answer → Type 0) : Type 0 where
  pub mark : Mark
  pub after : List ℕ
  pub answer : Answer
  pub is : P mark after answer

module _ (g : Places) (w : Reach) (k : ℕ) (m : Mark) (before : List ℕ) where
  taken-some : 0 < g.size → Usable g m → SomeAt (λ n after a. TakenUp g w k m n before after a)
  taken-some some u =
      let (r, b) = usable_began u in
      let (o, x) = met_some w (drop r (paths g)) k in
      let t : SettlesIn (Later g (path_in m)) w k o = met_settles (Later g (path_in m)) (later_lists some b) w k o x in
      let (n, y) = sets-some g w k m o t in
      record {
        mark = n;
        after = holding g.size [] before;
        answer = answering o;
        is = record { outcome = o; settled = t; says = refl; sets = y; clear = laid_holding g.size [] zero-le (λ p i. absurd (Memᴰ.not-nil i)) refl };
      }

-- an outcome's reply is no error
saying-right : (o : Outcome) (e : ℕ) → saying o ≡ Error e → ⊥
saying-right (accepted p r s) e h = let z : ◌≡◌ {A = ℕ} 0 1 = cc in omega arith
saying-right (refused s) e h = let z : ◌≡◌ {A = ℕ} 0 1 = cc in omega arith
saying-right (exhausted s) e h = let z : ◌≡◌ {A = ℕ} 0 1 = cc in omega arith

pub taken-right : {g : Places} {w : Reach} {k : ℕ} {m n : Mark} {before after : List ℕ} {a : Answer} → TakenUp g w k m n before after a → (e : ℕ) → a.reply ≡ Error e → ⊥
taken-right t e h = saying-right t.outcome e (sym (ap (λ (a : Answer). a.reply) (t.says ∙ answering_parts t.outcome)) ∙ h)

-- ---- in every case

-- of a search over whatever has places, roots and a budget
module _ {A : Type 0} (g : A → Places) (w : A → Reach) (k : A → ℕ) (m : Mark) (before : List ℕ) where
  abbrev Good : Case A → Mark → List ℕ → Answer → Type 0
  Good c n after a = AnsweredAt (λ y. Marked (g y) (w y) (k y) m n before after a) c m n before after a

  -- an error, and the mark as it was
  stopped_some : (e : ℕ) (c : Case A) → ((after : List ℕ) (a : Answer) → Stops e before after a → Answered (λ y. Marked (g y) (w y) (k y) m m before after a) c before after a)
      → SomeAt (Good c)
  stopped_some e c f =
      let s = stops_some e before in
      record { mark = m; after = s.after; answer = s.answer; is = record { answered = f s.after s.answer s.is; kept = λ e i. refl } }

  pub unread-some : (r : ℕ) → SomeAt (λ n after a. AnsweredAt (λ y. Marked (g y) (w y) (k y) m n before after a) (unread r) m n before after a)
  unread-some r = stopped_some r (unread r) (λ after a s. s)

  some_in : (c : Case A) → ((x : A) → c ≡ runs x → 0 < (g x).size) → SomeAt (Good c)
  some_in (unread r) h = unread-some r
  some_in empty h = stopped_some 3 empty (λ after a s. s)
  some_in cramped h = stopped_some 10 cramped (λ after a s. s)
  some_in (runs x) h = ⊎_elim
      (λ u.
      let s = taken-some (g x) (w x) (k x) m before (h x refl) u in
      record {
        mark = s.mark;
        after = s.after;
        answer = s.answer;
        is = record {
          answered = goes u s.is;
          kept = λ e i. absurd (taken-right s.is e i);
        };
      })
      (λ u. stopped_some 11 (runs x) (λ after a s. astray u s))
      (usable_or (g x) m)

  pub marked-some : (x : A)
      → SomeAt (λ n after a. AnsweredAt (λ y. Marked (g y) (w y) (k y) m n before after a) (case_of x (g x).size (length before)) m n before after a)
  marked-some x = some_in (case_of x (g x).size (length before)) (λ y e.
      let (q, c) = runs-clear (g x).size (length before) x e in rw (← q) c.some)
