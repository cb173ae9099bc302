-- What a search in records comes to. Of a question: what it is answered where the search is over (`over_leads`), or what stands in its way
-- (`fault_unbegun`); of a file: the same (`leads_read`, `unbegun_read`), or why it can't be read (`unbegun_unread`). For the proofs of
-- src/begin.rt; where a search stands: specs/Stands.antt; what it comes to, in words: specs/Begins.antt.
use mathlib.Core.List.{List, []}
use mathlib.Core.Path.{◌≡◌, refl, ap, ◌∙◌}
use Prim.Native.Nat.{ℕ, ◌-◌, ◌*◌, ◌<◌}
use native.Mathlib.Omega.{arith}
use lib.ListN.{length}
use Rattle.std.proofs.Common.{Option, Some, None, cond}
use Rattle.std.specs.Prelude.{Result, Ok, unwrap_or, is_some}
use Rattle.fields.specs.Answers.{numbered}
use Rattle.fields.specs.declared.fault.Fault.{Fault}
use Rattle.order.specs.Walk.{stack}
use Rattle.policy.specs.Standing.{Seated}
use Rattle.card.specs.Card.{file_p}
use Rattle.card.specs.Content.{content_p}
use Rattle.fields.specs.Fields.{stop}
use Rattle.question.specs.Question.{places_of, roots_of, posed}
use Rattle.question.specs.declared.Question.{Question}
use Rattle.reply.specs.Answer.{Stops, Paused, Searched, case_of}
use Rattle.reply.specs.Laid.{holding}
use Rattle.reply.specs.Numbers.{fault_of}
use Rattle.reply.specs.Records.{bytes_of}
use Rattle.reply.specs.Settles.{Settles, steps}
use Rattle.reply.specs.Slots.{slot_bytes}
use Rattle.reply.specs.declared.Answer.{Answer}
use Rattle.reply.specs.declared.Reply.TheVariants.{Error}
use Rattle.reply.specs.declared.path.Path.{Path}
use Rattle.reply.proofs.Faults.{Clear, clear-runs, answered_stops}
use Rattle.reply.proofs.Left.{left_paused, left-searched}
use Rattle.steps.proofs.Judging.{ends_judged}
use Rattle.search.proofs.Asked.{searched, held_paused}
use Rattle.stack.specs.Begins.{Ran, RanOver, lent_by, Leads, Unbegun}
use Rattle.stack.specs.Stacked.{Whole}
use Rattle.stack.specs.Stands.{Rested, pathless}
use Rattle.stack.specs.declared.begin.Begun.{Begun}
use Rattle.stack.specs.declared.begin.Terms.{Terms}
use Rattle.stack.proofs.Bytes.{length-bytes, bytes-held}

-- ---- of a question

-- what a search of a question is asked
abbrev pub terms_of : Question → Option ℕ → Terms
terms_of q paused = record { budget = unwrap_or paused q.budget; size = q.size; leaves = is_some paused }

module _ (q : Question) (count : ℕ) (paused : Option ℕ) where
  -- what stands in the way is answered
  pub fault_unbegun : {e : ℕ} → e ≡ fault_of (case_of q.size q.size (slot_bytes * count)) → 0 < e → Unbegun count (RanOver paused q) e
  fault_unbegun {e} is some l n = go paused
    where
      way : 0 < fault_of (case_of q.size q.size (length l))
      way = rw n (rw is at some)

      stops : Stops (fault_of (case_of q.size q.size (length l))) l l (pathless (Error e))
      stops = record { says = rw (is, n) refl; kept = refl }

      go : (p : Option ℕ) → RanOver p q l l (pathless (Error e))
      go (Some k) = answered_stops q.size (length l) q (λ y. Paused (places_of y) (roots_of y) k l l (pathless (Error e))) l l (pathless (Error e)) way stops
      go None = answered_stops q.size (length l) q (λ y. Searched (places_of y) (roots_of y) y.budget l l (pathless (Error e))) l l (pathless (Error e)) way stops

  module _ (free : Clear q.size (slot_bytes * count)) (seats : List ℕ) (seated : Seated q.judged (q.size - 1) seats) where
    abbrev b : Begun
    b = record { rows = q.judged.issuing.bundle; roots = q.judged.issuing.roots; seats = seats; terms = terms_of q paused }

    module _ (l : List Path) (w : Whole l) (n : length l ≡ count) {a : Answer} {after : List Path} (r : Rested (lent_by b l) a after) where
      clear : Clear q.size (length (bytes_of l))
      clear = rw (length-bytes l w, n) free

      settled : Settles (places_of q) (roots_of q) (unwrap_or paused q.budget) r.outcome
      settled = ends_judged q.judged q.size free.some free.few seats seated (unwrap_or paused q.budget) r.outcome r.ends

      left : bytes_of after ≡ holding q.size (cond (is_some paused) (stack (places_of q) (steps r.outcome)) []) (bytes_of l)
      left = ap bytes_of r.held ∙ bytes-held q.size (cond (is_some paused) (stack (places_of q) (steps r.outcome)) []) l w

    answers : (p : Option ℕ) → p ≡ paused → (l : List Path) → Whole l → length l ≡ count → (a : Answer) (after : List Path) → Rested (lent_by b l) a after
        → RanOver p q (bytes_of l) (bytes_of after) a
    answers (Some k) e l w n a after r =
        rw (clear-runs q.size (length (bytes_of l)) q (clear l w n r))
        (left_paused r.outcome (rw (← e) at (settled l w n r)) r.says free.some free.few (rw (← e) at (left l w n r)))
    answers None e l w n a after r =
        rw (clear-runs q.size (length (bytes_of l)) q (clear l w n r))
        (left-searched r.outcome (rw (← e) at (settled l w n r)) r.says (rw (← e) at (left l w n r)))

    pub over_leads : Leads count (RanOver paused q) b
    over_leads = record {
      fair = record { some = free.some; few = free.few; room = omega (arith, free.room) };
      answers = answers paused refl;
    }

-- ---- of a file

module _ (s : List ℕ) (x : Result Question Fault) (is : numbered x ≡ posed s None (file_p s)) (q : Question) (o : x ≡ Ok q) (count : ℕ) (paused : Option ℕ) where
  -- an answer to the question is one to the file
  ran_over : (before after : List ℕ) (a : Answer) → RanOver paused q before after a → Ran paused (content_p s) before after a
  ran_over = go paused
    where
      go : (p : Option ℕ) (before after : List ℕ) (a : Answer) → RanOver p q before after a → Ran p (content_p s) before after a
      go (Some k) before after a = held_paused s None x is q before after a o k
      go None before after a = searched s None x is q before after a o

  pub leads_read : (b : Begun) → Leads count (RanOver paused q) b → Leads count (Ran paused (content_p s)) b
  leads_read b L = record { fair = L.fair; answers = λ l w n a after r. ran_over (bytes_of l) (bytes_of after) a (L.answers l w n a after r) }

  pub unbegun_read : (e : ℕ) → Unbegun count (RanOver paused q) e → Unbegun count (Ran paused (content_p s)) e
  unbegun_read e U l n = ran_over l l _ (U l n)

-- where the file can't be read, the answer is why
pub unbegun_unread : (s : List ℕ) (count : ℕ) (paused : Option ℕ) (e : ℕ) → content_p s ≡ stop e → Unbegun count (Ran paused (content_p s)) e
unbegun_unread s count paused e f l n = go paused
  where
    go : (p : Option ℕ) → Ran p (content_p s) l l (pathless (Error e))
    go (Some k) = rw f (record { says = refl; kept = refl })
    go None = rw f (record { says = refl; kept = refl })
