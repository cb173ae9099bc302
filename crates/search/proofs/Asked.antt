-- From what a file asks to what it is answered, at whatever time: an answer to the file's question is one to its content (`searched`,
-- `held_paused`), for the proofs of `search` and `paused`. That the question asks what the content asks: question/proofs/Asked.antt; what
-- is promised: specs/Search.antt.
use mathlib.Core.List.{List}
use mathlib.Core.Path.{◌≡◌, ap}
use Prim.Native.Nat.{ℕ}
use lib.ListN.{length}
use Rattle.std.specs.Prelude.{Option, Result, Ok}
use Rattle.fields.specs.Answers.{numbered}
use Rattle.fields.specs.Fields.{got}
use Rattle.fields.specs.declared.fault.Fault.{Fault}
use Rattle.card.specs.Card.{file_p}
use Rattle.card.specs.Content.{Content, content_p}
use Rattle.order.specs.Paths.{Places}
use Rattle.reply.specs.declared.Answer.{Answer}
use Rattle.reply.specs.Answer.{Paused, Searched, case_of, Answered}
use Rattle.reply.specs.Settles.{Reach}
use Rattle.reply.proofs.Agree.{paused_agree, searched-agree}
use Rattle.reply.proofs.Faults.{answered-over}
use Rattle.question.specs.declared.Question.{Question}
use Rattle.question.specs.Asked.{places_in, roots_in}
use Rattle.question.specs.Question.{time_for, posed, places_of, roots_of}
use Rattle.question.proofs.Asked.{put_asks}
use Rattle.rules.specs.declared.rules.Time.{Time}
use Rattle.search.specs.Search.{case_in}

-- the same search, in other words
module _ {g h : Places} {w : Reach} {k : ℕ} {before after : List ℕ} {a : Answer} where
  same_search : {l : ℕ} → g ≡ h → k ≡ l → Searched g w k before after a → Searched h w l before after a
  same_search b c x = rw (b, c) at x

  same_pause : g ≡ h → Paused g w k before after a → Paused h w k before after a
  same_pause b x = rw b at x

module _ (s : List ℕ) (w : Option Time) (x : Result Question Fault) (is : numbered x ≡ posed s w (file_p s)) (q : Question) where
  -- when a content is judged that says `now`
  abbrev time : Content → Time
  time c = time_for w c.now

  module _ (before after : List ℕ) (a : Answer) where
    -- an answer to the question is one to its content, where a search over the one answers what a search over the other does
    over : {c : Content} {e : ℕ} → content_p s ≡ got c e → places_of q ≡ places_in c → (P : Question → Type 0) (Q : Content → Type 0) → (P q → Q c)
        → Answered P (case_of q q.size (length before)) before after a → Answered Q (case_in (content_p s) (length before)) before after a
    over {c} says same P Q f h =
        let n : q.size ≡ length c.bundle = ap (λ g. g.size) same in
        rw (says, ← n) (answered-over q.size (length before) q P before after a c Q f h)

    pub searched : x ≡ Ok q
        → Answered (λ y. Searched (places_of y) (roots_of y) y.budget before after a) (case_of q q.size (length before)) before after a
        → Answered (λ c. Searched (places_in c) (roots_in c (time c)) c.budget before after a) (case_in (content_p s) (length before)) before after a
    searched o =
        let p = put_asks s w x is q o in
        let k = p.asks in
        over p.says k.places (λ y. Searched (places_of y) (roots_of y) y.budget before after a)
        (λ c. Searched (places_in c) (roots_in c (time c)) c.budget before after a)
        (λ h. same_search k.places k.budget (searched-agree k.roots k.reached h))

    pub held_paused : x ≡ Ok q → (k : ℕ)
        → Answered (λ y. Paused (places_of y) (roots_of y) k before after a) (case_of q q.size (length before)) before after a
        → Answered (λ c. Paused (places_in c) (roots_in c (time c)) k before after a) (case_in (content_p s) (length before)) before after a
    held_paused o k =
        let p = put_asks s w x is q o in
        over p.says p.asks.places (λ y. Paused (places_of y) (roots_of y) k before after a)
        (λ c. Paused (places_in c) (roots_in c (time c)) k before after a)
        (λ h. same_pause p.asks.places (paused_agree p.asks.roots p.asks.reached h))
