-- Every question has an answer: some answer and some room satisfy what `search` and `paused` promise (`search_some`, `paused_some`), of
-- whatever numbers. Of a card file: search/proofs/One.antt. That no two do: Unique.antt; what is promised: specs/Answer.antt.
use mathlib.Core.List.{List, []}
use mathlib.Core.Path.{◌≡◌, refl}
use Prim.Native.Nat.{ℕ, ◌≤◌, ◌<◌}
use lib.ListN.{length}
use Rattle.places.specs.Limits.{bundle_most}
use Rattle.order.specs.Paths.{Places}
use Rattle.order.specs.Walk.{stack}
use Rattle.reply.specs.declared.Answer.{Answer}
use Rattle.reply.specs.declared.Reply.TheVariants as reply
use Rattle.reply.specs.Answer.{answering, path_shown, Paused, Searched, Stops, Case, unread, empty, cramped, runs, case_of, Answered}
use Rattle.reply.specs.Laid.{holding}
use Rattle.reply.specs.Settles.{Reach, Outcome, steps}
use Rattle.reply.proofs.Exists.{found, settles}
use Rattle.reply.proofs.Faults.{runs-clear}
use Rattle.reply.proofs.Left.{left-searched, left_paused}

-- some answer and some room satisfy P
pub record Some (P : List ℕ → Answer → Type 0) : Type 0 where
  pub after : List ℕ
  pub answer : Answer
  pub is : P after answer

-- ---- where something stands in the way

abbrev without : ℕ → Answer
without e = record { reply = reply.Error e; path = path_shown [] }

pub stops_some : (e : ℕ) (before : List ℕ) → Some (λ after a. Stops e before after a)
stops_some e before = record { after = before; answer = without e; is = record { says = refl; kept = refl } }

-- ---- where nothing does

module _ (g : Places) (w : Reach) (k : ℕ) (before : List ℕ) (some : 0 < g.size) (few : g.size ≤ bundle_most) where
  abbrev o : Outcome
  o = found g w k

  searched-some : Some (λ after a. Searched g w k before after a)
  searched-some = record { after = holding g.size [] before; answer = answering o; is = left-searched o (settles g w k some) refl refl }

  held-some : Some (λ after a. Paused g w k before after a)
  held-some =
      record {
        after = holding g.size (stack g (steps o)) before;
        answer = answering o;
        is = left_paused o (settles g w k some) refl some few refl;
      }

-- ---- in every case

some_in : {A : Type 0} (before : List ℕ) (P : List ℕ → Answer → A → Type 0) (c : Case A) → ((x : A) → c ≡ runs x → Some (λ after a. P after a x))
    → Some (λ after a. Answered (P after a) c before after a)
some_in before P (unread r) h = stops_some r before
some_in before P empty h = stops_some 3 before
some_in before P cramped h = stops_some 10 before
some_in before P (runs x) h = h x refl

-- of a search over whatever has places, roots and a budget
module _ {A : Type 0} (g : A → Places) (w : A → Reach) (k : A → ℕ) (x : A) (before : List ℕ) where
  pub search_some : Some (λ after a. Answered (λ y. Searched (g y) (w y) (k y) before after a) (case_of x (g x).size (length before)) before after a)
  search_some = some_in before (λ after a y. Searched (g y) (w y) (k y) before after a) (case_of x (g x).size (length before)) (λ y e.
      let (q, c) = runs-clear (g x).size (length before) x e in
      rw (← q) (searched-some (g x) (w x) (k x) before c.some c.few))

  pub paused_some : Some (λ after a. Answered (λ y. Paused (g y) (w y) (k y) before after a) (case_of x (g x).size (length before)) before after a)
  paused_some = some_in before (λ after a y. Paused (g y) (w y) (k y) before after a) (case_of x (g x).size (length before)) (λ y e.
      let (q, c) = runs-clear (g x).size (length before) x e in
      rw (← q) (held-some (g x) (w x) (k x) before c.some c.few))
