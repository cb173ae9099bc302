-- What the paused run leaves is pinned for every k: the paths that wait after the steps it tells (`waiting_pinned`), never more than the
-- table's slots (`waiting_few`). What is promised: `Pause` of specs/Search.antt; what waits: order/specs/Waiting.antt; that answer and room
-- are one: One.antt.
use mathlib.Core.List.{List}
use mathlib.Core.Path.{◌≡◌, refl}
use Prim.Native.Nat.{ℕ, ◌≤◌}
use lib.ListN.{length}
use Rattle.card.specs.Content.{Content, content_p}
use Rattle.order.specs.Slots.{slots_of}
use Rattle.order.specs.Waiting.{After}
use Rattle.order.proofs.Waiting.{after_unique}
use Rattle.reply.specs.declared.Answer.{Answer}
use Rattle.reply.specs.Answer.{Paused, runs}
use Rattle.reply.specs.Numbers.{told, saying}
use Rattle.reply.specs.Room.{Holding, Holds}
use Rattle.reply.specs.Settles.{Outcome, accepted, refused, exhausted, steps}
use Rattle.reply.proofs.Says.{tells_reply}
use Rattle.question.specs.Asked.{places_in, roots_in}
use Rattle.rules.specs.Rules.{at}
use Rattle.search.specs.Search.{case_in, Pause}

steps-told : (o : Outcome) → (told (saying o)).steps ≡ steps o
steps-told (accepted p r s) = refl
steps-told (refused s) = refl
steps-told (exhausted s) = refl

module _ (s before after : List ℕ) (k : ℕ) (a : Answer) (x : Pause (content_p s) k before after a)
    (c : Content) (free : case_in (content_p s) (length before) ≡ runs c)
  where
    paused : Paused (places_in c) (roots_in c (at c.now)) k before after a
    paused = rw free at x

    holds : Holds (places_in c) (told a.reply).steps before after
    holds = rw (tells_reply paused.tells, steps-told paused.outcome) paused.holds

    module _ (ws : List (List ℕ)) (wait : After (places_in c) (told a.reply).steps ws) where
      same : holds.waiting ≡ ws
      same = after_unique (places_in c) holds.order wait

      pub waiting_pinned : Holding (length c.bundle) ws before after
      waiting_pinned = rw same at holds.room

      pub waiting_few : length ws ≤ slots_of (length c.bundle)
      waiting_few = rw same at holds.fits
