-- What an outcome's answer and its room are: the room of a paused run is laid with what waits after the outcome's steps (`left_paused`),
-- that of a search with nothing (`left-searched`). For Total.antt, steps and stack; what is promised: specs/Answer.antt; a room as it is
-- laid: specs/Laid.antt.
use mathlib.Core.List.Memᴰ
use mathlib.Core.List.{List, []}
use mathlib.Core.Path.{◌≡◌}
use Prim.Native.Nat.{ℕ, ◌≤◌, ◌<◌, zero-le}
use lib.ListN.{length}
use Rattle.places.specs.Limits.{bundle_most}
use Rattle.order.specs.Paths.{Places}
use Rattle.order.specs.Slots.{slots_of}
use Rattle.order.specs.Walk.{stack}
use Rattle.order.proofs.Bound.{after-fits}
use Rattle.order.proofs.Waiting.{stack-after}
use Rattle.reply.specs.declared.Answer.{Answer}
use Rattle.reply.specs.Answer.{answering, Tells, Paused, Searched}
use Rattle.reply.specs.Laid.{holding}
use Rattle.reply.specs.Settles.{Reach, Outcome, Settles, steps}
use Rattle.reply.proofs.Laid.{stack_in_slots, laid_holding}

-- no more wait after so many steps than there are slots
pub stack-fits : (g : Places) → 0 < g.size → g.size ≤ bundle_most → (k : ℕ) → length (stack g k) ≤ slots_of g.size
stack-fits g some few k = after-fits g few (stack-after g some k)

module _ {g : Places} {w : Reach} {k : ℕ} {a : Answer} (o : Outcome) (settled : Settles g w k o) (says : a ≡ answering o) where
  tells : Tells g w k a o
  tells = record { settled = settled; says = says }

  pub left-searched : {before after : List ℕ} → after ≡ holding g.size [] before → Searched g w k before after a
  left-searched e = record { outcome = o; tells = tells; clear = laid_holding g.size [] zero-le (λ p m. absurd (Memᴰ.not-nil m)) e }

  pub left_paused : {before after : List ℕ} → 0 < g.size → g.size ≤ bundle_most → after ≡ holding g.size (stack g (steps o)) before → Paused g w k before after a
  left_paused some few e =
      let ws : List (List ℕ) = stack g (steps o) in
      let fits : length ws ≤ slots_of g.size = stack-fits g some few (steps o) in
      record {
        outcome = o;
        tells = tells;
        holds = record { waiting = ws; order = stack-after g some (steps o); fits = fits; room = laid_holding g.size ws fits (stack_in_slots g some few (steps o)) e };
      }
