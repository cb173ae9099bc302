-- An answer by its two parts: the reply and the path that an outcome (`by_parts`, `tells_reply`, `tells-path`), or an error (`stops_reply`,
-- `stops_path`), is answered with. For the proofs of search, steps and report; `saying` and `shown` stand in specs/Numbers.antt.
use Prim.Native.Nat.{ℕ}
use mathlib.Core.Path.{◌≡◌, refl, sym, ap, ap₂, ◌∙◌}
use mathlib.Core.List.{List, []}
use Rattle.order.specs.Paths.{Places}
use Rattle.reply.specs.Settles.{Reach, Outcome, accepted, refused, exhausted}
use Rattle.reply.specs.Answer.{path_shown, answering, Tells, Stops}
use Rattle.reply.specs.Numbers.{saying, shown}
use Rattle.reply.specs.declared.Reply.{Reply}
use Rattle.reply.specs.declared.Reply.TheVariants.{Error}
use Rattle.reply.specs.declared.path.Path.{Path}
use Rattle.reply.specs.declared.Answer.{Answer}

pub answer_one : (a b : Answer) → a.reply ≡ b.reply → a.path ≡ b.path → a ≡ b
answer_one a b e f = ap₂ (λ (r : Reply) (p : Path). record { reply = r; path = p }) e f

pub answering_parts : (o : Outcome) → answering o ≡ record { reply = saying o; path = path_shown (shown o) }
answering_parts (accepted p r s) = refl
answering_parts (refused s) = refl
answering_parts (exhausted s) = refl

pub by_parts : {a : Answer} (o : Outcome) → a.reply ≡ saying o → a.path ≡ path_shown (shown o) → a ≡ answering o
by_parts {a} o says shows = answer_one a (record { reply = saying o; path = path_shown (shown o) }) says shows ∙ sym (answering_parts o)

module _ {g : Places} {w : Reach} {k : ℕ} {a : Answer} {o : Outcome} (t : Tells g w k a o) where
  pub tells_reply : a.reply ≡ saying o
  tells_reply = ap (λ (a : Answer). a.reply) (t.says ∙ answering_parts o)

  pub tells-path : a.path ≡ path_shown (shown o)
  tells-path = ap (λ (a : Answer). a.path) (t.says ∙ answering_parts o)

module _ {e : ℕ} {before after : List ℕ} {a : Answer} (s : Stops e before after a) where
  pub stops_reply : a.reply ≡ Error e
  stops_reply = ap (λ (a : Answer). a.reply) s.says

  pub stops_path : a.path ≡ path_shown []
  stops_path = ap (λ (a : Answer). a.path) s.says
