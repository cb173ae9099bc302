-- What C is answered is settled: two outcomes that satisfy what `savuneco_search` promises are one answer and one room (`search_one`),
-- and so for `savuneco_paused` (`paused_one`). The other functions promise equations. Of a card file, for Rattle: search/proofs/One.antt.
use mathlib.Core.List.{List}
use mathlib.Core.Path.{◌≡◌, sym, ap, ◌∙◌}
use Prim.Native.Nat.{ℕ}
use Rattle.card.specs.Content.{content_p}
use Rattle.reply.specs.declared.Answer.{Answer}
use Rattle.reply.proofs.Unique.{Same}
use Rattle.search.specs.Search.{Search, Pause}
use Rattle.search.proofs.One as below
use Rattle.desk.specs.declared.plain.Plain.{Plain}
use Rattle.desk.specs.Plain.{plain, Says}

-- two outcomes are one
pub record Alike (r q : Plain) (after later : List ℕ) : Type 0 where
  pub answer : r ≡ q
  pub room : after ≡ later

module _ {r q : Plain} {a b : Answer} {after later : List ℕ} where
  alike : r ≡ plain a → q ≡ plain b → Same a b after later → Alike r q after later
  alike x y same = record { answer = x ∙ ap plain same.answer ∙ sym y; room = same.room }

module _ (s before after later : List ℕ) (r q : Plain) where
  pub search_one : Says (Search (content_p s) before after) r → Says (Search (content_p s) before later) q → Alike r q after later
  search_one x y = alike x.plainly y.plainly (below.search_one s before after later x.answer y.answer x.holds y.holds)

  pub paused_one : (k : ℕ) → Says (Pause (content_p s) k before after) r → Says (Pause (content_p s) k before later) q → Alike r q after later
  paused_one k x y = alike x.plainly y.plainly (below.pause_one s before after later x.answer y.answer k x.holds y.holds)
