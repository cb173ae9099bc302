-- Every list of bytes, budget and room is answered in exactly one way: no two answers or final rooms satisfy what `search` and `paused`
-- promise (`search_one`, `pause_one`), and some do (`search_some`, `pause_some`). For report and desk. The same of any question:
-- reply/proofs/Unique.antt, reply/proofs/Total.antt.
use mathlib.Core.List.{List}
use Prim.Native.Nat.{ℕ}
use lib.ListN.{length}
use Rattle.fields.specs.Fields.{Parsed, got, stop}
use Rattle.card.specs.Content.{Content, content_p}
use Rattle.reply.specs.declared.Answer.{Answer}
use Rattle.reply.specs.Settles.{Reach}
use Rattle.reply.proofs.Total as total
use Rattle.reply.proofs.Total.{Some, stops_some}
use Rattle.reply.proofs.Unique as unique
use Rattle.reply.proofs.Unique.{Same}
use Rattle.question.specs.Asked.{places_in, roots_in}
use Rattle.rules.specs.Rules.{at}
use Rattle.search.specs.Search.{case_in, Search, Pause}

-- the roots, and which of them a path reaches at the file's own time
abbrev reach : Content → Reach
reach c = roots_in c (at c.now)

-- ---- no two

module _ (s before after later : List ℕ) (a b : Answer) where
  pub search_one : Search (content_p s) before after a → Search (content_p s) before later b → Same a b after later
  search_one = unique.search_one places_in reach (λ c. c.budget) (case_in (content_p s) (length before)) before after later a b

  pub pause_one : (k : ℕ) → Pause (content_p s) k before after a → Pause (content_p s) k before later b → Same a b after later
  pause_one k = unique.paused_one places_in reach (λ c. k) (case_in (content_p s) (length before)) before after later a b

-- ---- some

module _ (s before : List ℕ) where
  pub search_some : Some (λ after a. Search (content_p s) before after a)
  search_some = by_content (content_p s)
    where
      by_content : (x : Parsed Content) → Some (λ after a. Search x before after a)
      by_content (got c e) = total.search_some places_in reach (λ c. c.budget) c before
      by_content (stop r) = stops_some r before

  pub pause_some : (k : ℕ) → Some (λ after a. Pause (content_p s) k before after a)
  pause_some k = by_content (content_p s)
    where
      by_content : (x : Parsed Content) → Some (λ after a. Pause x k before after a)
      by_content (got c e) = total.paused_some places_in reach (λ c. k) c before
      by_content (stop r) = stops_some r before
