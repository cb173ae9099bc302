-- `past_spaces` meets its contract: the spaces are the bytes that are taken.
use Rattle.std.proofs.Common.{rules, tests, eqb, ◌∙◌}
use Rattle.std.proofs.lemmas.Iterator.{YieldsList-from_slice}
use Rattle.std.proofs.lemmas.Iterator.Consumers.{count_from_yields_List}
use Rattle.std.proofs.lemmas.Iterator.Search.{YieldsList-from_take_while}
use Rattle.text.proofs.Same.{tail}
use Rattle.same.proofs.Counts.{spaces_taken}
use Rattle.same.proofs.values.past_spaces.Goals as goal

pub returns : goal.returns
returns c =
    let count =
    count_from_yields_List c.take_while.result _ c.count-n.ensures.ran
    (YieldsList-from_take_while _ (λ b. eqb b 32) (YieldsList-from_slice c.args.s.now (cc)) c.take_while.ensures.closure c.take_while.ensures.done (λ x b q k. search (rules, tests))) in
    tail _ c.args.s.now ∙ rw (count ∙ spaces_taken c.args.s.now)
