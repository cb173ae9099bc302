-- `together` meets its contract: the bytes that go together are the pairs that are taken.
use Rattle.std.proofs.Common.{rules, tests, ◌∙◌, not, ◌&&◌, eqb, take}
use Rattle.std.proofs.lemmas.Iterator.{YieldsList-from_slice, YieldsList-from_zip}
use Rattle.std.proofs.lemmas.Iterator.Consumers.{count_from_yields_List, YieldsList-at}
use Rattle.std.proofs.lemmas.Iterator.Search.{YieldsList-from_take_while}
use Rattle.text.specs.Bytes.{lowered}
use Rattle.same.proofs.Counts.{together_taken, together_cut}
use Rattle.same.proofs.values.together.Goals as goal

pub returns : goal.returns
returns c =
    count_from_yields_List c.take_while.result _ c.count.ensures.ran
    (YieldsList-from_take_while _ (λ p. not (eqb p.0 32) && eqb (lowered p.0) (lowered p.1))
    (YieldsList-at c.take_while.ensures.source
    (YieldsList-from_zip (YieldsList-at c.zip.ensures.first (YieldsList-from_slice (take c.min-n.result c.args.a.now) (cc))) (YieldsList-from_slice (take c.min-n.result c.args.b.now) (cc))))
    c.take_while.ensures.closure
    c.take_while.ensures.done
    (λ x b q k. search (rules, tests)))
    ∙ together_taken (take c.min-n.result c.args.a.now) (take c.min-n.result c.args.b.now)
    ∙ together_cut c.min-n.result c.args.a.now c.args.b.now c.min-n.ensures
