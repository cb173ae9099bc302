-- `equal_lowering` meets its contract: so far the fold answers whether the pairs that it was given are alike.
use mathlib.Core.Path.{◌≡◌, refl, ◌∙◌}
use Rattle.std.proofs.Common.{rules}
use Rattle.std.proofs.lemmas.Fn.{fold_over, fronts}
use Rattle.std.proofs.lemmas.Iterator.{YieldsList-from_slice, YieldsList-from_zip, zips}
use Rattle.std.specs.List.{zip}
use Rattle.text.specs.Private.{lowered_if}
use Rattle.text.proofs.Same.{alike, alike-push, alike_same, lengths_differ}
use Rattle.text.proofs.bytes.equal_lowering.Goals as goal

pub returns-then-a-b : goal.returns-then-a-b
returns-then-a-b c =
    let f = lowered_if c.args.lowering in
    let a = c.args.a.now in
    let b = c.args.b.now in
    let pairs = YieldsList-from_zip {s = c.zip.result} (YieldsList-from_slice a cc) (YieldsList-from_slice b cc) in
    fold_over (zips fronts fronts) (λ p. (p.0.now, p.1.now)) _ (λ ps t. t ≡ alike f ps) _ (λ ps t p u q h k. search (rules, alike-push)) c.zip.result (zip a b) _ _ pairs.runs refl c.fold.ensures.ran
    ∙ alike_same f a b c.if-a-b.true

pub returns-else-a-b : goal.returns-else-a-b
returns-else-a-b c =
    let e = lengths_differ (lowered_if c.args.lowering) c.args.a.now c.args.b.now c.if-a-b.false in
    search rules
