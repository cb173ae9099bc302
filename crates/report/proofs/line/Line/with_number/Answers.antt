-- `Line::with_number` writes a word and the digits that `io::decimal` gives.
use mathlib.Core.List.{◌++◌, append_assoc}
use mathlib.Core.Path.{ap, ◌∙◌}
use native.Mathlib.Omega.{arith}
use Rattle.report.specs.Lines.{line_shown}
use Rattle.report.proofs.Decimals.{fewest_decimal}
use Rattle.report.proofs.line.Line.with_number.Goals as goal

pub with-requires-2 : goal.with-requires-2
with-requires-2 c =
    rw (c.decimal-k.ensures.digits ∙ fewest_decimal c.decimal-k.result c.args.n c.decimal-k.ensures.len) (omega arith)

pub returns-clause-length_value : goal.returns-clause-length_value
returns-clause-length_value c =
    let e = rw (c.decimal-k.ensures.digits ∙ fewest_decimal c.decimal-k.result c.args.n c.decimal-k.ensures.len) at c.with-2.ensures.length_value in
    omega arith

pub returns-clause-by_index : goal.returns-clause-by_index
returns-clause-by_index c l h =
    c.with-2.ensures.by_index (l ++ c.args.word.now) (c.with.ensures.by_index l h)
    ∙ ap (λ x. line_shown ((l ++ c.args.word.now) ++ x)) (c.decimal-k.ensures.digits ∙ fewest_decimal c.decimal-k.result c.args.n c.decimal-k.ensures.len)
    ∙ ap line_shown (append_assoc l c.args.word.now _)
