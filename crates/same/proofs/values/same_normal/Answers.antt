-- `same_normal` meets its contract. The loop's invariant is `Abreast`: the forms are the same where what is left of them is. The measure is
-- what is left of the first value.
use mathlib.Core.Path.{◌∙◌}
use native.Mathlib.Omega.{arith}
use borrow.Author.Rules.{rules}
use Rattle.same.proofs.Counts.{together_most}
use Rattle.same.proofs.Abreast.{begins, answers_second, answers_no, next, nearer}
use Rattle.same.proofs.values.same_normal.Goals as goal

pub words-init : goal.words-init
words-init c = begins _ _ _ _ c.past_spaces-x.ensures c.past_spaces-y.ensures

pub slice_bounds-x_end-count : goal.slice_bounds-x_end-count
slice_bounds-x_end-count c = search (rules, together_most c.words.x.now c.words.y.now)

pub slice_bounds-y_end-count : goal.slice_bounds-y_end-count
slice_bounds-y_end-count c = search (rules, together_most c.words.x.now c.words.y.now)

pub slice_bounds-x_end-start : goal.slice_bounds-x_end-start
slice_bounds-x_end-start c = search (rules, together_most c.words.x.now c.words.y.now)

pub slice_bounds-y_end-start : goal.slice_bounds-y_end-start
slice_bounds-y_end-start c = search (rules, together_most c.words.x.now c.words.y.now)

pub returns-then-is_empty : goal.returns-then-is_empty
returns-then-is_empty c =
    c.is_empty-then-is_empty.ensures ∙ answers_second _ _ _ _ c.words.invariant _ c.together-n.ensures _ _ _ _ (search rules) (search rules) c.past_spaces-x_next.ensures c.past_spaces-y_next.ensures (search rules)

pub returns-else-is_empty : goal.returns-else-is_empty
returns-else-is_empty c =
    c.if-is_empty.false ∙ answers_no _ _ _ _ c.words.invariant _ c.together-n.ensures _ _ _ _ (search rules) (search rules) c.past_spaces-x_next.ensures c.past_spaces-y_next.ensures (search rules) (grind arith)

pub words-preserved : goal.words-preserved
words-preserved c =
    next _ _ _ _ c.words.invariant _ c.together-n.ensures _ _ _ _ (search rules) (search rules) c.past_spaces-x_next.ensures c.past_spaces-y_next.ensures (search rules) (search rules)

pub words-smaller : goal.words-smaller
words-smaller c =
    nearer _ _ _ _ c.words.invariant _ c.together-n.ensures _ _ _ _ (search rules) (search rules) c.past_spaces-x_next.ensures c.past_spaces-y_next.ensures (search rules)
