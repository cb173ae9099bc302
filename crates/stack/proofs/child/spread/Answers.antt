-- `spread` lays the lowest child of those that are left.
use Rattle.std.proofs.Common.{◌++◌, ◌≡◌, ℕ, ◌+◌, ◌<◌, List, [], ◌∷◌, length, set, sym, ap, ◌∙◌, append_assoc, append-nil, length-append, arith}
use Rattle.order.specs.Walk.{snoc}
use Rattle.rows.specs.Rows.{joined, left}
use Rattle.stack.specs.Stacked.{places_in, children, laid}
use Rattle.stack.proofs.Held.{laid_none, laid_more}
use Rattle.stack.proofs.Rows.{children-lowest, children-none}
use Rattle.stack.proofs.child.spread.Goals as goal
use Rattle.stack.proofs.child.spread.Goals.{In-Some, In-None}

module _ (c : In-Some) where
  abbrev p : List ℕ
  p = places_in c.args.path

  abbrev lowest_child : List ℕ
  lowest_child = snoc p c.in-Some.i

  -- those after it
  abbrev later : List (List ℕ)
  later = children (left c.loop-i.i-iterator.rest (joined 0 c.in-Some.i)) p

  lowest_left : children c.loop-i.i-iterator.rest p ≡ later ++ (lowest_child ∷ [])
  lowest_left = let came = c.in-Some.ensures.steps in children-lowest c.loop-i.i-iterator.rest p c.in-Some.i came.0 came.1

  all_left : children c.args.row p ≡ later ++ (lowest_child ∷ c.loop-i.invariant.done)
  all_left =
      let done = c.loop-i.invariant.done in
      c.loop-i.invariant.all ∙ ap (λ (r : List (List ℕ)). r ++ done) lowest_left ∙ append_assoc later (lowest_child ∷ []) done

  counted : length (children c.args.row p) ≡ length later + length (lowest_child ∷ c.loop-i.invariant.done)
  counted = ap length all_left ∙ length-append later (lowest_child ∷ c.loop-i.invariant.done)

  next_record : c.loop-i.top < length c.args.records.now
  next_record = omega (arith, c.requires.room, counted, c.loop-i.invariant.top)

pub loop-i-init : goal.loop-i-init
loop-i-init c = rw (c.into_iter-i-iterator.ensures.into_iter_gives, c.each-i-items.ensures) (record {
  done = [];
  all = sym (append-nil (children c.args.row (places_in c.args.path)));
  top = omega arith;
  laid = laid_none c.args.at c.args.records.now;
})

pub child-requires-clause-short : goal.child-requires-clause-short
child-requires-clause-short c =
    let k = (goal.at.child-requires-clause-short c).In-Some in
    c.requires.short (λ none. absurd (omega (arith, counted k, ap length none)))

pub push-requires : goal.push-requires
push-requires c =
    let k = (goal.at.push-requires c).In-Some in
    omega (arith, next_record k, c.loop-i.auto.records)

pub loop-i-preserved : goal.loop-i-preserved
loop-i-preserved c =
    let k = (goal.at.loop-i-preserved c).In-Some in
    let i = c.loop-i.invariant in
    let put : set c.loop-i.records c.loop-i.top c.child.result ≡ laid c.args.at (lowest_child k ∷ i.done) c.args.records.now =
    rw (c.child.ensures, i.laid, i.top) (laid_more c.args.at c.args.records.now i.done (lowest_child k) (omega (arith, next_record k, i.top))) in
    rw c.in-Some.ensures.steps.2 (record { done = lowest_child k ∷ i.done; all = all_left k; top = omega (arith, i.top); laid = c.push.ensures ∙ put })

-- none are left
all_laid : (c : In-None) → c.loop-i.invariant.done ≡ children c.args.row (places_in c.args.path)
all_laid c =
    let i = c.loop-i.invariant in
    sym (i.all ∙ ap (λ (r : List (List ℕ)). r ++ i.done) (children-none c.loop-i.i-iterator.rest (places_in c.args.path) c.in-None.ensures.steps))

pub returns-clause-top : goal.returns-clause-top
returns-clause-top c = c.loop-i.invariant.top ∙ ap (λ (d : List (List ℕ)). c.args.at + length d) (all_laid c)

pub returns-clause-laid : goal.returns-clause-laid
returns-clause-laid c = c.loop-i.invariant.laid ∙ ap (λ (d : List (List ℕ)). laid c.args.at d c.args.records.now) (all_laid c)
