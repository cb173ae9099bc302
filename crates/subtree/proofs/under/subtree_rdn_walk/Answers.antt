-- `subtree_rdn_walk` walks past two RDNs where the first has no more attributes and each has a match in the second.
use mathlib.Core.Path.{sym, ◌∙◌}
use lib.Dec.{leb}
use borrow.Author.Tests.{le-leb, lt-leb}
use Rattle.fields.proofs.Asked.{begun_ok, begun_err}
use Rattle.names.specs.Names.{attr_p, rdn_p}
use Rattle.same.specs.Matching.{matched}
use Rattle.same.proofs.Dropped.{dropped, kept}
use Rattle.same.proofs.Walks.{counted_passes, counted_fails, no_count_left, no_count_right}
use Rattle.subtree.specs.Subtree.{is_subtree_rdn}
use Rattle.subtree.proofs.under.subtree_rdn_walk.Goals as goal

pub returns-in_err-a : goal.returns-in_err-a
unfolding rdn_p
returns-in_err-a c =
    let left = begun_err c.rdn_begins.ensures (dropped c.ok.ensures.value c.in_err-a.was).is in
    c.from_residual.ensures ∙ sym (no_count_left _ _ _ _ _ _ _ _ _ left)

pub returns-in_err-b : goal.returns-in_err-b
unfolding rdn_p
returns-in_err-b c =
    let right = begun_err c.rdn_begins-2.ensures (dropped c.ok-2.ensures.value c.in_err-b.was).is in
    c.from_residual-in_err-b.ensures ∙ sym (no_count_right _ _ _ _ _ _ _ _ _ right)

pub returns-then-b-a : goal.returns-then-b-a
unfolding rdn_p is_subtree_rdn
returns-then-b-a c =
    let left = begun_ok c.rdn_begins.ensures (kept c.ok.ensures.value c.in_ok-a.was) in
    let right = begun_ok c.rdn_begins-2.ensures (kept c.ok-2.ensures.value c.in_ok-b.was) in
    sym (counted_fails leb (matched _) attr_p _ _ _ _ _ _ _ _ _ _ left right (lt-leb _ _ c.if-b-a.true))

pub returns : goal.returns
unfolding rdn_p is_subtree_rdn
returns c =
    let left = begun_ok c.rdn_begins.ensures (kept c.ok.ensures.value c.in_ok-a.was) in
    let right = begun_ok c.rdn_begins-2.ensures (kept c.ok-2.ensures.value c.in_ok-b.was) in
    c.matched_walk.ensures ∙ sym (counted_passes leb (matched _) attr_p _ _ _ _ _ _ _ _ _ _ left right (le-leb _ _ c.if-b-a.false))
