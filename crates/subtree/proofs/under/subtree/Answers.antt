-- `subtree` walks the first name's RDNs beside as many of the second's: what the second has past them does not count.
use mathlib.Core.Path.{sym, ap, ◌∙◌}
use lib.Dec.{leb}
use borrow.Author.Tests.{lt-leb}
use Rattle.std.specs.Prelude.{is_some}
use Rattle.fields.proofs.Asked.{begun_ok, begun_err}
use Rattle.names.specs.Names.{rdn_p, name_p, name_most}
use Rattle.same.specs.Same.{places}
use Rattle.same.proofs.Rows.{row_read}
use Rattle.same.proofs.Walks.{walk_both, counted_fails, no_count_left, no_count_right}
use Rattle.subtree.specs.Subtree.{is_subtree_rdn, is_subtree_of}
use Rattle.subtree.proofs.Rows.{front_judged}
use Rattle.subtree.proofs.under.subtree.Goals as goal

pub returns-in_default : goal.returns-in_default
unfolding name_p
returns-in_default c =
    ap is_some (sym (no_count_left (is_subtree_of _) rdn_p _ _ 0 name_most 0 0 _ (begun_err c.name_begins.ensures c.in_default.is)))
    ∙ walk_both (is_subtree_of _) (name_p _ _) (name_p _ _)

pub returns-in_default-name_begins : goal.returns-in_default-name_begins
unfolding name_p
returns-in_default-name_begins c =
    ap is_some (sym (no_count_right (is_subtree_of _) rdn_p _ _ 0 name_most 0 0 _ (begun_err c.name_begins-2.ensures c.in_default-name_begins.is)))
    ∙ walk_both (is_subtree_of _) (name_p _ _) (name_p _ _)

pub returns-then-high-low : goal.returns-then-high-low
unfolding name_p is_subtree_of
returns-then-high-low c =
    let left = begun_ok c.name_begins.ensures c.in-Ok.is in
    let right = begun_ok c.name_begins-2.ensures c.in-Ok-name_begins.is in
    ap is_some (sym (counted_fails leb (places (is_subtree_rdn _)) rdn_p _ _ 0 name_most 0 0 _ _ _ _ left right (lt-leb _ _ c.if-high-low.true)))
    ∙ walk_both (is_subtree_of _) (name_p _ _) (name_p _ _)

pub returns : goal.returns
unfolding name_p is_subtree_of
returns c =
    let pre = c.requires in
    let left = row_read 0 name_most rdn_p _ 0 _ _ (begun_ok c.name_begins.ensures c.in-Ok.is) pre.0 in
    let right = row_read 0 name_most rdn_p _ 0 _ _ (begun_ok c.name_begins-2.ensures c.in-Ok-name_begins.is) pre.1 in
    c.is_some.ensures
    ∙ ap is_some c.rdns_walk.ensures
    ∙ front_judged left right (is_subtree_rdn _) c.if-high-low.false
    ∙ walk_both (is_subtree_of _) (name_p _ _) (name_p _ _)
