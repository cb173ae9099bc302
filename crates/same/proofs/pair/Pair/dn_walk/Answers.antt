-- `dn_walk` walks the RDNs of two names, which differ where their counts do.
use mathlib.Core.Path.{sym, ◌∙◌}
use lib.Dec.{eqb}
use borrow.Author.Tests.{ne_eqb}
use Rattle.fields.proofs.Asked.{begun_ok, begun_err}
use Rattle.names.specs.Names.{rdn_p, name_p}
use Rattle.same.specs.Same.{places, same_rdn, same_dn}
use Rattle.same.proofs.Dropped.{dropped, kept}
use Rattle.same.proofs.Walks.{counted_fails, counted_same, no_count_left, no_count_right}
use Rattle.same.proofs.pair.Pair.dn_walk.Goals as goal

pub returns-in_err-left : goal.returns-in_err-left
unfolding name_p
returns-in_err-left c =
    let left = begun_err c.name_begins.ensures (dropped c.ok.ensures.value c.in_err-left.was).is in
    c.from_residual.ensures ∙ sym (no_count_left _ _ _ _ _ _ _ _ _ left)

pub returns-in_err-right : goal.returns-in_err-right
unfolding name_p
returns-in_err-right c =
    let right = begun_err c.name_begins-2.ensures (dropped c.ok-2.ensures.value c.in_err-right.was).is in
    c.from_residual-in_err-right.ensures ∙ sym (no_count_right _ _ _ _ _ _ _ _ _ right)

pub returns-then-left-right : goal.returns-then-left-right
unfolding name_p same_dn
returns-then-left-right c =
    let left = begun_ok c.name_begins.ensures (kept c.ok.ensures.value c.in_ok-left.was) in
    let right = begun_ok c.name_begins-2.ensures (kept c.ok-2.ensures.value c.in_ok-right.was) in
    sym (counted_fails eqb (places (same_rdn _)) rdn_p _ _ _ _ _ _ _ _ _ _ left right (ne_eqb _ _ c.if-left-right.true))

pub returns : goal.returns
unfolding name_p same_dn
returns c =
    let left = begun_ok c.name_begins.ensures (kept c.ok.ensures.value c.in_ok-left.was) in
    let right = begun_ok c.name_begins-2.ensures (kept c.ok-2.ensures.value c.in_ok-right.was) in
    c.rdns_walk.ensures
    ∙ sym (counted_same (places (same_rdn _)) rdn_p _ _ _ _ _ _ _ _ _ _ left right c.if-left-right.false)
