-- `rdn_walk` walks the attributes of two RDNs, which differ where their counts do; one attribute each is walked alone.
use mathlib.Core.Path.{sym, ◌∙◌}
use lib.Dec.{eqb}
use borrow.Author.Tests.{eq-eqb, ne_eqb}
use Rattle.fields.proofs.Asked.{begun_ok, begun_err}
use Rattle.names.specs.Names.{attr_p, rdn_p}
use Rattle.same.specs.Same.{same_rdn}
use Rattle.same.specs.Matching.{matched}
use Rattle.same.proofs.Dropped.{dropped, kept}
use Rattle.same.proofs.Walks.{counted_passes, counted_fails, no_count_left, no_count_right}
use Rattle.same.proofs.pair.Pair.rdn_walk.Goals as goal

pub returns-in_err-a : goal.returns-in_err-a
unfolding rdn_p
returns-in_err-a c =
    let left = begun_err c.rdn_begins.ensures (dropped c.ok.ensures.value c.in_err-a.was).is in
    c.from_residual.ensures ∙ sym (no_count_left _ _ _ _ _ _ _ _ _ left)

pub returns-in_err-b : goal.returns-in_err-b
unfolding rdn_p
returns-in_err-b c =
    let right = begun_err c.rdn_begins-2.ensures (dropped c.ok-2.ensures.value c.in_err-b.was).is in
    c.from_residual-in_err-b.ensures ∙ sym (no_count_right _ _ _ _ _ _ _ _ _ right)

pub returns-then-a-b : goal.returns-then-a-b
unfolding rdn_p same_rdn
returns-then-a-b c =
    let left = begun_ok c.rdn_begins.ensures (kept c.ok.ensures.value c.in_ok-a.was) in
    let right = begun_ok c.rdn_begins-2.ensures (kept c.ok-2.ensures.value c.in_ok-b.was) in
    sym (counted_fails eqb (matched _) attr_p _ _ _ _ _ _ _ _ _ _ left right (ne_eqb _ _ c.if-a-b.true))

pub returns : goal.returns
unfolding rdn_p same_rdn
returns c =
    let left = begun_ok c.rdn_begins.ensures (kept c.ok.ensures.value c.in_ok-a.was) in
    let right = begun_ok c.rdn_begins-2.ensures (kept c.ok-2.ensures.value c.in_ok-b.was) in
    c.matched_walk.ensures ∙ sym (counted_passes eqb (matched _) attr_p _ _ _ _ _ _ _ _ _ _ left right (eq-eqb _ _ c.if-a-b.false))
