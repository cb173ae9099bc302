-- `matched_walk` walks past two RDNs that can be read, where each attribute of the first has a match in the second.
use mathlib.Core.Path.{sym, ◌∙◌}
use Rattle.fields.proofs.Asked.{begun_ok, begun_err, passed_ok, passed_err}
use Rattle.names.specs.Names.{attr_p, rdn_p}
use Rattle.same.specs.Matching.{matched}
use Rattle.same.proofs.Dropped.{dropped, kept}
use Rattle.same.proofs.Rows.{row_past, row_stops, standing_walked}
use Rattle.same.proofs.Walks.{stop-right, no_count_left, no_count_right}
use Rattle.same.proofs.pair.Pair.matched_walk.Goals as goal

pub returns-in_err-a : goal.returns-in_err-a
unfolding rdn_p
returns-in_err-a c =
    let left = begun_err c.rdn_begins.ensures (dropped c.ok.ensures.value c.in_err-a.was).is in
    c.from_residual.ensures ∙ sym (no_count_left _ _ _ _ _ _ _ _ _ left)

pub returns-in_err-b : goal.returns-in_err-b
unfolding rdn_p
returns-in_err-b c =
    let right = begun_err c.rdn_begins-2.ensures (dropped c.ok-2.ensures.value c.in_err-b.was).is in
    c.from_residual-in_err-b.ensures ∙ sym (no_count_right _ _ _ _ _ _ _ _ _ right)

pub returns-in_err-right : goal.returns-in_err-right
unfolding rdn_p
returns-in_err-right c =
    let right = begun_ok c.rdn_begins-2.ensures (kept c.ok-2.ensures.value c.in_ok-b.was) in
    let stops = passed_err c.past.ensures (dropped c.ok-3.ensures.value c.in_err-right.was).is in
    c.from_residual-in_err-right.ensures ∙ rw (row_stops _ _ attr_p _ _ _ _ _ right stops) (sym (stop-right (matched _) (rdn_p _ _) _))

pub returns : goal.returns
unfolding rdn_p
returns c =
    let left = begun_ok c.rdn_begins.ensures (kept c.ok.ensures.value c.in_ok-a.was) in
    let right = begun_ok c.rdn_begins-2.ensures (kept c.ok-2.ensures.value c.in_ok-b.was) in
    let ends = passed_ok c.past.ensures (kept c.ok-3.ensures.value c.in_ok-right.was) in
    standing_walked (row_past _ _ attr_p _ _ _ _ _ right ends) (matched _) _ _ _ _ _ _ left ends c.matches_walk.ensures
