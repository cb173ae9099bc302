-- `rdn_has_name` answers the first fault of the first bad argument, else whether the RDN has the attribute; what was judged through can be
-- read again.
use Rattle.fields.proofs.Asked.{begun_ok, begun_err}
use Rattle.fields.proofs.Judged.{holds}
use Rattle.names.specs.Names.{attr_p, rdn_p}
use Rattle.same.specs.Rows.{has_read}
use Rattle.subtree.proofs.Found.{has_found, rdn_begun_lem}
use Rattle.subtree.proofs.related.rdn_has_name.Goals as goal

pub returns-in_err-attributes : goal.returns-in_err-attributes
returns-in_err-attributes c =
    absurd (rdn_begun_lem _ _ (holds rdn_p _ _ c.whole.ensures _ c.in_ok-whole.was) _ (begun_err c.rdn_begins.ensures c.in_err-attributes.was))

pub returns : goal.returns
unfolding has_read
returns c =
    let name = holds attr_p _ _ c.whole-2.ensures _ c.in_ok-whole-2.was in
    let has = rw (c.of.ensures, name.read) at c.has_name.ensures in
    has_found _ _ _ _ _ (holds rdn_p _ _ c.whole.ensures _ c.in_ok-whole.was) name _ _ (begun_ok c.rdn_begins.ensures c.in_ok-attributes.was) _ _ name.read _ has
