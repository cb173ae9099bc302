-- `numbers_of` turns each place into its byte. After j turns the first j bytes are the places'.
use borrow.Author.Rules.{rules}
use mathlib.Core.Path.{◌≡◌, refl, ap, ◌∙◌}
use mathlib.Core.List.{append-nil}
use Prim.Native.Nat.{◌<◌}
use native.Mathlib.Omega.{arith}
use lib.ListN.{length, take, get_or, set, replicate, length-set, length-map}
use lib.Seq.{take_all}
use Rattle.places.specs.Limits.{bundle_most}
use Rattle.reply.specs.Numbers.{placed}
use Rattle.desk.specs.Plain.{numbers}
use Rattle.desk.proofs.Numbers.{number_more}
use Rattle.desk.proofs.plain.numbers_of.Goals as goal

pub loop-j-init : goal.loop-j-init
loop-j-init c = (refl, refl)

pub loop-j-preserved : goal.loop-j-preserved
loop-j-preserved c =
    let l = c.loop-j in
    let ps = c.args.places in
    let n : length ps ≡ bundle_most = search rules in
    let h : l.j < length ps = omega arith in
    let k : l.j < bundle_most = omega arith in
    let m : length (set l.bytes l.j (get_or ps l.j (placed 0)).0) ≡ bundle_most = simp length-set l.invariant.1 in
    (ap (λ bs. set bs l.j (get_or ps l.j (placed 0)).0) l.invariant.0 ∙ number_more ps (replicate bundle_most 0) l.j (placed 0) h k, m)

pub returns : goal.returns
returns c =
    let l = c.loop-j in
    let ps = c.args.places in
    let n : length ps ≡ bundle_most = search rules in
    let k : l.j ≡ bundle_most = omega arith in
    l.invariant.0 ∙ rw k (append-nil (take bundle_most (numbers ps)) ∙ take_all bundle_most (numbers ps) (simp length-map (omega arith)))
