-- `Path::of` is the path of the first places. After j turns the first j are in it.
use borrow.Author.Rules.{rules}
use mathlib.Core.Path.{◌≡◌, refl, ap, ◌∙◌}
use Prim.Native.Nat.{◌<◌, ◌≤◌}
use native.Mathlib.Nat.{min-le_right}
use native.Mathlib.Omega.{arith}
use lib.ListN.{length, take, get_or, set, replicate, length-set}
use Rattle.places.specs.Limits.{bundle_most}
use Rattle.reply.specs.Answer.{path_shown}
use Rattle.reply.specs.Numbers.{placed}
use Rattle.reply.proofs.Shown.{place-more, path_shown_lem, take-few}
use Rattle.reply.proofs.path.Path.of.Goals as goal

pub loop-j-init : goal.loop-j-init
loop-j-init c = (refl, refl)

pub loop-j-preserved : goal.loop-j-preserved
loop-j-preserved c =
    let l = c.loop-j in
    let s = c.args.numbers in
    let few : c.within-n.result ≤ bundle_most = rw c.within-n.ensures (min-le_right c.args.length bundle_most) in
    let e : length s ≡ bundle_most = search rules in
    let h : l.j < length s = omega arith in
    let k : l.j < bundle_most = omega arith in
    let m : length (set l.places l.j (placed (get_or s l.j 0))) ≡ bundle_most = simp length-set l.invariant.1 in
    (ap (λ ps. set ps l.j (placed (get_or s l.j 0))) l.invariant.0 ∙ place-more s (replicate bundle_most (placed 0)) l.j h k, m)

pub returns : goal.returns
returns c =
    let l = c.loop-j in
    let a = c.args in
    let few : c.within-n.result ≤ bundle_most = rw c.within-n.ensures (min-le_right a.length bundle_most) in
    let e : length a.numbers ≡ bundle_most = search rules in
    let k : l.j ≡ c.within-n.result = omega arith in
    path_shown_lem a.numbers c.within-n.result l.places (omega arith) (l.invariant.0 ∙ rw k)
    ∙ ap path_shown (ap (λ n. take n a.numbers) c.within-n.ensures ∙ take-few bundle_most a.length a.numbers e)
