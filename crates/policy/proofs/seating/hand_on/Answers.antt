-- `hand_on` puts those of each row in the row before it. The invariant: the rows from k on were handed what is past them.
use Rattle.std.proofs.Common.{◌≡◌, ◌+◌, ◌-◌, arith}
use Rattle.policy.proofs.Filling.{handing_starts, handing_turn, handing_ends}
use Rattle.policy.proofs.seating.hand_on.Goals as goal

pub loop-k-init : goal.loop-k-init
loop-k-init c = handing_starts _ _ c.requires.0 c.requires.1

pub loop-k-preserved : goal.loop-k-preserved
loop-k-preserved c =
    let up : c.loop-k.k - 1 + 1 ≡ c.loop-k.k = omega arith in
    rw (c.either.ensures, up) (handing_turn _ _ _ _ c.loop-k.invariant c.loop-k-test.true)

pub returns : goal.returns
returns c = handing_ends _ _ _ _ c.loop-k.invariant c.loop-k-test.false
