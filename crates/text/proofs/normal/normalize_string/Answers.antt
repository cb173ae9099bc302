-- `normalize_string` meets its contract: a law of `Form` for each arm of the loop and each return. That what the loop reads is the whole string
-- is looked for, so that a part that is shorter is refused for what it leaves out.
use Prim.Native.Nat.{ℕ}
use native.Mathlib.Omega.{arith}
use lib.Seq.{length-take-le, take_all}
use Rattle.std.proofs.Common.{rules}
use Rattle.text.proofs.Form.{start, space, one, two, done}
use Rattle.text.proofs.normal.normalize_string.Goals.{then-b-eq32, else-b-eq32, then-gap, else-gap}
use Rattle.text.proofs.normal.normalize_string.Goals as goal

pub loop-b-init : goal.loop-b-init
loop-b-init c = start _ _ (omega (arith, length-take-le {A = ℕ}))

pub loop-b-preserved : goal.loop-b-preserved
loop-b-preserved c =
    let h = c.loop-b.invariant in
    elim c.if-b-eq32.branch [
      | then-b-eq32 w ↦ rw (w.out-is, w.n-is, w.gap-is) (space _ _ _ _ _ _ h (omega arith) w.if-b-eq32.true)
      | else-b-eq32 w ↦ rw (w.out-is, w.n-is, w.gap-is) (elim w.if-gap.branch [
        | then-gap v ↦ rw (v.out-is, v.n-is) (two _ _ _ _ _ _ h (omega arith) v.if-gap.true _ w.if-b-eq32.false w.lower.ensures)
        | else-gap v ↦ rw (v.out-is, v.n-is) (one _ _ _ _ _ _ h (omega arith) _ w.if-b-eq32.false v.if-gap.false w.lower.ensures)
      ])
    ]

pub returns-clause-answer : goal.returns-clause-answer
returns-clause-answer c = (done _ _ _ _ _ _ c.loop-b.invariant (omega arith) (search (rules, take_all))).0

pub returns-clause-room : goal.returns-clause-room
returns-clause-room c = (done _ _ _ _ _ _ c.loop-b.invariant (omega arith) (search (rules, take_all))).1
