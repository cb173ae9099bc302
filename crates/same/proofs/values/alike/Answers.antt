-- `alike` meets its contract: each byte's entry is the byte lowered. That equal bytes need no entry (`equal_too`) is for the edit that asks
-- that too, so that it is refused for what it lowers.
use native.Mathlib.Omega.{arith}
use Rattle.same.proofs.Alike.{entry, equal_too}
use Rattle.same.proofs.values.alike.Goals as goal

pub returns : goal.returns
returns c = search (entry c.args.x (omega arith), entry c.args.y (omega arith), equal_too c.args.x c.args.y)
