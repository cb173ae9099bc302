-- `agrees` meets its contract: `all` asks each byte of the address under its mask.
use Prim.Native.Nat.{ℕ}
use mathlib.Core.Path.{◌∙◌}
use lib.Dec.{eqb}
use lib.Bits.{bit_and}
use borrow.Author.Tests.{tests}
use Rattle.std.proofs.Common.{rules}
use Rattle.std.specs.List.{zip}
use Rattle.keys.proofs.Range.{masked_zip}
use Rattle.keys.proofs.Stride.{all_asked, bytes, zipped, strided}
use Rattle.keys.proofs.address.agrees.Goals as goal

pub returns : goal.returns
returns c =
    let net = c.args.net.now in
    let mask = c.args.mask.now in
    let addr = c.args.addr.now in
    let bits = λ (p : (ℕ × ℕ) × ℕ). eqb (bit_and p.0.0 p.0.1) (bit_and p.1 p.0.1) in
    all_asked bytes bits c.all.new.self _ c.all.result c.all.ensures.runs c.all.ensures.ran (zip (zip net mask) addr) (λ x b q k. search (rules, tests)) (search (rules, zipped, strided))
    ∙ masked_zip net mask addr
