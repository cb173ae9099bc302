-- `ip_addr_in_range` meets its contract: no kind where lengths do not fit, and else what `agrees` ensures.
use mathlib.Core.Path.{sym}
use mathlib.Core.Logic.{inl, inr, ⊎_elim}
use native.Mathlib.Omega.{arith}
use Rattle.std.proofs.Common.{rules, length, drop, length-drop}
use Rattle.std.proofs.lemmas.List.{take_all}
use Rattle.keys.proofs.Range.{outside, inside}
use Rattle.keys.proofs.address.ip_addr_in_range.Goals as goal

pub returns-then-width-ne-V6 : goal.returns-then-width-ne-V6
returns-then-width-ne-V6 c = sym (outside _ _ (λ r a. omega arith) (λ r a. omega arith))

pub returns-then-range-width : goal.returns-then-range-width
returns-then-range-width c = sym (outside _ _ (λ r a. omega arith) (λ r a. omega arith))

pub returns : goal.returns
returns c =
    let i = inside c.args.range.now c.args.addr.now c.if-range-width.false (⊎_elim (λ w. inr w.1) inl c.else-width-ne-V4.either) in
    let whole = take_all (length c.args.addr.now) (drop (length c.args.addr.now) c.args.range.now) (simp (length-drop) (omega (arith, c.if-range-width.false))) in
    search (rules, whole)
