-- `match_lowering` meets its contract: a law of `Star` for each return, and what the calls ensure.
use mathlib.Core.Path.{sym, ◌∙◌}
use mathlib.Core.Logic.{⊎_elim}
use native.Mathlib.Omega.{arith}
use Rattle.std.proofs.Common.{rules}
use Rattle.text.proofs.Same.{tail, tail-length}
use Rattle.text.proofs.Star.{asked_star, plain, bare, short, labelled}
use Rattle.text.proofs.wildcard.match_lowering.Goals as goal

pub returns-then-not-starts_with : goal.returns-then-not-starts_with
returns-then-not-starts_with c =
    let p = c.args.pattern.now in
    let star = asked_star p c.starts_with.ensures.value c.if-not-starts_with.true in
    c.equal_lowering.ensures ∙ sym (plain c.args.lowering p c.args.name.now star)

pub returns-then-pattern-le2 : goal.returns-then-pattern-le2
returns-then-pattern-le2 c =
    let p = c.args.pattern.now in
    let star = asked_star p c.starts_with.ensures.value c.if-not-starts_with.false in
    sym (⊎_elim (bare c.args.lowering p c.args.name.now star) (λ h. short c.args.lowering p c.args.name.now star (omega arith) (omega (arith, tail-length))) c.then-pattern-le2.either)

pub returns-then-equal_lowering : goal.returns-then-equal_lowering
returns-then-equal_lowering c =
    let p = c.args.pattern.now in
    let star = asked_star p c.starts_with.ensures.value c.if-not-starts_with.false in
    let l = labelled c.args.lowering p c.args.name.now star (omega arith) _ (tail 1 p) (omega (arith, tail-length)) in
    search rules

pub returns-else-equal_lowering : goal.returns-else-equal_lowering
returns-else-equal_lowering c =
    let p = c.args.pattern.now in
    let star = asked_star p c.starts_with.ensures.value c.if-not-starts_with.false in
    let l = labelled c.args.lowering p c.args.name.now star (omega arith) _ (tail 1 p) (omega (arith, tail-length)) in
    search rules
