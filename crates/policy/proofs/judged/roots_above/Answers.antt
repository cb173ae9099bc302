-- `roots_above` answers which of the roots that are asked for may stand above, and the limit of each of them, whatever the file is: the numbers are
-- in the records. The invariant: the places below i are judged where they are asked for.
use Rattle.std.proofs.Common.{◌≡◌, ◌<◌, true, false, refl, sym, ap, ◌∙◌, arith, rules}
use Rattle.places.specs.Limits.{roots_most}
use Rattle.record.specs.Parts.{certificate_of}
use Rattle.record.proofs.Meaning.{own-head}
use Rattle.certificates.proofs.Records.{size-within}
use Rattle.rows.specs.Rows.{has}
use Rattle.rules.specs.Limits.{limit_of}
use Rattle.policy.specs.Sound.{top_sound, sound_roots, root_limits}
use Rattle.policy.proofs.Places.{judging_starts, judging_passes, judging_turn, judging_ends}
use Rattle.policy.proofs.judged.roots_above.Goals as goal
use Rattle.policy.proofs.judged.roots_above.Goals.{After-has, then-has, else-has}

room : (c : After-has) → c.loop-i.i < roots_most
room c = omega (arith, c.size-i-end.ensures, size-within roots_most c.args.roots.count)

pub loop-i-init : goal.loop-i-init
loop-i-init c = let none = c.none-above.ensures in rw (none.0, none.1) (judging_starts _ _ roots_most)

pub put-requires : goal.put-requires
put-requires c = (search rules, room (goal.at.put-requires c).After-has)

pub loop-i-preserved : goal.loop-i-preserved
loop-i-preserved c =
    let a = c.args in
    let s = a.file.now in
    let i = c.loop-i.i in
    let j = c.loop-i.invariant in
    let fits = room (goal.at.loop-i-preserved c).After-has in
    elim c.if-has.branch [
      | then-has w ↦
          (let asked : has i a.asked ≡ true = sym c.has.ensures ∙ w.if-has.true in
          let own = own-head _ _ s w.head-head.ensures ∙ ap (λ r. certificate_of r s) w.record-record.ensures in
          let limit = w.limit.ensures ∙ ap limit_of own in
          let test = sym (w.top_sound.ensures _ s ∙ ap (top_sound a.time) own) in
          rw (w.above-is, w.put.ensures.sound, w.put.ensures.limits) (judging_turn _ _ _ _ _ i j fits _ _ w.top_sound.result (rw asked limit) (rw asked test) refl))
      | else-has w ↦
          (let no : has i a.asked ≡ false = sym c.has.ensures ∙ w.if-has.false in
          rw w.above-is (judging_passes _ _ _ _ _ i j fits (rw no) (rw no)))
    ]

pub returns : goal.returns
unfolding sound_roots root_limits
returns c =
    judging_ends _ _ _ _ _ c.loop-i.i c.size-i-end.result _ c.loop-i.invariant (omega arith) (omega arith) c.size-i-end.ensures
