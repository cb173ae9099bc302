-- `places_judged` answers the places that may stand between leaf and root with their limits, those that are sound as the leaf, and those
-- between that path lengths count. The invariant: the places below i are judged.
use native.Mathlib.Omega.{arith}
use Prim.Native.Nat.{◌<◌}
use mathlib.Core.Bool.{Bool, not, ◌&&◌}
use mathlib.Core.Path.{◌≡◌, refl, sym, ap, ◌∙◌}
use borrow.Author.Rules.{rules}
use Rattle.places.specs.Limits.{bundle_most}
use Rattle.text.proofs.Each.{both_true}
use Rattle.record.specs.Parts.{certificate_of}
use Rattle.record.specs.declared.Record.{Record}
use Rattle.record.proofs.Meaning.{own-head}
use Rattle.certificates.specs.Certificates.{record_of}
use Rattle.certificates.proofs.Records.{size-within, record_within}
use Rattle.rows.specs.Rows.{joined, row_of}
use Rattle.rows.proofs.Places.{row-none, row_more, row_kept}
use Rattle.issuing.specs.Records.{self_issued_at}
use Rattle.issuing.proofs.Agrees.{and_no}
use Rattle.rules.specs.Limits.{limit_of}
use Rattle.policy.specs.Sound.{between_sound, leaf_sound_at, place_of, sound_places, place_limits, sound_leaves, counted_places}
use Rattle.policy.proofs.Places.{judging_starts, judging_turn, judging_ends, row_of_judged}
use Rattle.policy.proofs.judged.places_judged.Goals as goal
use Rattle.policy.proofs.judged.places_judged.Goals.{After-leaf_sound, then-stands+then-not-self_issued, else-stands, else-stands-via-then-stands+else-not-self_issued, else-stands-via-else-stands, then-leaf_sound, else-leaf_sound}

room : (c : After-leaf_sound) → c.loop-i.i < bundle_most
room c = omega (arith, c.size-i-end.ensures, size-within bundle_most c.args.bundle.count)

pub loop-i-init : goal.loop-i-init
loop-i-init c = let none = c.none-between.ensures in rw (none.0, none.1) (judging_starts _ _ bundle_most, sym (row-none _), sym (row-none _))

pub bounds-bundle-i : goal.bounds-bundle-i
bounds-bundle-i c = omega (arith, c.size-i-end.ensures, size-within bundle_most c.args.bundle.count)

pub put-requires : goal.put-requires
put-requires c = (search rules, omega (arith, c.size-i-end.ensures, size-within bundle_most c.args.bundle.count))

pub loop-i-preserved : goal.loop-i-preserved
loop-i-preserved c =
    let a = c.args in
    let s = a.file.now in
    let k = c.loop-i in
    let i = k.i in
    let j = k.invariant in
    let fits = room (goal.at.loop-i-preserved c).After-leaf_sound in
    let there = record_within a.bundle.count a.bundle.records i bundle_most (omega (arith, c.size-i-end.ensures)) in
    let own = own-head _ _ s c.head-head.ensures ∙ ap (λ r. certificate_of r s) there in
    let limit = c.limit.ensures ∙ ap limit_of own in
    let test = sym (c.between_sound-stands.ensures ∙ ap (between_sound a.time) own) in
    let leaf = sym (c.leaf_sound.ensures ∙ ap (leaf_sound_at s a.time a.host.now) there) in
    let other : Record → Bool = λ r. not (self_issued_at s r) in
    let stands = between_sound a.time (place_of s a.bundle i) in
    let counts = other (record_of a.bundle.count a.bundle.records i) in (
      rw (c.put.ensures.sound, c.put.ensures.limits) (judging_turn _ _ _ _ _ i j.0 fits _ _ c.between_sound-stands.result limit test refl),
      elim c.if-leaf_sound.branch [
        | then-leaf_sound w ↦ w.leaves-is ∙ w.with-leaves.ensures ∙ ap (λ row. joined row i) j.1 ∙ sym (row_more _ _ (leaf ∙ w.if-leaf_sound.true))
        | else-leaf_sound w ↦ w.leaves-is ∙ j.1 ∙ sym (row_kept _ _ (leaf ∙ w.if-leaf_sound.false))
      ],
      elim c.if-stands.branch [
        | then-stands+then-not-self_issued w ↦
            (let said = sym (ap not w.self_issued.ensures ∙ ap other there) in
            w.counted-is ∙ w.with-counted.ensures ∙ ap (λ row. joined row i) j.2 ∙ sym (row_more _ _ ((both_true stands counts).1 (test ∙ w.if-stands.true, said ∙ ap not w.if-not-self_issued.true))))
        | else-stands w ↦ w.counted-is ∙ j.2 ∙ sym (row_kept _ _ (elim w.else-stands.branch [
          | else-stands-via-then-stands+else-not-self_issued v ↦
              and_no stands counts (sym (ap not v.self_issued.ensures ∙ ap other there) ∙ ap not v.if-not-self_issued.false)
          | else-stands-via-else-stands v ↦ ap (λ b. b && counts) (test ∙ v.if-stands.false)
        ]))
      ],
    )

pub returns : goal.returns
unfolding sound_places place_limits sound_leaves counted_places
returns c =
    let j = c.loop-i.invariant in
    let size = c.size-i-end.ensures in
    let e : c.loop-i.i ≡ c.size-i-end.result = omega arith in
    let judged = judging_ends _ _ _ _ _ c.loop-i.i c.size-i-end.result _ j.0 (omega arith) (omega arith) size in
    record {
      sound_value = judged;
      leaves_value = j.1 ∙ ap (row_of _) (e ∙ size);
      counted_value = rw judged.0 (j.2 ∙ ap (row_of _) (e ∙ size) ∙ row_of_judged _ _ _ (omega (arith, size-within bundle_most c.args.bundle.count)));
    }
