-- What was read stands behind what stood there.
use Rattle.std.proofs.Common.{◌≡◌, ℕ, ◌+◌, ◌≤◌, List, ◌++◌, rules, length, take, drop, sym, ap, ◌∙◌, subst, le_refl, drop_at, length-take-le}
use Rattle.std.proofs.lemmas.Slice.{take-put_mid_below}
use Rattle.std.specs.Io.KnownBytes.{Consumes}
use Rattle.std.proofs.KnownBytes.{Consumes-trans}
use borrow.Rule.Slice.PartMut.{put_mid, post_of}
use lib.Seq.{take-add, take-append-le}
use Rattle.intake.proofs.fill.Goals as goal

take_put_more : (a k n : ℕ) (xs ys : List ℕ) → a ≤ length xs → n ≤ length ys → take a xs ++ take n ys ≡ take (a + n) (put_mid a k xs ys)
take_put_more a k n xs ys within fits =
    let after = post_of a k xs in
    let behind = drop_at (take a xs) (ys ++ after) a (length-take-le a xs within) in
    ap (λ l. take a xs ++ l) (sym (take-append-le n ys after fits) ∙ ap (take n) (sym behind))
    ∙ ap (λ l. l ++ take n (drop a (put_mid a k xs ys))) (sym (take-put_mid_below a k xs ys a (le_refl a) within))
    ∙ sym (take-add a n (put_mid a k xs ys))

pub loop-done-preserved : goal.loop-done-preserved
loop-done-preserved g c = record {
  room = search rules;
  same_length = search rules;
  bytes = subst (Consumes _ _) (take_put_more _ _ _ _ _ c.loop-done.invariant.room c.in_ok-more.ensures.bound.0) (Consumes-trans _ _ _ _ _ c.loop-done.invariant.bytes c.in_ok-more.ensures.bytes.0);
}
