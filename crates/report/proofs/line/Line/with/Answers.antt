-- `Line::with` copies more bytes behind the line's.
use Rattle.std.proofs.Common.{◌≡◌, ◌+◌, ◌-◌, length, refl, arith}
use Rattle.std.proofs.lemmas.Slice.{put_mid-paste}
use Rattle.report.proofs.Growing.{grown}
use Rattle.report.proofs.line.Line.with.Goals as goal

pub returns-clause-by_index : goal.returns-clause-by_index
returns-clause-by_index c =
    let a = c.args in
    let n : length a.more.now ≡ a.self.length + length a.more.now - a.self.length = omega arith in
    grown a.self a.more.now _ c.requires (put_mid-paste _ _ _ _ _ _ c.copy_from_slice.ensures.after n refl)
