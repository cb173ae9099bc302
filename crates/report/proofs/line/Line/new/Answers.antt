-- `Line::new` is nothing but zeros.
use mathlib.Core.Path.{refl}
use Rattle.report.specs.Lines.{line_shown}
use Rattle.report.proofs.line.Line.new.Goals as goal

pub returns : goal.returns
unfolding line_shown
returns c = (refl, refl)
